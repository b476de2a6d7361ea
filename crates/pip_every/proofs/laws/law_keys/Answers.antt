use Rattle.pip_every.proofs.OneKey.{keys_tell_moments, moments_have_one_key}
use Rattle.pip_every.proofs.laws.law_keys.Goals as goal

pub returns : goal.returns
returns c = record { one = moments_have_one_key; alike = keys_tell_moments }
