use Rattle.pip_certificates.proofs.Lost.{none_is_lost}
use Rattle.pip_certificates.proofs.parts.laws.law_lost.Goals as goal

pub returns : goal.returns
returns c = none_is_lost
