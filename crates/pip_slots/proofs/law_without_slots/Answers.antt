use Rattle.pip_slots.proofs.Limits.{native_is_not_separate}
use Rattle.pip_slots.proofs.law_without_slots.Goals as goal

pub returns : goal.returns
returns c = native_is_not_separate
