use Rattle.pip_lab_commands.proofs.SlotsApart.{children_are_separate}
use Rattle.pip_lab_commands.proofs.laws.law_slots_apart.Goals as goal

pub returns : goal.returns
returns c = children_are_separate
