use Rattle.pip_slots.proofs.Machines.{machines_begin, machines_separate}
use Rattle.pip_slots.proofs.law_slots_of_machines.Goals as goal

pub returns : goal.returns
returns c = record { separate = machines_separate; begins = machines_begin }
