use Rattle.pip_guests.proofs.Ancestors.{ancestors_leave_guests_alone, ancestors_on_machines}
use Rattle.pip_guests.proofs.law_ancestors.Goals as goal

pub returns : goal.returns
returns c = record { model = ancestors_leave_guests_alone; machines = ancestors_on_machines }
