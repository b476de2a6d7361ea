use Rattle.pip_guests.proofs.Inputs.{calls_are_inputs, entries_are_inputs, guests_depend_on_inputs, stores_are_inputs}
use Rattle.pip_guests.proofs.Interrupts.{interrupts_are_inputs}
use Rattle.pip_guests.proofs.Lending.{lendings_are_inputs}
use Rattle.pip_guests.proofs.law_inputs.Goals as goal

pub returns : goal.returns
returns c = record {
  depends = guests_depend_on_inputs;
  entries = entries_are_inputs;
  stores = stores_are_inputs;
  calls = calls_are_inputs;
  lends = lendings_are_inputs;
  interrupts = interrupts_are_inputs;
}
