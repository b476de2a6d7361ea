use Rattle.pip_guests.proofs.Machines.{machines_are_left_alike, machines_depend_on_guests, machines_depend_on_inputs}
use Rattle.pip_guests.proofs.Machines.{machines_keep_guests_apart, machines_leave_guests_alone}
use Rattle.pip_guests.proofs.Machines.{machines_leave_other_guests_alone, machines_run_guests_as_alone}
use Rattle.pip_guests.proofs.Machines.{machines_run_on_inputs}
use Rattle.pip_guests.proofs.law_guests_of_machines.Goals as goal

pub returns : goal.returns
returns c = record {
  others = machines_leave_other_guests_alone;
  depends = machines_depend_on_guests;
  left = machines_are_left_alike;
  apart = machines_leave_guests_alone;
  lists = machines_keep_guests_apart;
  alone = machines_run_guests_as_alone;
  inputs = machines_depend_on_inputs;
  steps = machines_run_on_inputs;
}
