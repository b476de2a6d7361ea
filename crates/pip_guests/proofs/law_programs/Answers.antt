use Rattle.pip_guests.proofs.Numbers.{steps_do_not_matter}
use Rattle.pip_guests.proofs.OnInputs.{programs_depend_on_inputs, steps_are_items, steps_depend_on_inputs}
use Rattle.pip_guests.proofs.Programs.{lines_do_not_matter, other_turns_do_not_matter, programs_run_as_alone}
use Rattle.pip_guests.proofs.Programs.{runs_are_steps, runs_go_on}
use Rattle.pip_guests.proofs.Turns.{poll_vain, turn_same}
use Rattle.pip_guests.proofs.TurnsLeaving.{turns_leave_alike}
use Rattle.pip_guests.proofs.law_programs.Goals as goal

pub returns : goal.returns
returns c = record {
  turns = turn_same;
  left = turns_leave_alike;
  polls = poll_vain;
  numbers = steps_do_not_matter;
  runs = runs_are_steps;
  rest = runs_go_on;
  others = other_turns_do_not_matter;
  alone = programs_run_as_alone;
  lines = lines_do_not_matter;
  inputs = programs_depend_on_inputs;
  items = steps_are_items;
  steps = steps_depend_on_inputs;
}
