use Rattle.pip_any.proofs.Beginning.{images_look_alike, steps_depend_on_outside}
use Rattle.pip_any.proofs.Naming.{confined_programs_are_named, programs_are_named}
use Rattle.pip_any.proofs.law_programs.Goals as goal

pub returns : goal.returns
returns c = record {
  names = programs_are_named;
  confined = confined_programs_are_named;
  images = images_look_alike;
  steps = steps_depend_on_outside;
}
