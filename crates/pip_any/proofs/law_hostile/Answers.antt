use Rattle.pip_any.proofs.Choosing.{turns_have_choices}
use Rattle.pip_any.proofs.Keeping.{confined_keeps_to_menu}
use Rattle.pip_any.proofs.Testing.{states_pass}
use Rattle.pip_any.proofs.law_hostile.Goals as goal

pub returns : goal.returns
returns c = record {
  turns = turns_have_choices;
  confined = confined_keeps_to_menu;
  passed = states_pass;
}
