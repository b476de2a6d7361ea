use Rattle.pip_search_commands.proofs.AgainstOnce.{closed_names_menus, inputs_say_once, no_is_avoided, no_is_lost}
use Rattle.pip_search_commands.proofs.AgainstOnce.{yes_comes, yes_comes_again}
use Rattle.pip_search_commands.proofs.Covered.{matched_runs_are_named}
use Rattle.pip_search_commands.proofs.EveryOnce.{told_every}
use Rattle.pip_search_commands.proofs.TextNames.{closed_texts_name_menus, yes_texts_come_again}
use Rattle.pip_search_commands.proofs.laws.law_against.Goals as goal

pub returns : goal.returns
returns c = record {
  once = inputs_say_once;
  empty = told_every;
  closed = closed_names_menus;
  matched = matched_runs_are_named;
  yes = yes_comes_again;
  no = no_is_lost;
  comes = yes_comes;
  avoided = no_is_avoided;
  text = closed_texts_name_menus;
  said = yes_texts_come_again;
}
