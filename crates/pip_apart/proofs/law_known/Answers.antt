use Rattle.pip_apart.proofs.Known.{known_are_in_company, known_guests_hold, known_lines_suffice, runs_show_known}
use Rattle.pip_apart.proofs.Known.{slots_show_known}
use Rattle.pip_apart.proofs.Once.{known_once}
use Rattle.pip_apart.proofs.law_known.Goals as goal

pub returns : goal.returns
returns c = record {
  once = known_once;
  lines = known_lines_suffice;
  slots = slots_show_known;
  runs = runs_show_known;
  company = known_are_in_company;
  hold = known_guests_hold;
}
