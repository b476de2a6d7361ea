use Rattle.pip_search_commands.proofs.ApartHolds.{yes_guests_hold}
use Rattle.pip_search_commands.proofs.ApartNames.{yes_names_all, yes_names_runs}
use Rattle.pip_search_commands.proofs.ApartOnce.{apart_says_once}
use Rattle.pip_search_commands.proofs.laws.law_apart.Goals as goal

pub returns : goal.returns
returns c = record { once = apart_says_once; all = yes_names_all; runs = yes_names_runs; hold = yes_guests_hold }
