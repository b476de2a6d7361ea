use Rattle.pip_search_commands.proofs.EveryLines.{lines_are_of_runs}
use Rattle.pip_search_commands.proofs.EveryOnce.{searches_once}
use Rattle.pip_search_commands.proofs.laws.law_every.Goals as goal

pub returns : goal.returns
returns c = record { once = searches_once; lines = lines_are_of_runs }
