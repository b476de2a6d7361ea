use Rattle.pip_search_commands.proofs.InTime.{choices_keep_time}
use Rattle.pip_search_commands.proofs.RunsChosen.{closed_names_runs, covered_names_runs, runs_are_choices, traces_go_on}
use Rattle.pip_search_commands.proofs.TextNames.{closed_texts_name_runs}
use Rattle.pip_search_commands.proofs.laws.law_every_runs.Goals as goal

pub returns : goal.returns
returns c = record {
  choices = runs_are_choices;
  time = choices_keep_time;
  closed = closed_names_runs;
  covered = covered_names_runs;
  traces = traces_go_on;
  text = closed_texts_name_runs;
}
