use Rattle.pip_switch.proofs.Isolating.{runs_are_the_models}
use Rattle.pip_switch.proofs.laws.law_runs.Goals as goal

pub returns : goal.returns
returns c = runs_are_the_models
