use Rattle.pip_switch.proofs.Working.{runs_take_no_more}
use Rattle.pip_switch.proofs.laws.law_work.Goals as goal

pub returns : goal.returns
returns c = runs_take_no_more
