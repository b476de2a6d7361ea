use Rattle.pip_switch.proofs.Isolating.{machines_give_back}
use Rattle.pip_switch.proofs.laws.law_give_back.Goals as goal

pub returns : goal.returns
returns c = machines_give_back
