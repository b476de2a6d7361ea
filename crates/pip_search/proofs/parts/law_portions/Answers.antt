use Rattle.pip_search.proofs.Portioning.{say_one_portion}
use Rattle.pip_search.proofs.parts.law_portions.Goals as goal

pub returns : goal.returns
returns g c = say_one_portion (g.S.System.model (g.S.System.base c.args._system.now))
