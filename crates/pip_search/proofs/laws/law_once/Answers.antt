use Rattle.pip_search.proofs.Once.{says_once}
use Rattle.pip_search.proofs.laws.law_once.Goals as goal

pub returns : goal.returns
returns g c = says_once (g.S.System.model (g.S.System.base c.args._system.now))
