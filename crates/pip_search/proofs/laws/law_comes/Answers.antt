use Rattle.pip_search.proofs.Avoided.{not_avoided}
use Rattle.pip_search.proofs.laws.law_comes.Goals as goal

pub returns : goal.returns
returns g c = not_avoided (g.S.System.model (g.S.System.base c.args._system.now))
