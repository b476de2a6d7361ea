use Rattle.pip_certificates.proofs.Certifying.{lines_merge}
use Rattle.pip_certificates.proofs.parts.laws.law_merge.Goals as goal

pub returns : goal.returns
returns g c = lines_merge (g.S.System.model (g.S.System.base c.args._system.now))
