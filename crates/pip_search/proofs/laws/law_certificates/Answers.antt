use Rattle.pip_search.proofs.Certified.{certificates_count_all, certificates_say_all}
use Rattle.pip_search.proofs.Answered.{lists_merge}
use Rattle.pip_search.proofs.laws.law_certificates.Goals as goal

pub returns-clause-all : goal.returns-clause-all
returns-clause-all g c = certificates_say_all (g.S.System.model (g.S.System.base c.args._system.now))

pub returns-clause-count : goal.returns-clause-count
returns-clause-count g c = certificates_count_all (g.S.System.model (g.S.System.base c.args._system.now))

pub returns-clause-merge : goal.returns-clause-merge
returns-clause-merge g c = lists_merge
