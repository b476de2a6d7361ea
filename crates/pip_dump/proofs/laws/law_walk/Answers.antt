use Rattle.pip_model.proofs.Trees.Siblings.{meets_children}
use Rattle.pip_model.proofs.Trees.Walks.{meets_all}
use Rattle.pip_dump.proofs.laws.law_walk.Goals as goal

pub returns : goal.returns
returns c = record { all = meets_all; children = λ t x s i. meets_children t s x i }
