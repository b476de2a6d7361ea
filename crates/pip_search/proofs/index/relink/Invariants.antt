use Rattle.pip_search.specs.Filing.{AreLinked}
use Rattle.pip_search.proofs.index.relink.Given as goal

abbrev pub invariant-loop-at : goal.invariant-loop-at
invariant-loop-at l = AreLinked l.hashes l.chains l.heads l.at
