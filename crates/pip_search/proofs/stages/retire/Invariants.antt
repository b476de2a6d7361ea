use Rattle.pip_search.specs.Stages.{AreRetired}
use Rattle.pip_search.proofs.stages.retire.Given as goal

abbrev pub invariant-loop-place : goal.invariant-loop-place
invariant-loop-place l = AreRetired l.orders l.stage 0 l.place l.fn.stages l.stages l.some
