use Rattle.pip_search.specs.Stages.{IsSwept}
use Rattle.pip_search.proofs.stages.sweep.Given as goal

abbrev pub invariant-loop-place : goal.invariant-loop-place
invariant-loop-place l = IsSwept l.targets l.classes l.stages l.width l.goal l.order 0 l.place l.fn.orders l.orders
    l.some
