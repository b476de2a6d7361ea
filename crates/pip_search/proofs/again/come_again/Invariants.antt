use Rattle.std.proofs.Common.{ℕ, ◌<◌}
use Rattle.pip_search.specs.Graphs.{IsMarked}
use Rattle.pip_search.proofs.again.come_again.Given as goal

-- those before this place are marked
abbrev pub invariant-loop-place : goal.invariant-loop-place
invariant-loop-place g l = (j : ℕ) → j < l.place → IsMarked l.marks.items j
