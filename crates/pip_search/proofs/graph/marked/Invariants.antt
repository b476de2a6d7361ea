use Rattle.std.proofs.Common.{◌≡◌, ℕ, ◌<◌, Some, slice_get}
use Rattle.pip_search.specs.Graphs.{IsListed, IsMarked}
use Rattle.pip_search.proofs.graph.marked.Given as goal

-- those before this place
abbrev pub invariant-loop-place : goal.invariant-loop-place
invariant-loop-place l = record {
  queued : (j : ℕ) → j < l.place → IsMarked l.marks j → IsListed l.queue.items j;
  marked : (p j : ℕ) → slice_get l.queue.items p ≡ Some j → IsMarked l.marks j;
}
