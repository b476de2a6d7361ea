use Rattle.std.proofs.Common.{◌≡◌, ℕ, ◌+◌, Bool, List, Some, length, slice_get}
use Rattle.pip_search.specs.Graphs.{IsMarked, IsSpreading, IsFollowedTo, marks_left}
use Rattle.pip_search.proofs.graph.pull.Given as goal

-- the edges from `at` on were followed, and the marks are spread as they were before
abbrev pub invariant-loop-at : goal.invariant-loop-at
invariant-loop-at l = record {
  walk : IsFollowedTo l.edges l.width l.marks.items l.k l.at;
  keeps : (j : ℕ) → IsMarked l.fn.marks.items j → IsMarked l.marks.items j;
  count : length l.marks.items ≡ length l.fn.marks.items;
  sum : length l.queue.items + marks_left l.marks.items ≡ length l.fn.queue.items + marks_left l.fn.marks.items;
  stays : (p j : ℕ) → slice_get l.fn.queue.items p ≡ Some j → slice_get l.queue.items p ≡ Some j;
  spreading : (first : List Bool) (i : ℕ)
      → IsSpreading l.edges.hashes.items l.width first l.fn.marks.items l.fn.queue.items i
      → IsSpreading l.edges.hashes.items l.width first l.marks.items l.queue.items i;
}

abbrev pub decreases-loop-at : goal.decreases-loop-at
decreases-loop-at l = l.at
