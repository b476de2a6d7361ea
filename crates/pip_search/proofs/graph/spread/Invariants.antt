use Rattle.std.proofs.Common.{◌≡◌, ◌+◌, ◌-◌, length}
use Rattle.pip_search.specs.Graphs.{IsSpreading, marks_left}
use Rattle.pip_search.proofs.graph.spread.Given as goal

abbrev pub invariant-loop-i : goal.invariant-loop-i
invariant-loop-i l = record {
  spreading : IsSpreading l.edges.hashes.items l.width l.fn.marks.items l.marks.items l.queue.items l.i;
  count : length l.marks.items ≡ length l.fn.marks.items;
}

abbrev pub decreases-loop-i : goal.decreases-loop-i
decreases-loop-i l = length l.queue.items + marks_left l.marks.items - l.i
