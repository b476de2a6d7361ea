use Rattle.std.proofs.Common.{◌≤◌, ◌^◌, List}
use Rattle.pip_model.specs.Partitions.{HasPartition, IsHeld}
use Rattle.pip_model.specs.Tree.{Node, Tree}
use Rattle.pip_dump.specs.Walk.{IsAt}
use Rattle.pip_dump.proofs.place.next_place.Given as goal

-- the walk stands at the place or at an ancestor that it came back to, and still comes to the same nodes
abbrev pub invariant-loop-child : goal.invariant-loop-child
invariant-loop-child g l = record {
  stands : HasPartition (g.M.Frames.memory l.mem) l.part;
  small : l.depth ≤ 4096;
  page : l.after ≤ 2 ^ 20;
  comes : (t : Tree) (rest : List Node) → IsHeld t (g.M.Frames.memory l.mem) → IsAt t l.place.part l.place.depth 0 rest
      → IsAt t l.part l.depth l.after rest;
}

abbrev pub decreases-loop-child : goal.decreases-loop-child
decreases-loop-child g l = l.depth
