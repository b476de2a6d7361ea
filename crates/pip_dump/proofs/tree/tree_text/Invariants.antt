use Rattle.std.proofs.Common.{◌≡◌}
use Rattle.pip_model.specs.Partitions.{IsHeld}
use Rattle.pip_model.specs.Tree.{Tree}
use Rattle.pip_dump.specs.Walk.{IsWalkedTo}
use Rattle.pip_dump.proofs.tree.tree_text.Given as goal

-- the texts of that many partitions were written
abbrev pub invariant-loop-i : goal.invariant-loop-i
invariant-loop-i g l = record {
  no_faults : (g.K.Sink.history l.sink).faults ≡ (g.K.Sink.history l.fn.sink).faults;
  told : (t : Tree) → IsHeld t (g.M.Frames.memory l.mem)
      → IsWalkedTo t l._i l.next (g.K.Sink.history l.fn.sink).written (g.K.Sink.history l.sink).written;
}
