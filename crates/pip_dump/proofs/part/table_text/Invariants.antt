use Rattle.std.proofs.Common.{◌≡◌, ℕ, ◌+◌, ◌*◌, ◌-◌, ◌≤◌, List}
use Rattle.pip_io.specs.Taken.{Taken}
use Rattle.pip_model.specs.Tree.{Node, Tree}
use Rattle.pip_dump.specs.Tables.{AreGiven, AreLeaves, RowsLeft}
use Rattle.pip_dump.proofs.part.table_text.Given as goal

-- the lines of the rows from here on are left
abbrev pub invariant-loop-j : goal.invariant-loop-j
invariant-loop-j g l = record {
  high : l.from ≤ 1024;
  no_faults : (g.K.Sink.history l.sink).faults ≡ (g.K.Sink.history l.fn.sink).faults;
  left : (t : Tree) (x : Node) (old : Taken) (whole : List ℕ) → AreLeaves t x l.i l.leaves → AreGiven t x l.i l.given
      → RowsLeft t x (1024 * l.i) old (g.K.Sink.history l.fn.sink).written whole
      → RowsLeft t x (1024 * l.i + l.from) old (g.K.Sink.history l.sink).written whole;
}

abbrev pub decreases-loop-j : goal.decreases-loop-j
decreases-loop-j g l = 1024 - l.from
