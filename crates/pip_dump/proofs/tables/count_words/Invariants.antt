use Rattle.std.proofs.Common.{◌≡◌, ℕ, ◌+◌, ◌*◌, ◌≤◌, length}
use Rattle.pip_model.specs.Tree.{Node, Tree}
use Rattle.pip_dump.specs.Tables.{AreLeaves}
use Rattle.pip_dump.specs.Walk.{rows_above}
use Rattle.pip_dump.proofs.tables.count_words.Given as goal

-- that many rows were passed
abbrev pub invariant-loop-j : goal.invariant-loop-j
invariant-loop-j l = record {
  few : l.count ≤ l.j;
  passed : (t : Tree) (x : Node) (i : ℕ) → AreLeaves t x i l.words
      → l.count + length (rows_above (1024 * i + l.j) x.rows) ≡ length (rows_above (1024 * i) x.rows);
}
