use Rattle.std.proofs.Common.{◌≡◌, ℕ, ◌+◌, ◌*◌, ◌-◌, ◌≤◌}
use Rattle.pip_model.specs.Tree.{Node, Tree}
use Rattle.pip_dump.specs.Tables.{AreGiven, AreLeaves}
use Rattle.pip_dump.specs.Walk.{children_above}
use Rattle.pip_dump.proofs.tables.child_in.Given as goal

-- no child was passed
abbrev pub invariant-loop-j : goal.invariant-loop-j
invariant-loop-j l = record {
  high : l.k ≤ 1024;
  passed : (t : Tree) (x : Node) (i : ℕ) → AreLeaves t x i l.leaves → AreGiven t x i l.given
      → children_above t x (1024 * i + l.k) ≡ children_above t x (1024 * i + l.from);
}

abbrev pub decreases-loop-j : goal.decreases-loop-j
decreases-loop-j l = 1024 - l.k
