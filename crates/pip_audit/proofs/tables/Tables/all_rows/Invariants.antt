use Rattle.std.proofs.Common.{◌≡◌, ◌-◌, ◌^◌, ◌≤◌, Bool}
use Rattle.std.specs.List.{list_all}
use Rattle.pip_model.specs.ReadOff.{node_read}
use Rattle.pip_model.specs.Tree.{Row}
use Rattle.pip_audit.specs.Tables.{TestsRow, rows_left}
use Rattle.pip_audit.proofs.tables.Tables.all_rows.Given as goal

-- the rows so far passed
abbrev pub invariant-loop-row : goal.invariant-loop-row
invariant-loop-row g l = record {
  small : l.from ≤ 2 ^ 20;
  rows : (p : Row → Bool) → TestsRow (goal.F-post g l.passes) p
      → list_all p (node_read (g.M.Frames.memory l.mem) l.self.part).rows
      ≡ list_all p (rows_left (g.M.Frames.memory l.mem) l.self.part l.from);
}

abbrev pub decreases-loop-row : goal.decreases-loop-row
decreases-loop-row g l = 1048576 - l.from
