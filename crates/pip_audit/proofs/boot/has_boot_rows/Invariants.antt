use Rattle.std.proofs.Common.{ℕ, ◌<◌, ◌+◌, ◌*◌}
use Rattle.pip_audit.specs.BootRows.{HasBootRow}
use Rattle.pip_audit.specs.Tables.{tables_in}
use Rattle.pip_audit.proofs.boot.has_boot_rows.Given as goal

-- the rows in the tables so far are the boot's
abbrev pub invariant-loop-k : goal.invariant-loop-k
invariant-loop-k g l = (k i : ℕ) → k < l.k → i < 1024
    → HasBootRow (g.M.Frames.memory l.mem) (tables_in (g.M.Frames.memory l.mem) l.tables.part) (1024 * (1 + k) + i)
