use Rattle.std.proofs.Common.{ℕ, ◌<◌, ◌+◌, ◌*◌}
use Rattle.pip_audit.specs.BootRows.{HasBootRow}
use Rattle.pip_audit.specs.Tables.{tables_in}
use Rattle.pip_audit.proofs.boot.has_boot_rows_in.Given as goal

-- the rows so far are the boot's
abbrev pub invariant-loop-i : goal.invariant-loop-i
invariant-loop-i g l = (i : ℕ) → i < l.i
    → HasBootRow (g.M.Frames.memory l.mem) (tables_in (g.M.Frames.memory l.mem) l.tables.part) (1024 * l.index + i)
