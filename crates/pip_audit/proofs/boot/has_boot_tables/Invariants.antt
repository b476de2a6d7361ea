use Rattle.std.proofs.Common.{◌≡◌, ◌+◌, length}
use Rattle.pip_model.specs.Boot.{boot_root}
use Rattle.pip_model.specs.Parts.{same_all, same_table}
use Rattle.pip_audit.specs.Tables.{tables_in}
use Rattle.pip_audit.proofs.BootRoot.{root_table, tables_here}
use Rattle.pip_audit.proofs.boot.has_boot_tables.Given as goal

-- the slots so far are the boot's
abbrev pub invariant-loop-k : goal.invariant-loop-k
invariant-loop-k g l =
    let m = g.M.Frames.memory l.mem in
    same_all same_table (tables_in m 1) (boot_root (length m)).tables
    ≡ tables_here (root_table m (l.count + 1)) l.count l.k
