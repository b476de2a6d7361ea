use Rattle.std.proofs.Common.{◌≤◌, ◌+◌, ◌-◌, ◌*◌, arith, ap, ◌∙◌, subst}
use Rattle.pip_model.specs.Boot.{tables_of_root}
use Rattle.pip_audit.specs.Tables.{tables_in}
use Rattle.pip_audit.proofs.BootRoot.{all_boot_rows}
use Rattle.pip_audit.proofs.boot.has_boot_rows.Goals as goal

pub returns : goal.returns
returns g c =
    let m = g.M.Frames.memory c.args.mem.now in
    let past = c.loop-k-test.false in
    let count = c.root_tables-count.ensures in
    all_boot_rows m (tables_in m c.args.tables.now.part) c.root_tables-count.result c.has_boot_rows_in-2.result
    (count.number ∙ ap tables_of_root c.count.ensures)
    (subst (λ n. n - 6 - 3 * (c.root_tables-count.result + 1) - 1 ≤ 1024 * c.root_tables-count.result) c.count.ensures
    count.enough)
    count.few c.requires.tables
    (λ k i hk hi. c.loop-k.invariant k i (omega (arith, hk, past)) hi)
    c.has_boot_rows_in-2.ensures
