use Rattle.std.proofs.Common.{◌^◌, Some, arith}
use Rattle.pip_audit.specs.declared.tables.SoughtRows.TheVariants as S
use Rattle.pip_audit.specs.Tables.{tables_in}
use Rattle.pip_audit.proofs.Inserts.{next_is}
use Rattle.pip_audit.proofs.Rows.{first_is}
use Rattle.pip_audit.proofs.tables.Tables.next_row.Goals as goal

pub returns-in-Some : goal.returns-in-Some
returns-in-Some g c =
    let m = g.M.Frames.memory c.args.mem.now in
    let part = c.args.self.now.part in
    let from = c.args.from in
    next_is m part from (Some c.in-Some.row) (first_is S.Any m (tables_in m part) from (2 ^ 20) from c.in-Some.row
    c.in-Some.ensures (omega arith) (omega (arith, c.if-from-lt-VPAGES.true))
    (λ u lo hi. absurd (omega (arith, lo, hi))))

pub returns : goal.returns
returns g c =
    next_is (g.M.Frames.memory c.args.mem.now) c.args.self.now.part c.args.from c.later_row.result c.later_row.ensures
