use Rattle.std.proofs.Common.{◌≡◌, ap, ◌∙◌, subst, Some, None}
use Rattle.std.specs.Prelude.{if◌then◌else◌}
use Rattle.pip_audit.specs.Tables.{IsRowAt, row_seen, row_sought, tables_in}
use Rattle.pip_audit.proofs.Visits.{sought_none}
use Rattle.pip_audit.proofs.tables.Tables.sought_at.Goals as goal

pub returns-in_default : goal.returns-in_default
returns-in_default g c =
    let m = g.M.Frames.memory c.args.mem.now in
    let ts = tables_in m c.args.self.now.part in
    sought_none c.args.sought m ts c.args.v (subst (IsRowAt m ts c.args.v) c.in_default.is c.row.ensures)

pub returns-then-not-is_sought : goal.returns-then-not-is_sought
returns-then-not-is_sought g c =
    let m = g.M.Frames.memory c.args.mem.now in
    let ts = tables_in m c.args.self.now.part in
    let row = c.in-Some.row in
    let is = subst (IsRowAt m ts c.args.v) c.in-Some.is c.row.ensures in
    subst (λ u. row_sought c.args.sought m ts u ≡ None) is.0
    (c.is_sought.ensures ∙ ap (λ b. if b then Some (row_seen row) else None) c.if-not-is_sought.true)

pub returns : goal.returns
returns g c =
    let m = g.M.Frames.memory c.args.mem.now in
    let ts = tables_in m c.args.self.now.part in
    let row = c.in-Some.row in
    let is = subst (IsRowAt m ts c.args.v) c.in-Some.is c.row.ensures in (
      is.0,
      is.1,
      subst (λ u. row_sought c.args.sought m ts u ≡ Some (row_seen row)) is.0
          (c.is_sought.ensures ∙ ap (λ b. if b then Some (row_seen row) else None) c.if-not-is_sought.false),
    )
