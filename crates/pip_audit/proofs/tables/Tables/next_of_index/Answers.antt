use Rattle.std.proofs.Common.{◌≡◌, ◌+◌, ◌*◌, ◌/◌, sym, ◌∙◌, subst, arith, None}
use Rattle.std.specs.Prelude.{option_map}
use Rattle.pip_model.specs.Tree.{table_at}
use Rattle.pip_audit.specs.Tables.{IsFirstRow, tables_in, triple_of}
use Rattle.pip_audit.proofs.Rows.{no_row}
use Rattle.pip_audit.proofs.tables.Tables.next_of_index.Goals as goal

pub returns-in_err-_tables : goal.returns-in_err-_tables
returns-in_err-_tables g c =
    let m = g.M.Frames.memory c.args.mem.now in
    let ts = tables_in m c.args.self.now.part in
    let small = c.requires.small in
    let of = c.requires.of.of (c.args.from / 1024) (omega (arith, small)) in
    subst (IsFirstRow m ts c.args.from (1024 * (c.args.from / 1024) + 1024)) (sym c.from_residual.ensures)
    (λ v lo hi.
    let e : c.args.from / 1024 ≡ v / 1024 = omega (arith, lo, hi) in
    no_row m ts v (subst (λ d. option_map triple_of (table_at ts d) ≡ None) e (sym of ∙ sym c.in_err-_tables.ensures)))
