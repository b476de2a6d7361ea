use Rattle.std.proofs.Common.{◌≡◌, ◌+◌, ◌*◌, ◌/◌, ◌%◌, sym, ◌∙◌, subst, arith, None, Some}
use Rattle.std.specs.Prelude.{option_map}
use Rattle.pip_model.specs.Tree.{table_at}
use Rattle.pip_audit.specs.Blocks.{LacksSought}
use Rattle.pip_audit.specs.Tables.{IsFirstSought, tables_in, triple_of}
use Rattle.pip_audit.proofs.Rows.{no_row}
use Rattle.pip_audit.proofs.Visits.{lacks_none, sought_none}
use Rattle.pip_audit.proofs.tables.Tables.next_of_block.Goals as goal

pub returns-in_err-tables : goal.returns-in_err-tables
returns-in_err-tables g c =
    let m = g.M.Frames.memory c.args.mem.now in
    let ts = tables_in m c.args.self.now.part in
    let small = c.requires.small in
    let of = c.requires.of.of (c.args.from / 1024) (omega (arith, small)) in
    subst (IsFirstSought c.args.sought m ts c.args.from (32 * (c.args.from / 32) + 32)) (sym c.from_residual.ensures)
    (λ v lo hi.
    let e : c.args.from / 1024 ≡ v / 1024 = omega (arith, lo, hi) in
    sought_none c.args.sought m ts v (no_row m ts v
    (subst (λ d. option_map triple_of (table_at ts d) ≡ None) e (sym of ∙ sym c.in_err-tables.ensures))))

pub returns-then-lacks : goal.returns-then-lacks
returns-then-lacks g c = λ v lo hi.
    let m = g.M.Frames.memory c.args.mem.now in
    let ts = tables_in m c.args.self.now.part in
    let b = c.in_ok-tables.tables in
    let small = c.requires.small in
    let of = c.requires.of.of (c.args.from / 1024) (omega (arith, small)) in
    let e : c.args.from / 1024 ≡ v / 1024 = omega (arith, lo, hi) in
    let k : c.args.from % 1024 / 32 ≡ v % 1024 / 32 = omega (arith, lo, hi) in
    lacks_none c.args.sought m ts c.args.blocks.now b v c.requires.known
    (subst (λ d. option_map triple_of (table_at ts d) ≡ Some b) e (sym of ∙ sym c.in_ok-tables.ensures))
    (subst (LacksSought c.args.sought c.args.blocks.now b) k (c.lacks.ensures c.if-lacks.true))
