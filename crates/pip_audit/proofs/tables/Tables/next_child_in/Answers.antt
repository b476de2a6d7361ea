use Rattle.std.proofs.Common.{◌≡◌, ◌/◌, ◌%◌, sym, ◌∙◌, subst, arith, Some}
use Rattle.std.specs.Prelude.{option_map}
use Rattle.pip_model.specs.Tree.{table_at}
use Rattle.pip_audit.specs.declared.tables.SoughtRows.TheVariants as S
use Rattle.pip_audit.specs.Tables.{tables_in, triple_of}
use Rattle.pip_audit.proofs.Visits.{lacks_none}
use Rattle.pip_audit.proofs.tables.Tables.next_child_in.Goals as goal

pub returns-in-Some : goal.returns-in-Some
returns-in-Some g c = λ v lo hi.
    let m = g.M.Frames.memory c.args.mem.now in
    let ts = tables_in m c.args.self.now.part in
    let b = c.in-Some.tables in
    let small = c.requires.small in
    let of = c.requires.of.of (c.args.from / 1024) (omega (arith, small)) in
    let e : c.args.from / 1024 ≡ v / 1024 = omega (arith, lo, hi) in
    lacks_none S.Child m ts c.args.blocks.now b v c.requires.known
    (subst (λ d. option_map triple_of (table_at ts d) ≡ Some b) e (sym of ∙ sym c.at.ensures ∙ c.in-Some.is))
    (c.lacks_children.ensures c.if-lacks_children.true (v % 1024 / 32) (omega arith))
