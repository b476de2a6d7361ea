use Rattle.std.proofs.Common.{◌≡◌, ◌/◌, arith, sym, ◌∙◌, subst, None}
use Rattle.std.specs.Prelude.{option_map}
use Rattle.pip_model.specs.Tree.{table_at}
use Rattle.pip_audit.specs.Tables.{tables_in, triple_of}
use Rattle.pip_audit.proofs.Visits.{visit_none}
use Rattle.pip_audit.proofs.auditor.Auditor.child_of_index.Goals as goal

pub returns-clause-first : goal.returns-clause-first
returns-clause-first g c = λ v lo hi.
    let m = g.M.Frames.memory c.args.mem.now in
    let ts = tables_in m c.args.self.now.node.part in
    let small = c.requires.small in
    let of = c.requires.of.of (c.args.from / 1024) (omega (arith, small)) in
    let d : c.args.from / 1024 ≡ v / 1024 = omega (arith, lo, hi) in
    visit_none m ts v
    (subst (λ k. option_map triple_of (table_at ts k) ≡ None) d (sym of ∙ sym c.at.ensures ∙ c.in_default.is))
