use Rattle.std.proofs.Common.{inl, inr, arith, sym, ap, ◌∙◌, subst}
use Rattle.std.proofs.lemmas.Bool.{cases_eq}
use Rattle.std.specs.Prelude.{slice_index}
use Rattle.pip_audit.specs.declared.auditor.Auditor.{Auditor}
use Rattle.pip_audit.specs.Comparing.{CoversNode}
use Rattle.pip_audit.proofs.Differing.{goes_then}
use Rattle.pip_audit.proofs.Judges.{loads_then, node_stays}
use Rattle.pip_audit.proofs.auditor.Auditor.judge_nodes.Goals as goal

pub loop-x-preserved : goal.loop-x-preserved
loop-x-preserved g c =
    let m = g.M.Frames.memory c.args.mem.now in
    let a = c.args.self.now in
    let s = c.loop-x.self in
    let n = c.judge_all_of-first.new.self in
    let x = c.loop-x.x in
    let inv = c.loop-x.invariant in
    let next = c.judge_all_of-first.ensures in
    let result = c.judge_all_of-first.result in
    let name = ap (λ (z : Auditor). slice_index z.names.items x) inv.1 in (
      next.read,
      loads_then a s n inv.1 next.rest,
      goes_then m c.args.found c.loop-x.first result inv.2 next.goes,
      λ k hi. elim (cases_eq k x) [
        | inl q ↦ subst (CoversNode m result) (name ∙ ap (slice_index a.names.items) (sym q)) next.covers
        | inr ne ↦ node_stays m (slice_index a.names.items k) c.loop-x.first result next.goes
            (inv.3 k (omega (arith, hi, ne)))
      ],
    )
