use Rattle.std.proofs.Common.{inl, inr, arith, subst}
use Rattle.std.specs.Prelude.{slice_index}
use Rattle.std.proofs.lemmas.Bool.{cases_eq}
use Rattle.pip_model.specs.declared.level.Level.TheVariants.{Shadow2}
use Rattle.pip_audit.specs.declared.auditor.Auditor.{Auditor}
use Rattle.pip_audit.specs.Comparing.{CoversChildren}
use Rattle.pip_audit.proofs.Differing.{goes_then}
use Rattle.pip_audit.proofs.Judges.{loads_then, tables_stay}
use Rattle.pip_audit.proofs.auditor.Auditor.judge_all_placed.Goals as goal

pub loop-y-preserved : goal.loop-y-preserved
loop-y-preserved g c =
    let m = g.M.Frames.memory c.args.mem.now in
    let a = c.args.self.now in
    let s = c.loop-y.self in
    let inv = c.loop-y.invariant in
    let next = c.judge_children-first.ensures in
    let result = c.judge_children-first.result in
    let here = subst (λ (z : Auditor). CoversChildren m z result (slice_index z.names.items c.loop-y.y) z.count)
    inv.rest next.covers in
    record {
      read = next.read;
      rest = loads_then a s c.judge_children-first.new.self inv.rest next.rest;
      goes = goes_then m c.args.found c.loop-y.first result inv.goes next.goes;
      covers = λ y hi. elim (cases_eq y c.loop-y.y) [
        | inl q ↦ rw q here
        | inr ne ↦ λ k lo h up. tables_stay m c.loop-y.first result (slice_index a.names.items k) Shadow2 next.goes
            (inv.covers y (omega (arith, hi, ne)) k lo h up)
      ];
    }
