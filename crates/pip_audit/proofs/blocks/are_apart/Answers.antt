use Rattle.std.proofs.Common.{◌==◌, inl, inr, arith, eqb-true}
use Rattle.std.specs.Prelude.{bit_and, slice_index}
use Rattle.std.proofs.lemmas.Bool.{and_parts, cases_eq}
use Rattle.pip_audit.proofs.blocks.are_apart.Goals as goal

pub loop-b-preserved : goal.loop-b-preserved
loop-b-preserved c = λ on k h.
    let common = bit_and (slice_index c.args.xs.now c.loop-b.b) (slice_index c.args.ys.now c.loop-b.b) in
    let (before, here) = and_parts c.loop-b.apart (common == 0) on in
    elim (cases_eq k c.loop-b.b) [
      | inl q ↦ rw q (eqb-true common 0 here)
      | inr ne ↦ c.loop-b.invariant before k (omega (arith, h, ne))
    ]
