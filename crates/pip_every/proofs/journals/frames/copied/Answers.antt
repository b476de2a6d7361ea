-- A frame is copied with all its parts.
use Rattle.std.proofs.Common.{◌≡◌, ◌/◌, ◌∙◌, ap, sym, arith, false, length, refl, replicate, slice_index_or, true}
use Rattle.pip_every.specs.Opening.{all_true, length_set}
use Rattle.pip_every.proofs.Closing.{all_closed, closed_at_next}
use Rattle.pip_every.proofs.journals.frames.copied.Goals as goal

pub restore_frame-requires-clause-parts : goal.restore_frame-requires-clause-parts
restore_frame-requires-clause-parts g c j ji h =
    let at : slice_index_or (replicate 32 true) (j / 32) true ≡ false =
    ap (λ v. slice_index_or v (j / 32) true) (sym c.all_parts-parts.ensures) ∙ h in
    absurd (cc (all_true 32 (j / 32), at))

pub loop-f-preserved : goal.loop-f-preserved
loop-f-preserved g c = record {
  count = ap length c.restore_frame.ensures ∙
      length_set c.loop-f.to.block.frames c.new-in-loop-f.result _ _ c.loop-f.invariant.count;
  before = closed_at_next c.args.from.now.block.frames c.loop-f.to.block.frames c.restore_frame.new.to.block.frames
      c.loop-f.f c.new-in-loop-f.result c.new-in-loop-f.ensures c.restore_frame.ensures
      (omega (arith, c.loop-f-test.true, c.count-count.ensures, c.loop-f.invariant.count)) c.loop-f.invariant.before;
}

pub returns : goal.returns
returns g c = all_closed c.args.from.now.block.frames c.args.from.now.block.frames c.loop-f.to.block.frames refl
    c.loop-f.invariant.count
    (λ k lt. c.loop-f.invariant.before k
    (omega (arith, lt, c.loop-f-test.false, c.count-count.ensures, c.loop-f.invariant.count)))
