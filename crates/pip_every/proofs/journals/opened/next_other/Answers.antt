-- Parts with the same words are passed, and so are those that were not opened.
use Rattle.std.proofs.Common.{◌+◌, arith}
use Rattle.pip_every.proofs.Restoring.{same_part, same_passed}
use Rattle.pip_every.proofs.journals.opened.next_other.Goals as goal

pub loop-part-init : goal.loop-part-init
loop-part-init c =
    let next = c.next_opened-part in
    record {
      low = next.ensures.from;
      high = omega (arith, next.ensures.end, c.told-parts);
      same = same_passed c.args.base.now c.args.now.now c.args.parts.now c.args.from c.args.from next.result
          (omega (arith, next.ensures.end, c.told-parts)) c.requires.parts next.ensures.shut
          (λ j low lt. absurd (omega (arith, low, lt)));
    }

pub loop-part-preserved : goal.loop-part-preserved
loop-part-preserved c =
    let next = c.next_opened-part-in-loop-part in
    let part = c.loop-part.part in
    let same = c.count_same-same in
    record {
      low = omega (arith, next.ensures.from, c.loop-part.invariant.low);
      high = omega (arith, next.ensures.end, c.told-parts);
      same = same_passed c.args.base.now c.args.now.now c.args.parts.now c.args.from (part + same.result) next.result
          (omega (arith, next.ensures.end, c.told-parts)) c.requires.parts next.ensures.shut
          (same_part c.args.base.now c.args.now.now c.args.from part (part + same.result) c.loop-part.invariant.same
          same.ensures.same);
    }
