-- A part that was opened gets its first words, and those before the next have them.
use Rattle.std.proofs.Common.{◌+◌, ◌≤◌, arith, refl}
use Rattle.pip_every.proofs.Restoring.{all_restored, pass_parts, put_part, start_parts}
use Rattle.pip_every.proofs.journals.frames.restore_parts.Goals as goal

pub loop-part-init : goal.loop-part-init
loop-part-init c =
    let most : c.next_opened-part.result ≤ 32 = omega (arith, c.next_opened-part.ensures.end, c.told-parts) in
    record {
      most = most;
      restored = start_parts c.args.from.now c.args.to.now c.args.parts.now c.next_opened-part.result c.told-to
          c.requires most c.next_opened-part.ensures.shut;
    }

pub loop-part-preserved : goal.loop-part-preserved
loop-part-preserved c =
    let next = c.next_opened-part-in-loop-part in
    let most : next.result ≤ 32 = omega (arith, next.ensures.end, c.told-parts) in
    record {
      most = most;
      restored = pass_parts c.args.from.now _ c.args.parts.now (c.loop-part.part + 1) next.result most next.ensures.shut
          (put_part c.args.from.now c.loop-part.to _ c.copy_from_slice.new.self c.args.parts.now c.loop-part.part _
          (omega arith) c.told-from c.loop-part-test.true c.copy_from_slice.ensures.after refl
          c.loop-part.invariant.restored);
    }

pub returns : goal.returns
returns c = all_restored c.args.from.now c.loop-part.to c.args.parts.now c.loop-part.part c.told-from
    (omega (arith, c.loop-part-test.false, c.told-parts)) c.loop-part.invariant.restored
