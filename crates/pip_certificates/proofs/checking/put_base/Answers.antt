use Rattle.std.proofs.Common.{◌∙◌, ◌<◌, ◌+◌, sym, subst, drop, length}
use Rattle.pip_base.proofs.Memory.{IsMemory-put}
use Rattle.pip_certificates.specs.BaseWords.{AreBaseWords}
use Rattle.pip_certificates.proofs.BaseFrames.{base_next, put_next}
use Rattle.pip_certificates.proofs.checking.put_base.Goals as goal

pub loop-i-preserved : goal.loop-i-preserved
loop-i-preserved c =
    let base = c.args.base.now in
    let m = c.loop-i.mem.block.frames in
    let low : c.loop-i.i < length base = c.loop-i-test.true in
    record {
      words = rw (c.put_one.ensures.words, ← put_next base c.loop-i.i _ low m, c.loop-i.invariant.words);
      base = subst (λ k. AreBaseWords k (drop (c.loop-i.i + 1) base)) (sym c.put_one.ensures.count)
          (base_next base c.loop-i.i (record { frame = 0; index = 0; word = 0 }) low (length m)
          c.loop-i.invariant.base).1;
      shape = rw c.put_one.ensures.words (IsMemory-put m _ _ _ c.loop-i.invariant.shape
          (base_next base c.loop-i.i _ low (length m) c.loop-i.invariant.base).0.0);
      count = c.put_one.ensures.count ∙ c.loop-i.invariant.count;
    }

pub put_one-requires-clause-frame : goal.put_one-requires-clause-frame
put_one-requires-clause-frame c =
    (base_next c.args.base.now c.loop-i.i _ c.loop-i-test.true (length c.loop-i.mem.block.frames)
    c.loop-i.invariant.base).0.0

pub put_one-requires-clause-index : goal.put_one-requires-clause-index
put_one-requires-clause-index c =
    (base_next c.args.base.now c.loop-i.i _ c.loop-i-test.true (length c.loop-i.mem.block.frames)
    c.loop-i.invariant.base).0.1
