use Rattle.std.proofs.Common.{rules, arith, ◌≡◌}
use Rattle.pip_base.specs.Memory.{frame_at}
use Rattle.pip_certificates.specs.PartAbout.{summed}
use Rattle.pip_certificates.proofs.BaseFrames.{sum_next}
use Rattle.pip_certificates.proofs.about.sum_frames.Goals as goal

pub loop-f-preserved : goal.loop-f-preserved
loop-f-preserved g c =
    let m = c.args.mem.now.block.frames in
    let f = c.loop-f.f in
    let whole : c.sum_words-sum.result ≡ summed c.loop-f.sum (frame_at m f) =
    rw (c.sum_words-sum.ensures, c.frame.ensures.words, c.new.ensures) in
    rw (whole, ← sum_next m f c.loop-f.sum (search (rules, arith)), c.loop-f.invariant)
