use Rattle.std.proofs.Common.{◌≡◌, drop}
use Rattle.pip_certificates.specs.PartAbout.{frames_summed}
use Rattle.pip_certificates.proofs.about.sum_frames.Given as goal

abbrev pub invariant-loop-f : goal.invariant-loop-f
invariant-loop-f g l = frames_summed l.sum (drop l.f l.mem.block.frames) ≡ frames_summed l.fn.start l.mem.block.frames
