use Rattle.std.proofs.Common.{◌≡◌, replicate}
use Rattle.pip_base.specs.Memory.{zeros}
use Rattle.pip_frames.proofs.vec_frames.VecFrames.new.Given as goal

-- so far each frame is of zeros
abbrev pub invariant-loop : goal.invariant-loop
invariant-loop l = l.frames.items ≡ replicate l.counter (zeros 1024)
