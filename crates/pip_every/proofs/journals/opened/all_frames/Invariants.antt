use Rattle.std.proofs.Common.{◌≡◌, replicate, true}
use Rattle.pip_every.proofs.journals.opened.all_frames.Given as goal

-- so far each frame has all its parts opened
abbrev pub invariant-loop : goal.invariant-loop
invariant-loop l = l.frames.items ≡ replicate l.counter (replicate 32 true)
