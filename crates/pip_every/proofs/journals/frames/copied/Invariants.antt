use Rattle.std.proofs.Common.{◌≡◌, ℕ, ◌<◌, length}
use Rattle.pip_base.specs.Memory.{frame_at}
use Rattle.pip_every.proofs.journals.frames.copied.Given as goal

-- the frames before f were copied
abbrev pub invariant-loop-f : goal.invariant-loop-f
invariant-loop-f g l = record {
  count : length l.to.block.frames ≡ length l.from.block.frames;
  before : (k : ℕ) → k < l.f → frame_at l.to.block.frames k ≡ frame_at l.from.block.frames k;
}
