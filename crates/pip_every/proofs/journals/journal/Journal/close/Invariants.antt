use Rattle.std.proofs.Common.{◌≡◌, ℕ, ◌-◌, ◌<◌, ◌≤◌, length}
use Rattle.pip_base.specs.Memory.{frame_at}
use Rattle.pip_every.proofs.journals.journal.Journal.close.Given as goal

-- the frames before f are as they were taken back
abbrev pub invariant-loop-f : goal.invariant-loop-f
invariant-loop-f g l = record {
  high : l.f ≤ length g.F.First.words;
  top : l.self.top ≡ l.fn.self.top;
  base : l.self.base.block.frames ≡ l.fn.self.base.block.frames;
  before : (k : ℕ) → k < l.f → frame_at l.self.frames.block.frames k ≡ frame_at l.fn.self.base.block.frames k;
}

abbrev pub decreases-loop-f : goal.decreases-loop-f
decreases-loop-f g l = length g.F.First.words - l.f
