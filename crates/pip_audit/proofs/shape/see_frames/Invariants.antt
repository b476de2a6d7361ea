use Rattle.std.proofs.Common.{◌≡◌, ℕ, ◌<◌, length}
use Rattle.pip_base.specs.Memory.{frame_at, word_at}
use Rattle.pip_model.specs.Sound.{IsWord}
use Rattle.pip_audit.proofs.shape.see_frames.Given as goal

-- the frames so far have 1024 words each
abbrev pub invariant-loop-f : goal.invariant-loop-f
invariant-loop-f g l =
    (k : ℕ) → k < l.f → (length (frame_at (g.M.Frames.memory l.mem) k) ≡ 1024)
    × ((i : ℕ) → i < 1024 → IsWord (word_at (g.M.Frames.memory l.mem) k i))
