-- How many frames a raw block has.
use Rattle.std.specs.Prelude.{ℕ, ◌≤◌, length}
use mathlib.Core.Path.{subst}
use Rattle.pip_frames.specs.declared.raw_frames.RawFrames.{RawFrames}

-- a raw memory has 16 to 4096 frames
pub raw_bounds : (m : RawFrames) → (16 ≤ length m.block.frames) × (length m.block.frames ≤ 4096)
raw_bounds m =
    (subst (λ (n : ℕ). 16 ≤ n) m.block.counted m.block.least, subst (λ (n : ℕ). n ≤ 4096) m.block.counted m.block.most)
