-- A vector of frames with other words in one of them.
use Rattle.std.specs.Prelude.{ℕ, ◌≤◌, List}
use Rattle.std.specs.Vec.{with_item}
use mathlib.Core.Path.{sym, subst}
use lib.ListN.{length-set}
use Rattle.pip_frames.specs.declared.vec_frames.VecFrames.{VecFrames}

-- the frames with these words in frame f
abbrev pub with_frame : VecFrames → ℕ → List ℕ → VecFrames
with_frame m f ws = record m {
  frames = with_item m.frames f ws;
  least = subst (λ (n : ℕ). 16 ≤ n) (sym (length-set m.frames.items f ws)) m.least;
  most = subst (λ (n : ℕ). n ≤ 4096) (sym (length-set m.frames.items f ws)) m.most;
}
