-- Which frames, and which parts of 32 words of them, may be others than they were taken back to, and whether none was
-- written since.
use Rattle.std.specs.Prelude.{◌≡◌, ℕ, ◌*◌, ◌/◌, ◌<◌, ◌≤◌, Bool, true, false, List, [], slice_index_or}
use Rattle.pip_base.specs.Memory.{Memory, frame_at}

-- a frame that was not opened is as it was
abbrev pub Tracks : Memory → Memory → List Bool → Type 0
Tracks base m opened = (f : ℕ) → slice_index_or opened f true ≡ false → frame_at m f ≡ frame_at base f

-- the words of a frame that are in no part that was opened are as they were
abbrev pub TracksWords : List ℕ → List ℕ → List Bool → Type 0
TracksWords base now parts =
    (j : ℕ) → j < 1024 → slice_index_or parts (j / 32) true ≡ false → slice_index_or now j 0 ≡ slice_index_or base j 0

-- so are those of each frame
abbrev pub TracksParts : Memory → Memory → List (List Bool) → Type 0
TracksParts base m parts = (f : ℕ) → TracksWords (frame_at base f) (frame_at m f) (slice_index_or parts f [])

-- from one frame on all are as they were
abbrev pub StaysFrom : Memory → Memory → ℕ → Type 0
StaysFrom base m top = (f : ℕ) → top ≤ f → frame_at m f ≡ frame_at base f

-- where none was written, the frames are as they were taken back
abbrev pub IsRewound : Memory → Memory → Bool → Type 0
IsRewound base m still = still ≡ true → m ≡ base

-- the words of the parts from one on are the same, up to another
abbrev pub SameWords : List ℕ → List ℕ → ℕ → ℕ → Type 0
SameWords base now from to =
    (j : ℕ) → 32 * from ≤ j → j < 32 * to → slice_index_or now j 0 ≡ slice_index_or base j 0
