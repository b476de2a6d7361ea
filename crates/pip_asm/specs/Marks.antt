-- Marks for the pages that were begun.
use Rattle.std.specs.Prelude.{◌≡◌, ℕ, ◌<◌, ◌%◌, ◌⊎◌, Bool, false, List, length, slice_index_or}
use Rattle.pip_model.specs.Images.{is_seen}

-- a page that shares its mark with no other of these; a root has rows for these alone
abbrev pub IsNear : ℕ → Type 0
IsNear v = (v < 8191) ⊎ (v ≡ 0xfffff)

-- the pages that were seen have their marks, and no others
pub record AreMarks (ms : List Bool) (seen : List ℕ) : Type 0 where
  pub count : length ms ≡ 8192
  pub tells : (v : ℕ) → IsNear v → slice_index_or ms (v % 8192) false ≡ is_seen v seen
