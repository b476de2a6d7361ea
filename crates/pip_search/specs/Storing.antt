-- Lists of bytes that are kept one after another.
use Rattle.std.specs.Prelude.{◌≡◌, ℕ, ◌+◌, ◌*◌, ◌/◌, ◌<◌, ◌≤◌, List, [], ◌∷◌, length, slice_index, slice_range}
use Rattle.pip_search.specs.declared.byte_lists.ByteLists.{ByteLists}

-- where keys end, from this place on, by where blocks begin and how far on from there each key ends
unfoldable pub ends_from : ℕ → List ℕ → List ℕ → List ℕ
ends_from place blocks [] = []
ends_from place blocks (end ∷ ends) = (slice_index blocks (place / 64) + end) ∷ ends_from (place + 1) blocks ends

-- where the keys end
abbrev pub ends_of : ByteLists → List ℕ
ends_of x = ends_from 0 x.blocks.items x.ends.items

-- the parts of these bytes that end at these places, where the first part begins at `start`
unfoldable pub listed_from : ℕ → List ℕ → List ℕ → List (List ℕ)
listed_from start bytes [] = []
listed_from start bytes (end ∷ ends) = slice_range bytes start end ∷ listed_from end bytes ends

-- the keys that are kept
abbrev pub listed : ByteLists → List (List ℕ)
listed x = listed_from 0 x.bytes.items (ends_of x)

-- places rise from a first to a last one
abbrev pub AreEnds : ℕ → List ℕ → ℕ → Type 0
AreEnds start [] last = start ≡ last
AreEnds start (end ∷ ends) last = (start ≤ end) × AreEnds end ends last

-- there are blocks for that many keys, and one more at most
abbrev pub AreEnough : List ℕ → List ℕ → Type 0
AreEnough blocks ends = (length ends ≤ 64 * length blocks) × (64 * length blocks ≤ length ends + 64)

-- the last key ends where the bytes do, and each block begins where the key before it ends
pub record IsStored (x : ByteLists) : Type 0 where
  pub ends : AreEnds 0 (ends_of x) (length x.bytes.items)
  pub enough : AreEnough x.blocks.items x.ends.items
  pub blocks : (k : ℕ) → k < length x.blocks.items
      → slice_index x.blocks.items k ≡ slice_index (0 ∷ ends_of x) (64 * k)

-- the last block has room for a key
abbrev pub HasOpenBlock : ByteLists → Type 0
HasOpenBlock x = length x.ends.items < 64 * length x.blocks.items
