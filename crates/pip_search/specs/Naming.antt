-- Lists of bytes that are found by their hashes.
use Rattle.std.specs.Prelude.{◌≡◌, ◌≢◌, ℕ, ◌+◌, ◌*◌, ◌/◌, ◌%◌, ◌^◌, ◌<◌, ◌≤◌, List, [], ◌∷◌, length, Some, slice_get}
use Rattle.std.specs.Prelude.{slice_index, bit_xor}
use Rattle.std.specs.Int.{from_le_bytes, w64}
use Rattle.pip_search.specs.Cells.{HasHashes}
use Rattle.pip_search.specs.declared.hash_table.HashTable.{HashTable}
use Rattle.pip_search.specs.declared.names.Probe.{Probe}
use Rattle.pip_search.specs.declared.names.Probe.TheVariants.{Empty, Further, Here}

-- a number whose lower half of 32 bits is mixed with the upper one
abbrev pub folded : ℕ → ℕ
folded n = bit_xor n (n / 2 ^ 32)

-- a hash and one more number
abbrev pub hash_step : ℕ → ℕ → ℕ
hash_step sum k = folded (bit_xor sum k * 0x9e3779b97f4a7c15 % 2 ^ 64)

-- a hash and more bytes, one by one
unfoldable pub hash_after : ℕ → List ℕ → ℕ
hash_after sum [] = sum
hash_after sum (k ∷ ks) = hash_after (hash_step sum k) ks

-- a hash and more bytes, eight at a time while there are eight
unfoldable pub hash_by_eights : ℕ → List ℕ → ℕ
hash_by_eights sum (a ∷ b ∷ c ∷ d ∷ e ∷ f ∷ g ∷ h ∷ ks) =
    hash_by_eights (hash_step sum (from_le_bytes w64 (a ∷ b ∷ c ∷ d ∷ e ∷ f ∷ g ∷ h ∷ []))) ks
hash_by_eights sum ks = hash_after sum ks

-- the hash of bytes, which begins with a seed: the lower half of the sum
abbrev pub hash_of : ℕ → List ℕ → ℕ
hash_of seed bytes = hash_by_eights seed bytes % 2 ^ 32

-- no two of these are the same
abbrev pub AreDistinct : List (List ℕ) → Type 0
AreDistinct names = (i j : ℕ) (name : List ℕ) → slice_get names i ≡ Some name → slice_get names j ≡ Some name → i ≡ j

-- a list is none of these
abbrev pub IsAbsent : List (List ℕ) → List ℕ → Type 0
IsAbsent names name = (j : ℕ) → slice_get names j ≢ Some name

-- the table has the hash of each, and no two are the same
pub record AreNamed (names : List (List ℕ)) (x : HashTable) : Type 0 where
  pub filled : HasHashes x
  pub count : length x.hashes.items ≡ length names
  pub hashed : (j : ℕ) (name : List ℕ) → slice_get names j ≡ Some name → slice_index x.hashes.items j
      ≡ hash_of x.seed name
  pub distinct : AreDistinct names

-- a cell with these contents has the name of no place, where the name's hash has this tag
abbrev pub IsUnlike : List (List ℕ) → List ℕ → ℕ → ℕ → Type 0
IsUnlike names name tag contents = (j : ℕ) → contents ≡ tag + j + 1 → slice_get names j ≢ Some name

-- cells from one on, before `end`: none is empty, and none has the name
pub record AreUnlike (names : List (List ℕ)) (name : List ℕ) (tag : ℕ) (cells : List ℕ) (from end : ℕ) : Type 0 where
  pub full : (c : ℕ) → from ≤ c → c < end → slice_index cells c ≢ 0
  pub unlike : (c : ℕ) → from ≤ c → c < end → IsUnlike names name tag (slice_index cells c)

-- what is found there
unfoldable pub HasProbed : List (List ℕ) → List ℕ → ℕ → List ℕ → ℕ → ℕ → Probe → Type 0
HasProbed names name tag cells from end (Here p) = slice_get names p ≡ Some name
HasProbed names name tag cells from end Empty =
    (c : ℕ) × ((from ≤ c) × ((c < end) × ((slice_index cells c ≡ 0) × AreUnlike names name tag cells from c)))
HasProbed names name tag cells from end Further = AreUnlike names name tag cells from end
