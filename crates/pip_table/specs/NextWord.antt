-- The next word that isn't 0.
use Rattle.std.specs.Prelude.{◌≡◌, ◌≢◌, ℕ, ◌<◌, ◌≤◌, List, slice_index, Option, Some, None}
use Rattle.pip_base.specs.Memory.{Memory, word_at}

-- from index k on and below end all words are 0
abbrev pub AreZero : List ℕ → ℕ → ℕ → Type 0
AreZero words k end = (j : ℕ) → k ≤ j → j < end → slice_index words j ≡ 0

-- of 1024 words by their indexes, the first index from another on where a word isn't 0; or none, where all are 0
abbrev pub IsFirstFrom : (ℕ → ℕ) → ℕ → Option ℕ → Type 0
IsFirstFrom word k None = (j : ℕ) → k ≤ j → j < 1024 → word j ≡ 0
IsFirstFrom word k (Some j) = (j < 1024) × (word j ≢ 0) × ((i : ℕ) → k ≤ i → i < j → word i ≡ 0) × (k ≤ j)

-- the first index from another on where a list of 1024 words has one that isn't 0; or none
abbrev pub IsFirstIndex : List ℕ → ℕ → Option ℕ → Type 0
IsFirstIndex words k index = IsFirstFrom (slice_index words) k index

-- the first index from another on where a word of a frame isn't 0, with that word; or none
abbrev pub IsFirstWord : Memory → ℕ → ℕ → Option (ℕ × ℕ) → Type 0
IsFirstWord m f k None = IsFirstFrom (word_at m f) k None
IsFirstWord m f k (Some r) = IsFirstFrom (word_at m f) k (Some r.0) × (word_at m f r.0 ≡ r.1)

-- the first directory index from another on that has a table; or none, where there is none
abbrev pub IsFirstTable : Memory → ℕ → ℕ → Option ℕ → Type 0
IsFirstTable m top k index = IsFirstFrom (word_at m top) k index
