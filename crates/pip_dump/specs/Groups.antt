-- The words of a frame in groups of eight.
use Rattle.std.specs.Prelude.{ℕ, ◌*◌, ◌+◌, ◌<◌, ◌≤◌, List, Option, Some, None}
use Rattle.pip_table.specs.NextWord.{AreZero}

-- the first group from a number on with a word that isn't 0; or none, where all words are 0
abbrev pub IsNextGroup : List ℕ → ℕ → Option ℕ → Type 0
IsNextGroup words from None = AreZero words (8 * from) 1024
IsNextGroup words from (Some k) =
    (from ≤ k) × (k < 128) × AreZero words (8 * from) (8 * k) × (AreZero words (8 * k) (8 * k + 8) → ⊥)
