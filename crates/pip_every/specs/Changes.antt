-- The words of a memory that are others than those of a first one.
use Rattle.std.specs.Prelude.{◌≡◌, ℕ, zero, suc, ◌+◌, ◌*◌, ◌/◌, ◌%◌, ◌<◌, ◌≤◌, ◌==◌}
use Rattle.std.specs.Prelude.{if◌then◌else◌, length, List, [], ◌∷◌, ◌++◌, ltb}
use Rattle.pip_base.specs.Memory.{IsMemory, Memory, word_at}
use Rattle.pip_switch.specs.Rewinding.{ArePlaces, rewritten}

-- the word at a place: 1024 times its frame and its index there, together
abbrev pub word_at_place : Memory → ℕ → ℕ
word_at_place m place = word_at m (place / 1024) (place % 1024)

-- a place and its word, where that is another than at first
abbrev pub changes_at : Memory → Memory → ℕ → List ℕ
changes_at a m place = if word_at_place m place == word_at_place a place then [] else place ∷ word_at_place m place ∷ []

-- those of the places below k
unfoldable pub changes_below : Memory → Memory → ℕ → List ℕ
changes_below a m zero = []
changes_below a m (suc k) = changes_below a m k ++ changes_at a m k

-- those of all places
abbrev pub changes : Memory → Memory → List ℕ
changes a m = changes_below a m (1024 * length a)

-- the words at the places below k are those of m, and the others those of a
pub record IsMixed (a m : Memory) (k : ℕ) (r : Memory) : Type 0 where
  pub count : length r ≡ length a
  pub shape : IsMemory r
  pub below : (g j : ℕ) → g < length a → j < 1024 → 1024 * g + j < k → word_at r g j ≡ word_at m g j
  pub above : (g j : ℕ) → g < length a → j < 1024 → k ≤ 1024 * g + j → word_at r g j ≡ word_at a g j

-- these words, written over a, make it m at the places below k, and there is none without need
pub record AreChanges (a m : Memory) (k : ℕ) (words : List ℕ) : Type 0 where
  pub are : words ≡ changes_below a m k
  pub places : ArePlaces (length a) words
  pub mixed : IsMixed a m k (rewritten a words)

-- those of n places from k on
unfoldable pub changes_from : Memory → Memory → ℕ → ℕ → List ℕ
changes_from a m k zero = []
changes_from a m k (suc n) = changes_at a m k ++ changes_from a m (suc k) n

-- how many words come before the first place that isn't below p, where each follows its place
unfoldable pub words_below : ℕ → List ℕ → ℕ
words_below p [] = 0
words_below p (q ∷ []) = 0
words_below p (q ∷ w ∷ rest) = if ltb q p then suc (suc (words_below p rest)) else 0

-- places, from p on, rise, and after each follows another word than that of a
abbrev pub AreOther : Memory → ℕ → List ℕ → Type 0
AreOther a p [] = Unit {0}
AreOther a p (q ∷ []) = ⊥
AreOther a p (q ∷ w ∷ rest) = (p ≤ q) × ((w ≡ word_at_place a q → ⊥) × AreOther a (suc q) rest)

-- a memory is another one with such words over it
pub record IsRewritten (a m : Memory) (words : List ℕ) : Type 0 where
  pub is : m ≡ rewritten a words
  pub places : ArePlaces (length a) words
  pub other : AreOther a 0 words

-- a list grew by all of them
pub record HasChanges (a m : Memory) (old new : List ℕ) : Type 0 where
  pub whole : new ≡ old ++ changes a m
  pub count : length m ≡ length a
