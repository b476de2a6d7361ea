-- Words that are written over a memory, each of which follows its place: 1024 times a frame and an index there,
-- together.
use Rattle.std.specs.Prelude.{ℕ, ◌<◌, ◌*◌, ◌/◌, ◌%◌, List, [], ◌∷◌}
use Rattle.pip_base.specs.Memory.{Memory, put_word}

-- the memory with these words
abbrev pub rewritten : Memory → List ℕ → Memory
rewritten m [] = m
rewritten m (place ∷ []) = m
rewritten m (place ∷ word ∷ rest) = rewritten (put_word m (place / 1024) (place % 1024) word) rest

-- each place is in one of n frames, and a word follows it
abbrev pub ArePlaces : ℕ → List ℕ → Type 0
ArePlaces n [] = Unit {0}
ArePlaces n (place ∷ []) = ⊥
ArePlaces n (place ∷ word ∷ rest) = (place < 1024 * n) × ArePlaces n rest
