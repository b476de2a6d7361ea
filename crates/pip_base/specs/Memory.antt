-- A memory is a list of frames, and a frame a list of 1024 words.
use Rattle.std.specs.Prelude.{◌≡◌, ℕ, ◌+◌, List, [], ◌∷◌, All, length, replicate, slice_index, slice_index_or}
use Rattle.std.specs.Prelude.{slice_set}

-- a number of words of 0. Never computed at 1024, where it would be long
unfoldable pub zeros : ℕ → List ℕ
zeros n = replicate n 0

-- the words of all frames
abbrev pub Memory : Type 0
Memory = List (List ℕ)

-- each frame has 1024 words
abbrev pub IsMemory : Memory → Type 0
IsMemory m = All (λ (ws : List ℕ). length ws ≡ 1024) m

-- the words of frame f
unfoldable pub frame_at : Memory → ℕ → List ℕ
frame_at m f = slice_index_or m f []

-- word i of frame f
unfoldable pub word_at : Memory → ℕ → ℕ → ℕ
word_at m f i = slice_index (slice_index_or m f []) i

-- the memory with w as word i of frame f
unfoldable pub put_word : Memory → ℕ → ℕ → ℕ → Memory
put_word m f i w = slice_set m f (slice_set (slice_index_or m f []) i w)

-- the memory with these words in frame f from i on
abbrev pub put_words : Memory → ℕ → ℕ → List ℕ → Memory
put_words m f i [] = m
put_words m f i (w ∷ ws) = put_words (put_word m f i w) f (i + 1) ws

-- the memory with only zeros in frame f
unfoldable pub zero_frame : Memory → ℕ → Memory
zero_frame m f = slice_set m f (zeros 1024)
