-- The shape of a memory, frame by frame.
use Rattle.std.proofs.Common.{◌≡◌, ℕ, ◌<◌, List, [], length, ap}
use Rattle.std.specs.Prelude.{slice_index}
use Rattle.std.proofs.lemmas.List.Elements.{All-from_get_or}
use Rattle.pip_base.specs.Memory.{IsMemory, Memory, frame_at, word_at}

pub all_shaped : (m : Memory) → ((f : ℕ) → f < length m → length (frame_at m f) ≡ 1024) → IsMemory m
unfolding frame_at
all_shaped m h = All-from_get_or (λ (ws : List ℕ). length ws ≡ 1024) m [] h

-- the words of a frame that is lent
pub lent_word : (m : Memory) (f i : ℕ) (ws : List ℕ) → ws ≡ frame_at m f → slice_index ws i ≡ word_at m f i
unfolding frame_at word_at
lent_word m f i ws e = ap (λ xs. slice_index xs i) e
