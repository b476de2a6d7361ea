-- Words that are the same below 1024 are laid out the same.
use Rattle.std.proofs.Common.{◌≡◌, ℕ, ◌<◌, Option, List}
use Rattle.std.specs.Prelude.{is_some}
use Rattle.pip_model.specs.Layout.{LaysOut, layout}
use Rattle.pip_model.specs.FullRows.{from_word, full_rows, given_word}
use Rattle.pip_model.specs.Tree.{Tree, word_of}

layout_same : (t : Tree) (words : ℕ → Option (ℕ → ℕ)) (f i : ℕ) → is_some (words f) ≡ is_some (t.words f)
    → word_of (words f) i ≡ word_of (t.words f) i → layout (record t { words = words }) f i ≡ layout t f i
unfolding layout full_rows given_word from_word
layout_same t words f i some same = rw (some, same)

pub lays_same : (t : Tree) (words : ℕ → Option (ℕ → ℕ)) (m : List (List ℕ)) → ((g : ℕ)
    → is_some (words g) ≡ is_some (t.words g)) → ((g i : ℕ) → i < 1024 → word_of (words g) i ≡ word_of (t.words g) i)
    → LaysOut t m → LaysOut (record t { words = words }) m
lays_same t words m some same lays = record {
  shape = lays.shape;
  count = lays.count;
  word = λ f i a b. cc (lays.word f i a b, layout_same t words f i (some f) (same f i b));
}
