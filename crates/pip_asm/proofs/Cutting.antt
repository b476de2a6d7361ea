-- Lines of a text, and words of a line, one after another.
use Rattle.std.specs.Prelude.{◌≡◌, ◌≢◌, refl, ℕ, zero, suc, ◌+◌, ◌<◌, ◌≤◌, ◌==◌, true, cond, List, [], ◌∷◌, Some, None}
use Rattle.std.specs.Prelude.{length, take, drop, slice_index}
use Rattle.std.specs.List.{onto_first}
use Rattle.std.proofs.Common.{ap, ◌∙◌, arith}
use Rattle.std.proofs.lemmas.Bool.Decides.{nat_tests}
use Rattle.std.proofs.lemmas.List.Splits.{length-slice_split}
use Rattle.pip_io.specs.Newlines.{IsFirstNewline}
use Rattle.pip_model.specs.Grammar.{lines_of, words_of}

differs : (x c : ℕ) (a b : List (List ℕ)) → x ≢ c → cond (x == c) a b ≡ b
differs x c a b n = grind (arith, nat_tests, n)

agrees : (x c : ℕ) (a b : List (List ℕ)) → x ≡ c → cond (x == c) a b ≡ a
agrees x c a b n = grind (arith, nat_tests, n)

-- a text that is parted at the bytes c
module _ (c : ℕ) (parts : List ℕ → List (List ℕ))
    (each : (x : ℕ) (xs : List ℕ) → parts (x ∷ xs) ≡ cond (x == c) ([] ∷ parts xs) (onto_first x (parts xs))) where
  -- the first of them stands at i
  at : (xs : List ℕ) (i : ℕ) → i < length xs → ((k : ℕ) → k < i → slice_index xs k ≢ c) → slice_index xs i ≡ c
      → parts xs ≡ take i xs ∷ parts (drop (i + 1) xs)
  at [] i l n e = absurd (omega (arith, l))
  at (x ∷ xs) zero l n e = each x xs ∙ agrees x c ([] ∷ parts xs) (onto_first x (parts xs)) e
  at (x ∷ xs) (suc i) l n e =
      each x xs
      ∙ differs x c ([] ∷ parts xs) (onto_first x (parts xs)) (n 0 (omega arith))
      ∙ ap (onto_first x) (at xs i (omega (arith, l)) (λ k h. n (suc k) (omega (arith, h))) e)
      ∙ ap (λ k. (x ∷ take i xs) ∷ parts (drop k (x ∷ xs))) (after i)
    where
      after : (i : ℕ) → suc (i + 1) ≡ suc i + 1
      after i = omega arith

  -- there is none
  without : ((x : ℕ) → onto_first x (parts []) ≡ (x ∷ []) ∷ []) → (xs : List ℕ) → 0 < length xs
      → ((k : ℕ) → k < length xs → slice_index xs k ≢ c) → parts xs ≡ xs ∷ []
  without last [] l n = absurd (omega (arith, l))
  without last (x ∷ []) l n =
      each x [] ∙ differs x c ([] ∷ parts []) (onto_first x (parts [])) (n 0 (omega arith)) ∙ last x
  without last (x ∷ y ∷ xs) l n =
      each x (y ∷ xs)
      ∙ differs x c ([] ∷ parts (y ∷ xs)) (onto_first x (parts (y ∷ xs))) (n 0 (omega arith))
      ∙ ap (onto_first x) (without last (y ∷ xs) (omega arith) (λ k h. n (suc k) (omega (arith, h))))

-- ---- lines

is_newline : (x : ℕ) → x ≡ 10 → (x == 10) ≡ true
is_newline x e = grind (arith, nat_tests, e)

newline_is : (x : ℕ) → (x == 10) ≡ true → x ≡ 10
newline_is x e = grind (arith, nat_tests, e)

pub cut_at : (xs : List ℕ) (i : ℕ) → i < length xs → ((k : ℕ) → k < i → slice_index xs k ≢ 10) → slice_index xs i ≡ 10
    → lines_of xs ≡ take i xs ∷ lines_of (drop (i + 1) xs)
cut_at = at 10 lines_of (λ x xs. refl)

pub cut_end : (xs : List ℕ) → 0 < length xs → ((k : ℕ) → k < length xs → slice_index xs k ≢ 10) → lines_of xs ≡ xs ∷ []
cut_end = without 10 lines_of (λ x xs. refl) (λ x. refl)

-- the first newline is found
pub newline_at : (xs : List ℕ) (i : ℕ) → IsFirstNewline xs (Some i)
    → (i < length xs) × (lines_of xs ≡ take i xs ∷ lines_of (drop (i + 1) xs))
newline_at xs i h = (
  h.0.high,
  cut_at xs i h.0.high
      (λ k l e. h.0.before k (omega arith) l (is_newline (slice_index xs k) e)) (newline_is (slice_index xs i) h.1),
)

pub no_newline : (xs : List ℕ) → 0 < length xs → IsFirstNewline xs None → lines_of xs ≡ xs ∷ []
no_newline xs l h = cut_end xs l (λ k m e. h k (omega arith) m (is_newline (slice_index xs k) e))

-- ---- words

pub word_at : (xs : List ℕ) (i : ℕ) → i < length xs → ((k : ℕ) → k < i → slice_index xs k ≢ 32) → slice_index xs i ≡ 32
    → words_of xs ≡ take i xs ∷ words_of (drop (i + 1) xs)
word_at = at 32 words_of (λ x xs. refl)

pub last_word : (xs : List ℕ) → ((k : ℕ) → k < length xs → slice_index xs k ≢ 32) → words_of xs ≡ xs ∷ []
last_word [] n = refl
last_word (x ∷ xs) n = without 32 words_of (λ x xs. refl) (λ x. refl) (x ∷ xs) (omega arith) n

-- a text has a word, be it empty
pub has_word : (xs : List ℕ) → 1 ≤ length (words_of xs)
has_word xs = let l = length-slice_split (λ b. b == 32) xs in omega (arith, l)
