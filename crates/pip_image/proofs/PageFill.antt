-- A page of words, a word at a time.
use Rattle.std.proofs.Common.{[], ◌≡◌, refl, ℕ, zero, suc, ◌≤◌, ◌∷◌, ◌+◌, ◌<◌, ◌==◌, nat_lt, Bool, true, false, cond}
use Rattle.std.proofs.Common.{arith, eqb-true, inl, inr, Some, List, length, slice_index_or}
use Rattle.std.specs.Prelude.{is_some}
use Rattle.std.proofs.lemmas.Bool.{cases_eq}
use Rattle.std.proofs.lemmas.Bool.Decides.{nat_tests}
use Rattle.pip_base.specs.Memory.{put_word}
use Rattle.pip_model.specs.Happens.{with_word}
use Rattle.pip_model.specs.Layout.{LaysOut}
use Rattle.pip_model.specs.Sound.{IsWord}
use Rattle.pip_model.specs.Tree.{Tree, word_of}
use Rattle.pip_model.proofs.Frames.Stored.{stored_lays}
use Rattle.pip_image.specs.Loading.{filled_before, with_page}
use Rattle.pip_image.proofs.SameWords.{lays_same}

same_number : (n : ℕ) → (n == n) ≡ true
same_number n = grind (arith, nat_tests)

module _ (t : Tree) (f : ℕ) (ws : List ℕ) (can : is_some (t.words f) ≡ true) where
  -- which pages can be read stays
  some_filled : (b : Bool) (g : ℕ) (w : ℕ → ℕ) → g == f ≡ b
      → is_some (cond b (Some w) (t.words g)) ≡ is_some (t.words g)
  some_filled true g w e = rw (← can, ← eqb-true g f e)
  some_filled false g w e = refl

  nothing_filled : (b : Bool) (g j : ℕ) → g == f ≡ b
      → word_of (cond b (Some (λ k. cond (nat_lt k 0) (slice_index_or ws k 0) (word_of (t.words f) k))) (t.words g)) j
      ≡ word_of (t.words g) j
  nothing_filled true g j e = rw (none j, ← eqb-true g f e)
    where
      none : (j : ℕ) → cond (nat_lt j 0) (slice_index_or ws j 0) (word_of (t.words f) j) ≡ word_of (t.words f) j
      none j = grind (arith, nat_tests)
  nothing_filled false g j e = refl

  pub fill_begins : (m : List (List ℕ)) → LaysOut t m → LaysOut (filled_before t f 0 ws) m
  fill_begins m lays = lays_same t (filled_before t f 0 ws).words m (λ g. some_filled (g == f) g _ refl)
      (λ g j b. nothing_filled (g == f) g j refl) lays

  -- one word more
  one_word : (j i : ℕ) → cond (nat_lt j (i + 1)) (slice_index_or ws j 0) (word_of (t.words f) j)
      ≡ cond (j == i) (slice_index_or ws i 0) (cond (nat_lt j i) (slice_index_or ws j 0) (word_of (t.words f) j))
  one_word j i = elim (cases_eq j i) [
    | inl e ↦ rw e (grind (arith, nat_tests))
    | inr n ↦ grind (arith, nat_tests, n)
  ]

  on_page : (b : Bool) (w : ℕ → ℕ) → is_some (cond b (Some w) (t.words f)) ≡ true
  on_page true w = refl
  on_page false w = can

  same_some : (b : Bool) (g : ℕ) (u v w : ℕ → ℕ)
      → is_some (cond b (Some u) (t.words g)) ≡ is_some (cond b (Some v) (cond b (Some w) (t.words g)))
  same_some true g u v w = refl
  same_some false g u v w = refl

  -- the words of frame f up to i, and those of a store
  upto : ℕ → ℕ → ℕ
  upto i j = cond (nat_lt j i) (slice_index_or ws j 0) (word_of (t.words f) j)

  same_words : (b c : Bool) (g i j : ℕ) → c ≡ true → word_of (cond b (Some (upto (i + 1))) (t.words g)) j
      ≡ word_of (cond b (Some (λ k. cond (k == i) (slice_index_or ws i 0)
      (word_of (cond c (Some (upto i)) (t.words f)) k))) (cond b (Some (upto i)) (t.words g))) j
  unfolding upto
  same_words true true g i j e = one_word j i
  same_words true false g i j e = cc
  same_words false c g i j e = refl

  pub fill_goes_on : (m : List (List ℕ)) (i : ℕ) → f < t.frames → i < 1024 → LaysOut (filled_before t f i ws) m
      → LaysOut (filled_before t f (i + 1) ws) (put_word m f i (slice_index_or ws i 0))
  unfolding upto
  fill_goes_on m i inside low lays =
      lays_same (with_word (filled_before t f i ws) f i (slice_index_or ws i 0)) (filled_before t f (i + 1) ws).words
      (put_word m f i (slice_index_or ws i 0))
      (λ g. same_some (g == f) g _ _ _) (λ g j b. same_words (g == f) (f == f) g i j (same_number f))
      (stored_lays (filled_before t f i ws) m lays f i (slice_index_or ws i 0) (on_page (f == f) _) inside low)

  whole : (b : Bool) (g j : ℕ) → j < 1024 → word_of (cond b (Some (λ k. slice_index_or ws k 0)) (t.words g)) j
      ≡ word_of (cond b (Some (upto 1024)) (t.words g)) j
  unfolding upto
  whole true g j h = grind (arith, nat_tests, h)
  whole false g j h = refl

  whole_some : (b : Bool) (g : ℕ) (u v : ℕ → ℕ)
      → is_some (cond b (Some u) (t.words g)) ≡ is_some (cond b (Some v) (t.words g))
  whole_some true g u v = refl
  whole_some false g u v = refl

  pub fill_ends : (m : List (List ℕ)) → LaysOut (filled_before t f 1024 ws) m → LaysOut (with_page t f ws) m
  unfolding upto
  fill_ends m lays = lays_same (filled_before t f 1024 ws) (with_page t f ws).words m (λ g. whole_some (g == f) g _ _)
      (λ g j h. whole (g == f) g j h) lays

-- ---- the words are small

pub small_more : (ws : List ℕ) (i : ℕ) → ((j : ℕ) → j < i → IsWord (slice_index_or ws j 0))
    → IsWord (slice_index_or ws i 0) → (j : ℕ) → j < i + 1 → IsWord (slice_index_or ws j 0)
small_more ws i all this j h = elim (cases_eq j i) [
  | inl e ↦ rw e this
  | inr n ↦ all j (grind (arith, nat_tests, h, n))
]

past : (ws : List ℕ) (j : ℕ) → length ws ≤ j → slice_index_or ws j 0 ≡ 0
past [] j h = refl
past (w ∷ ws) zero h = absurd (omega arith)
past (w ∷ ws) (suc j) h = past ws j (omega arith)

pub small_all : (ws : List ℕ) (i : ℕ) → length ws ≤ i → ((j : ℕ) → j < i → IsWord (slice_index_or ws j 0)) → (j : ℕ)
    → IsWord (slice_index_or ws j 0)
small_all ws i long all j = go (nat_lt j i) refl
  where
    go : (b : Bool) → nat_lt j i ≡ b → IsWord (slice_index_or ws j 0)
    go true e = all j (grind (arith, nat_tests, e))
    go false e = let h : length ws ≤ j = grind (arith, nat_tests, e, long) in let z = past ws j h in
        rw z (omega arith)
