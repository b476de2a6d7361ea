-- A word that is written into a page of the root: the frames have booted with it.
use Rattle.std.proofs.Common.{◌≡◌, refl, ℕ, ◌≤◌, ◌<◌, ◌==◌, ◌&&◌, nat_le, nat_lt, Bool, true, false, cond, sym, ap, ◌∙◌}
use Rattle.std.proofs.Common.{arith, eqb-true, length, replicate, Some, None}
use Rattle.std.specs.Prelude.{is_some}
use Rattle.std.proofs.lemmas.List.{length-replicate}
use Rattle.pip_base.specs.Memory.{Memory, put_word, zeros}
use Rattle.pip_model.specs.Boot.{boot_tree, boot_tree_with, first_user, zero_words}
use Rattle.pip_model.specs.Booted.{HasBooted}
use Rattle.pip_model.specs.Happens.{with_word}
use Rattle.pip_model.specs.Layout.{LaysOut}
use Rattle.pip_model.specs.Sound.{IsWord}
use Rattle.pip_model.specs.Tree.{word_of}
use Rattle.pip_model.proofs.Frames.Stored.{stored_lays}
use Rattle.pip_image.proofs.SameWords.{lays_same}

-- frames of zeros are that many
pub count_zeros : (m : Memory) (n : ℕ) → m ≡ replicate n (zeros 1024) → length m ≡ n
count_zeros m n is = ap length is ∙ length-replicate n (zeros 1024)

pub are_zeros : (m : Memory) (n : ℕ) → m ≡ replicate n (zeros 1024) → m ≡ replicate (length m) (zeros 1024)
are_zeros m n is = is ∙ ap (λ k. replicate k (zeros 1024)) (sym (count_zeros m n is))

-- frames that held zeros have booted
pub boots_zeros : (m : Memory) (n : ℕ) → 16 ≤ n → n ≤ 4096 → LaysOut (boot_tree n) m → HasBooted m
boots_zeros m n least most laid = record {
  frames = n;
  words = λ g. zero_words;
  booted = record { least = least; most = most; small = λ g i low. omega arith; laid = laid };
}

abbrev is_user : ℕ → ℕ → Bool
is_user n g = nat_le (first_user n) g && nat_lt g n

-- the root's words with x as word i of frame f
abbrev written : (ℕ → ℕ → ℕ) → ℕ → ℕ → ℕ → ℕ → ℕ → ℕ
written words f i x g j = cond (g == f) (cond (j == i) x (words f j)) (words g j)

module _ (words : ℕ → ℕ → ℕ) (n f i x : ℕ) (user : is_user n f ≡ true) where
  some : (b c : Bool) (g : ℕ) → g == f ≡ b → is_user n g ≡ c
      → is_some (cond c (Some (written words f i x g)) None)
      ≡ is_some (cond b (Some (λ j. cond (j == i) x (word_of ((boot_tree_with words n).words f) j)))
      (cond c (Some (words g)) None))
  some true true g e d = refl
  some false true g e d = refl
  some false false g e d = refl
  some true false g e d =
      let differs : ◌≡◌ {A = Bool} false true = sym d ∙ ap (is_user n) (eqb-true g f e) ∙ user in cc

  same : (b c : Bool) (g j : ℕ) → g == f ≡ b → is_user n g ≡ c
      → word_of (cond c (Some (λ k. cond b (cond (k == i) x (words f k)) (words g k))) None) j
      ≡ word_of (cond b (Some (λ k. cond (k == i) x (word_of (cond (is_user n f) (Some (words f)) None) k)))
      (cond c (Some (words g)) None)) j
  same true true g j e d =
      ap (λ u. cond (j == i) x (word_of (cond u (Some (words f)) None) j)) (sym user)
  same false true g j e d = refl
  same false false g j e d = refl
  same true false g j e d =
      let differs : ◌≡◌ {A = Bool} false true = sym d ∙ ap (is_user n) (eqb-true g f e) ∙ user in cc

  lays_written : (m : Memory) → f < n → i < 1024 → LaysOut (boot_tree_with words n) m
      → LaysOut (boot_tree_with (written words f i x) n) (put_word m f i x)
  lays_written m inside low lays =
      lays_same (with_word (boot_tree_with words n) f i x) (boot_tree_with (written words f i x) n).words
      (put_word m f i x) (λ g. some (g == f) (is_user n g) g refl refl)
      (λ g j b. same (g == f) (is_user n g) g j refl refl)
      (stored_lays (boot_tree_with words n) m lays f i x (on (is_user n f) user) inside low)
    where
      on : (b : Bool) → b ≡ true → is_some (cond b (Some (words f)) None) ≡ true
      on true e = refl
      on false e = e

small_written : (words : ℕ → ℕ → ℕ) (f i x : ℕ) → IsWord x → ((g j : ℕ) → j < 1024 → IsWord (words g j))
    → (g j : ℕ) → j < 1024 → IsWord (written words f i x g j)
small_written words f i x small all g j low = go (g == f) (j == i)
  where
    go : (b c : Bool) → IsWord (cond b (cond c x (words f j)) (words g j))
    go true true = small
    go true false = all f j low
    go false c = all g j low

-- of 16 frames frame 12 is the root's first page
pub booted_word : (m : Memory) (f i x : ℕ) → length m ≡ 16 → f ≡ 12 → i < 1024 → IsWord x → HasBooted m
    → HasBooted (put_word m f i x)
booted_word m f i x count at low small h =
    let b = h.booted in
    let frames : h.frames ≡ 16 = sym b.laid.count ∙ count in
    record {
      frames = h.frames;
      words = written h.words f i x;
      booted = record {
        least = b.least;
        most = b.most;
        small = small_written h.words f i x small b.small;
        laid = lays_written h.words h.frames f i x (user frames) m (omega arith) low b.laid;
      };
    }
  where
    user : h.frames ≡ 16 → is_user h.frames f ≡ true
    user e = ap (λ n. is_user n f) e ∙ ap (is_user 16) at
