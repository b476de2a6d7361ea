-- Laws of memories: what a word is after a write, and what stays.
use Rattle.std.specs.Prelude.{◌≡◌, ◌≢◌, ℕ, ◌<◌, ◌≤◌, ◌+◌, ◌==◌, ◌&&◌, ◌⊎◌, if◌then◌else◌, true, false, List, [], ◌∷◌}
use Rattle.std.specs.Prelude.{length, replicate, slice_index, refl}
use Rattle.std.proofs.Common.{◌∙◌, sym, get_or, get_or-set_same, get_or-set_other, arith, inl, inr, ap, zero, suc}
use Rattle.std.proofs.Common.{eq-eqb, ne_eqb}
use Rattle.std.proofs.lemmas.Bool.{cases_eq}
use Rattle.std.proofs.lemmas.List.{length-set, length-replicate, same_lists, get_or_default}
use Rattle.std.proofs.lemmas.Grind.{same_number_lists}
use Rattle.std.proofs.lemmas.List.Elements.{All-replicate, All-set}
use Rattle.std.proofs.Math.ListN.{set}
use Rattle.pip_base.specs.Memory.{IsMemory, Memory, put_word, put_words, word_at, zero_frame, zeros}

pub length-zeros : (n : ℕ) → length (zeros n) ≡ n
unfolding zeros
length-zeros n = length-replicate n 0

-- a word of zeros
pub zeros-word : (n j : ℕ) → slice_index (zeros n) j ≡ 0
unfolding zeros
zeros-word zero j = refl
zeros-word (suc n) zero = refl
zeros-word (suc n) (suc j) = zeros-word n j

-- a memory begins as frames of zeros
pub length-replicate_zeros : (n : ℕ) → length (replicate n (zeros 1024)) ≡ n
length-replicate_zeros n = length-replicate n (zeros 1024)

pub IsMemory-replicate_zeros : (n : ℕ) → IsMemory (replicate n (zeros 1024))
IsMemory-replicate_zeros n = All-replicate (λ (ws : List ℕ). length ws ≡ 1024) n (zeros 1024) (length-zeros 1024)

pub word_at-replicate_zeros : (n f j : ℕ) → word_at (replicate n (zeros 1024)) f j ≡ 0
unfolding word_at
word_at-replicate_zeros zero f j = refl
word_at-replicate_zeros (suc n) zero j = zeros-word 1024 j
word_at-replicate_zeros (suc n) (suc f) j = word_at-replicate_zeros n f j

-- what a word is after one was written
pub word_at-put : (m : Memory) (f i w g j : ℕ) → IsMemory m → f < length m → i < 1024
    → word_at (put_word m f i w) g j ≡ (if (g == f) && (j == i) then w else word_at m g j)
unfolding word_at put_word
word_at-put m f i w g j ok f_in i_in =
    let long : length (get_or m f []) ≡ 1024 = ok f [] f_in in
    let inside : i < length (get_or m f []) = omega arith in
    elim (cases_eq g f) [
      | inl same ↦ rw (same, eq-eqb f f refl) (rw get_or-set_same (elim (cases_eq j i) [
        | inl here ↦ rw (here, eq-eqb i i refl) (rw get_or-set_same)
        | inr there ↦ rw (ne_eqb j i there) (rw get_or-set_other)
      ]))
      | inr other ↦ rw (ne_eqb g f other) (rw get_or-set_other)
    ]

pub word_at-put_same : (m : Memory) (f i w : ℕ) → IsMemory m → f < length m → i < 1024
    → word_at (put_word m f i w) f i ≡ w
word_at-put_same m f i w ok f_in i_in = rw (word_at-put m f i w f i ok f_in i_in, eq-eqb f f refl, eq-eqb i i refl)

pub word_at-put_frame : (m : Memory) (f i w g j : ℕ) → IsMemory m → f < length m → i < 1024 → g ≢ f
    → word_at (put_word m f i w) g j ≡ word_at m g j
word_at-put_frame m f i w g j ok f_in i_in other = rw (word_at-put m f i w g j ok f_in i_in, ne_eqb g f other)

pub word_at-put_index : (m : Memory) (f i w g j : ℕ) → IsMemory m → f < length m → i < 1024 → j ≢ i
    → word_at (put_word m f i w) g j ≡ word_at m g j
word_at-put_index m f i w g j ok f_in i_in other = rw (word_at-put m f i w g j ok f_in i_in, ne_eqb j i other)
    (elim (g == f) as (λ b. (if b && false then w else word_at m g j) ≡ word_at m g j) [ true ↦ refl | false ↦ refl ])

pub length-put_word : (m : Memory) (f i w : ℕ) → length (put_word m f i w) ≡ length m
unfolding put_word
length-put_word m f i w = simp length-set

pub IsMemory-put : (m : Memory) (f i w : ℕ) → IsMemory m → f < length m → IsMemory (put_word m f i w)
unfolding put_word
IsMemory-put m f i w ok f_in =
    let long : length (get_or m f []) ≡ 1024 = ok f [] f_in in
    All-set (λ (ws : List ℕ). length ws ≡ 1024) m f (set (get_or m f []) i w) (rw length-set long) ok

-- two memories of the same shape with the same words are the same
pub same_words : (m n : Memory) → IsMemory m → IsMemory n → length m ≡ length n
    → ((f i : ℕ) → f < length m → i < 1024 → word_at m f i ≡ word_at n f i) → m ≡ n
unfolding word_at
same_words m n mok nok same each =
    same_lists m n same (λ k d in_m.
    let in_n : k < length n = omega arith in
    get_or_default m k d [] in_m
    ∙ (same_number_lists (get_or m k []) (get_or n k []) (cc (mok k [] in_m, nok k [] in_n)) (λ i i_in. each k i
    in_m (let long : length (get_or m k []) ≡ 1024 = mok k [] in_m in omega arith)) ∙ get_or_default n k [] d in_n))

pub length-put_words : (m : Memory) (f i : ℕ) (ws : List ℕ) → length (put_words m f i ws) ≡ length m
length-put_words m f i [] = refl
length-put_words m f i (w ∷ ws) = length-put_words (put_word m f i w) f (i + 1) ws ∙ length-put_word m f i w

pub IsMemory-put_words : (m : Memory) (f i : ℕ) (ws : List ℕ) → IsMemory m → f < length m
    → IsMemory (put_words m f i ws)
IsMemory-put_words m f i [] ok f_in = ok
IsMemory-put_words m f i (w ∷ ws) ok f_in =
    let n = length-put_word m f i w in
    IsMemory-put_words (put_word m f i w) f (i + 1) ws (IsMemory-put m f i w ok f_in) (omega arith)

pub word_at-put_words_frame : (m : Memory) (f i : ℕ) (ws : List ℕ) (g j : ℕ) → IsMemory m → f < length m
    → i + length ws ≤ 1024 → g ≢ f → word_at (put_words m f i ws) g j ≡ word_at m g j
word_at-put_words_frame m f i [] g j ok f_in room ne = refl
word_at-put_words_frame m f i (w ∷ ws) g j ok f_in room ne =
    let n = length-put_word m f i w in
    word_at-put_words_frame (put_word m f i w) f (i + 1) ws g j (IsMemory-put m f i w ok f_in) (omega arith)
    (omega arith) ne ∙ word_at-put_frame m f i w g j ok f_in (omega arith) ne

pub word_at-put_words_index : (m : Memory) (f i : ℕ) (ws : List ℕ) (j : ℕ) → IsMemory m → f < length m
    → i + length ws ≤ 1024 → (j < i) ⊎ (i + length ws ≤ j) → word_at (put_words m f i ws) f j ≡ word_at m f j
word_at-put_words_index m f i [] j ok f_in room out = refl
word_at-put_words_index m f i (w ∷ ws) j ok f_in room out =
    let n = length-put_word m f i w in
    let ne : j ≢ i = λ e. elim out [ inl a ↦ omega arith | inr b ↦ omega arith ] in
    word_at-put_words_index (put_word m f i w) f (i + 1) ws j (IsMemory-put m f i w ok f_in) (omega arith) (omega arith)
    (elim out [ inl a ↦ inl (omega arith) | inr b ↦ inr (omega arith) ])
    ∙ word_at-put_index m f i w f j ok f_in (omega arith) ne

pub word_at-put_words_here : (m : Memory) (f i : ℕ) (ws : List ℕ) (j : ℕ) → IsMemory m → f < length m
    → i + length ws ≤ 1024 → j < length ws → word_at (put_words m f i ws) f (i + j) ≡ slice_index ws j
word_at-put_words_here m f i [] j ok f_in room h = absurd (omega arith)
word_at-put_words_here m f i (w ∷ ws) zero ok f_in room h =
    let n = length-put_word m f i w in
    let same : i + 0 ≡ i = omega arith in
    rw (
      same,
      word_at-put_words_index (put_word m f i w) f (i + 1) ws i (IsMemory-put m f i w ok f_in) (omega arith)
          (omega arith) (inl (omega arith)),
      word_at-put_same m f i w ok f_in (omega arith),
    )
word_at-put_words_here m f i (w ∷ ws) (suc j) ok f_in room h =
    let n = length-put_word m f i w in
    let same : i + suc j ≡ i + 1 + j = omega arith in
    rw (
      same,
      word_at-put_words_here (put_word m f i w) f (i + 1) ws j (IsMemory-put m f i w ok f_in) (omega arith)
          (omega arith) (omega arith),
    )

pub length-zero_frame : (m : Memory) (f : ℕ) → length (zero_frame m f) ≡ length m
unfolding zero_frame
length-zero_frame m f = simp length-set

pub IsMemory-zero : (m : Memory) (f : ℕ) → IsMemory m → IsMemory (zero_frame m f)
unfolding zero_frame
IsMemory-zero m f ok = All-set (λ (ws : List ℕ). length ws ≡ 1024) m f (zeros 1024) (length-zeros 1024) ok

pub word_at-zero_frame : (m : Memory) (f g j : ℕ) → g ≢ f → word_at (zero_frame m f) g j ≡ word_at m g j
unfolding word_at zero_frame
word_at-zero_frame m f g j ne = rw get_or-set_other

pub word_at-zero_same : (m : Memory) (f j : ℕ) → f < length m → word_at (zero_frame m f) f j ≡ 0
unfolding word_at zero_frame
word_at-zero_same m f j f_in = rw get_or-set_same (zeros-word 1024 j)
