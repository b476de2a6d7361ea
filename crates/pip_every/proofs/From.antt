-- Changes from a place on, and how a list of them is taken apart.
use Rattle.std.proofs.Common.{◌≡◌, ℕ, zero, suc, ◌+◌, ◌<◌, ◌≤◌, List, [], ◌∷◌, ◌++◌, if◌then◌else◌, length, take, drop}
use Rattle.std.proofs.Common.{refl, sym, ap, ap₂, ◌∙◌, ◌==◌, arith, get_or, inl, inr, append_assoc}
use Rattle.std.proofs.lemmas.Bool.Decides.{eqb_tells}
use Rattle.std.proofs.lemmas.Bool.{cases_lt, le-ltb, lt-ltb}
use Rattle.std.proofs.lemmas.List.{append-nil}
use Rattle.pip_base.specs.Memory.{Memory}
use Rattle.pip_every.specs.Changes.{changes_at, changes_below, changes_from, word_at_place, words_below}
use Rattle.pip_every.proofs.Mixed.{no_change, one_change}

-- those of two rows of places
pub from_join : (a m : Memory) (k n p l at : ℕ) → l ≡ n + p → at ≡ k + n
    → changes_from a m k l ≡ changes_from a m k n ++ changes_from a m at p
unfolding changes_from
from_join a m k zero p l at is at_is =
    let here : k ≡ at = omega (arith, at_is) in
    let same : l ≡ p = omega (arith, is) in
    ap₂ (changes_from a m) here same
from_join a m k (suc n) p zero at is at_is = absurd (omega (arith, is))
from_join a m k (suc n) p (suc l) at is at_is =
    ap (λ v. changes_at a m k ++ v) (from_join a m (suc k) n p l at (omega (arith, is)) (omega (arith, at_is)))
    ∙ sym (append_assoc (changes_at a m k) (changes_from a m (suc k) n) (changes_from a m at p))

-- where two memories have the same words they have the same changes
pub from_same : (a m b : Memory) (k n : ℕ)
    → ((q : ℕ) → k ≤ q → q < k + n → word_at_place m q ≡ word_at_place b q)
    → changes_from a m k n ≡ changes_from a b k n
unfolding changes_from
from_same a m b k zero same = refl
from_same a m b k (suc n) same =
    let here : changes_at a m k ≡ changes_at a b k =
    ap (λ w. if w == word_at_place a k then [] else k ∷ w ∷ []) (same k (omega arith) (omega arith)) in
    ap₂ (λ u v. u ++ v) here
    (from_same a m b (suc k) n (λ q low high. same q (omega (arith, low)) (omega (arith, high))))

-- where it has the first words there are none
pub from_none : (a m : Memory) (k n : ℕ)
    → ((q : ℕ) → k ≤ q → q < k + n → word_at_place m q ≡ word_at_place a q) → changes_from a m k n ≡ []
unfolding changes_from
from_none a m k zero same = refl
from_none a m k (suc n) same =
    ap (λ v. v ++ changes_from a m (suc k) n) (no_change a m k (same k (omega arith) (omega arith)))
    ∙ from_none a m (suc k) n (λ q low high. same q (omega (arith, low)) (omega (arith, high)))

-- those of one place
pub from_one : (a m : Memory) (k : ℕ) → changes_from a m k 1 ≡ changes_at a m k
unfolding changes_from
from_one a m k = append-nil (changes_at a m k)

-- those below a place are those from 0 on
pub below_from : (a m : Memory) (k : ℕ) → changes_below a m k ≡ changes_from a m 0 k
unfolding changes_below changes_from
below_from a m zero = refl
below_from a m (suc k) = ap₂ (λ u v. u ++ v) (below_from a m k) (sym (from_one a m k))
    ∙ sym (from_join a m 0 k 1 (suc k) k (omega arith) (omega arith))

none_below : (a b : Memory) (p k n : ℕ) → p ≤ k → words_below p (changes_from a b k n) ≡ 0
unfolding changes_from words_below
none_below a b p k zero le = refl
none_below a b p k (suc n) le = elim (eqb_tells (word_at_place b k) (word_at_place a k)) [
  | inl e ↦ ap (λ v. words_below p (v ++ changes_from a b (suc k) n)) (no_change a b k e.1)
      ∙ none_below a b p (suc k) n (omega (arith, le))
  | inr n_e ↦ ap (λ v. words_below p (v ++ changes_from a b (suc k) n)) (one_change a b k n_e.1)
      ∙ ap (λ v. if v then suc (suc (words_below p (changes_from a b (suc k) n))) else 0) (le-ltb k p le)
]

count_split : (a b : Memory) (p k n r l : ℕ) → p ≡ k + n → l ≡ n + r
    → words_below p (changes_from a b k l) ≡ length (changes_from a b k n)
unfolding changes_from words_below
count_split a b p k zero r l at is = none_below a b p k l (omega (arith, at))
count_split a b p k (suc n) r zero at is = absurd (omega (arith, is))
count_split a b p k (suc n) r (suc l) at is = elim (eqb_tells (word_at_place b k) (word_at_place a k)) [
  | inl e ↦
      let none = no_change a b k e.1 in
      ap (λ v. words_below p (v ++ changes_from a b (suc k) l)) none
      ∙ (count_split a b p (suc k) n r l (omega (arith, at)) (omega (arith, is))
      ∙ ap (λ v. length (v ++ changes_from a b (suc k) n)) (sym none))
  | inr n_e ↦
      let one = one_change a b k n_e.1 in
      ap (λ v. words_below p (v ++ changes_from a b (suc k) l)) one
      ∙ (ap (λ v. if v then suc (suc (words_below p (changes_from a b (suc k) l))) else 0)
      (lt-ltb k p (omega (arith, at)))
      ∙ (ap (λ v. suc (suc v)) (count_split a b p (suc k) n r l (omega (arith, at)) (omega (arith, is)))
      ∙ ap (λ v. length (v ++ changes_from a b (suc k) n)) (sym one)))
]

take_first : (xs ys : List ℕ) → take (length xs) (xs ++ ys) ≡ xs
take_first [] ys = refl
take_first (x ∷ xs) ys = ap (λ v. x ∷ v) (take_first xs ys)

drop_first : (xs ys : List ℕ) → drop (length xs) (xs ++ ys) ≡ ys
drop_first [] ys = refl
drop_first (x ∷ xs) ys = drop_first xs ys

-- changes are taken apart at a place
pub split : (a b : Memory) (p k n r c : ℕ) (ws : List ℕ) → ws ≡ changes_from a b k (n + r) → p ≡ k + n
    → c ≡ words_below p ws → (take c ws ≡ changes_from a b k n) × (drop c ws ≡ changes_from a b (k + n) r)
split a b p k n r c ws is at count =
    let parts : changes_from a b k (n + r) ≡ changes_from a b k n ++ changes_from a b (k + n) r =
    from_join a b k n r (n + r) (k + n) refl refl in
    let many : c ≡ length (changes_from a b k n) =
    count ∙ (ap (words_below p) is ∙ count_split a b p k n r (n + r) at refl) in (
      ap₂ take many (is ∙ parts) ∙ take_first (changes_from a b k n) (changes_from a b (k + n) r),
      ap₂ drop many (is ∙ parts) ∙ drop_first (changes_from a b k n) (changes_from a b (k + n) r),
    )

-- two words more come before a place, where the first is a place below it
pub below_next : (p at : ℕ) (ws : List ℕ) (q : ℕ) → at + 1 < length ws → q ≡ get_or ws at 0 → q < p
    → words_below p (drop at ws) ≡ suc (suc (words_below p (drop (suc (suc at)) ws)))
unfolding words_below
below_next p at [] q long is lt = absurd (omega (arith, long))
below_next p zero (x ∷ []) q long is lt = absurd (omega (arith, long))
below_next p zero (x ∷ y ∷ ws) q long is lt =
    ap (λ v. if v then suc (suc (words_below p ws)) else 0) (lt-ltb x p (omega (arith, is, lt)))
below_next p (suc at) (x ∷ ws) q long is lt = below_next p at ws q (omega (arith, long)) is lt

-- and none where it isn't, or no words are left
pub below_none : (p at : ℕ) (ws : List ℕ) → (at + 1 < length ws → get_or ws at 0 < p → ⊥) → at ≤ length ws
    → words_below p (drop at ws) ≡ 0
unfolding words_below
below_none p zero [] out le = refl
below_none p (suc at) [] out le = absurd (omega (arith, le))
below_none p zero (x ∷ []) out le = refl
below_none p zero (x ∷ y ∷ ws) out le = elim (cases_lt x p) [
  | inl lt ↦ absurd (out (omega arith) lt)
  | inr ge ↦ ap (λ v. if v then suc (suc (words_below p ws)) else 0) (le-ltb x p ge)
]
below_none p (suc at) (x ∷ ws) out le = below_none p at ws (λ long lt. out (omega (arith, long)) lt) (omega (arith, le))
