-- The lines of the children, one by one.
use Rattle.std.proofs.Common.{◌≡◌, refl, ℕ, zero, suc, ◌+◌, ◌<◌, sym, ap, ◌∙◌, subst, List, [], ◌∷◌, ◌++◌, take, length}
use Rattle.std.proofs.Common.{arith, append_assoc, append-nil}
use Rattle.pip_io.specs.Taken.{Taken, Appends, AppendsPart}
use Rattle.pip_io.proofs.Taken.{Appends-trans}
use Rattle.pip_io.proofs.Pieces.{left_more}
use Rattle.std.specs.Prelude.{slice_index_or}
use Rattle.pip_native.specs.Watching.{built_from, built_line}

pub built-append : (i : ℕ) (xs ys : List ℕ) → built_from i (xs ++ ys) ≡ built_from i xs ++ built_from (i + length xs) ys
built-append i [] ys = ap (λ k. built_from k ys) (let e : i ≡ i + 0 = omega arith in e)
built-append i (x ∷ xs) ys =
    ap (λ k. built_line i x ++ k) (built-append (i + 1) xs ys ∙ ap (λ k. built_from (i + 1) xs ++ built_from k ys)
    (let e : i + 1 + length xs ≡ i + suc (length xs) = omega arith in e))
    ∙ sym (append_assoc (built_line i x) (built_from (i + 1) xs) (built_from (i + suc (length xs)) ys))

take_length : (xs : List ℕ) (i : ℕ) → i < length xs → length (take i xs) ≡ i
take_length xs zero l = refl
take_length [] (suc i) l = absurd (let z : ⊥ = omega arith in z)
take_length (x ∷ xs) (suc i) l = ap suc (take_length xs i (omega arith))

from_zero : (xs : List ℕ) (i : ℕ) → i < length xs → 0 + length (take i xs) ≡ i
from_zero xs i l = let e = take_length xs i l in omega arith

take_next : (xs : List ℕ) (i : ℕ) → i < length xs → take (suc i) xs ≡ take i xs ++ slice_index_or xs i 0 ∷ []
take_next [] i l = absurd (let z : ⊥ = omega arith in z)
take_next (x ∷ xs) zero l = refl
take_next (x ∷ xs) (suc i) l = ap (λ k. x ∷ k) (take_next xs i (omega arith))

-- one more line
pub built-next : (xs : List ℕ) (i : ℕ) → i < length xs
    → built_from 0 (take (i + 1) xs) ≡ built_from 0 (take i xs) ++ built_line i (slice_index_or xs i 0)
built-next xs i l =
    let one : i + 1 ≡ suc i = omega arith in
    ap (λ k. built_from 0 (take k xs)) one
    ∙ ap (built_from 0) (take_next xs i l)
    ∙ built-append 0 (take i xs) (slice_index_or xs i 0 ∷ [])
    ∙ ap (λ k. built_from 0 (take i xs) ++ built_from k (slice_index_or xs i 0 ∷ [])) (from_zero xs i l)
    ∙ ap (λ k. built_from 0 (take i xs) ++ k) (append-nil (built_line i (slice_index_or xs i 0)))

-- the lines before line i, line i, the rest
split_at : (xs : List ℕ) (i : ℕ) → i < length xs → (rest : List ℕ) × (xs ≡ take i xs ++ slice_index_or xs i 0 ∷ rest)
split_at [] i l = absurd (let z : ⊥ = omega arith in z)
split_at (x ∷ xs) zero l = (xs, refl)
split_at (x ∷ xs) (suc i) l = let (rest, e) = split_at xs i (omega arith) in (rest, ap (λ k. x ∷ k) e)

pub built-split : (xs : List ℕ) (i : ℕ) → i < length xs
    → (more : List ℕ) × (built_from 0 xs ≡ built_from 0 (take i xs) ++ (built_line i (slice_index_or xs i 0) ++ more))
built-split xs i l =
    let (rest, e) = split_at xs i l in (
      built_from (i + 1) rest,
      ap (built_from 0) e
          ∙ built-append 0 (take i xs) (slice_index_or xs i 0 ∷ rest)
          ∙ ap (λ k. built_from 0 (take i xs) ++ built_from k (slice_index_or xs i 0 ∷ rest)) (from_zero xs i l),
    )

-- one line more was written, or a part of it
module _ (a b c : Taken) (xs : List ℕ) (i : ℕ) (inside : i < length xs)
    (before : Appends a b (built_from 0 (take i xs))) where
  pub one_more : Appends b c (built_line i (slice_index_or xs i 0)) → Appends a c (built_from 0 (take (i + 1) xs))
  one_more h = subst (Appends a c) (sym (built-next xs i inside))
      (Appends-trans a b c (built_from 0 (take i xs)) (built_line i (slice_index_or xs i 0)) before h)

  pub cut_here : AppendsPart b c (built_line i (slice_index_or xs i 0)) → AppendsPart a c (built_from 0 xs)
  cut_here y =
      let (more, e) = built-split xs i inside in (
        built_from 0 (take i xs) ++ y.0,
        y.1 ++ more,
        Appends-trans a b c (built_from 0 (take i xs)) y.0 before y.2,
        append_assoc (built_from 0 (take i xs)) y.0 (y.1 ++ more)
            ∙ ap (λ k. built_from 0 (take i xs) ++ k) (sym (append_assoc y.0 y.1 more) ∙ ap (λ k. k ++ more) y.3)
            ∙ sym e,
        left_more y.1 more y.4,
      )
