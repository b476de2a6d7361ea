-- A text that is written piece by piece.
use Rattle.std.proofs.Common.{◌≡◌, ℕ, zero, suc, ◌+◌, List, [], ◌∷◌, ◌++◌, take, sym, ap, ◌∙◌, subst, append_assoc}
use Rattle.std.proofs.Common.{arith, append-nil, Some, Result, Ok, Err, OnOk, OnErr}
use Rattle.std.specs.Prelude.{flat_map, slice_get}
use Rattle.pip_io.specs.Taken.{Taken, Appends, AppendsPart, Wrote}
use Rattle.pip_io.proofs.Pieces.{left_more}
use Rattle.pip_io.proofs.Taken.{Appends-trans}

-- a part of a text after another
pub part_after : (a b c : Taken) (t u : List ℕ) → Appends a b t → AppendsPart b c u → AppendsPart a c (t ++ u)
part_after a b c t u h (front, more, k, same, some) = (
  t ++ front,
  more,
  Appends-trans a b c t front h k,
  append_assoc t front more ∙ ap (λ l. t ++ l) same,
  some,
)

-- a part of a text is one of a longer text
pub part_longer : (a b : Taken) (t u : List ℕ) → AppendsPart a b t → AppendsPart a b (t ++ u)
part_longer a b t u (front, more, k, same, some) =
    (front, more ++ u, k, sym (append_assoc front more u) ∙ ap (λ l. l ++ u) same, left_more more u some)

module _ {A : Type 0} (f : A → List ℕ) where
  -- the pieces before one, the piece, and the others
  pub flat_split : (xs : List A) (i : ℕ) (x : A) → slice_get xs i ≡ Some x
      → (more : List ℕ) × (flat_map f xs ≡ flat_map f (take i xs) ++ (f x ++ more))
  flat_split [] i x at = cc
  flat_split (y ∷ xs) zero x at = (flat_map f xs, ap (λ k. f k ++ flat_map f xs) (let e : y ≡ x = cc in e))
  flat_split (y ∷ xs) (suc i) x at =
      let (more, e) = flat_split xs i x at in
      (more, ap (λ k. f y ++ k) e ∙ sym (append_assoc (f y) (flat_map f (take i xs)) (f x ++ more)))

  flat_next : (xs : List A) (i : ℕ) (x : A) → slice_get xs i ≡ Some x
      → flat_map f (take (suc i) xs) ≡ flat_map f (take i xs) ++ f x
  flat_next [] i x at = cc
  flat_next (y ∷ xs) zero x at = append-nil (f y) ∙ ap f (let e : y ≡ x = cc in e)
  flat_next (y ∷ xs) (suc i) x at =
      ap (λ k. f y ++ k) (flat_next xs i x at) ∙ sym (append_assoc (f y) (flat_map f (take i xs)) (f x))

  module _ (a b c : Taken) (xs : List A) (i : ℕ) (x : A) (at : slice_get xs i ≡ Some x)
      (before : Appends a b (flat_map f (take i xs))) where
    -- one piece more was written
    pub one_more : Appends b c (f x) → Appends a c (flat_map f (take (i + 1) xs))
    one_more h =
        let one : suc i ≡ i + 1 = omega arith in
        subst (λ k. Appends a c (flat_map f (take k xs))) one
        (subst (Appends a c) (sym (flat_next xs i x at))
        (Appends-trans a b c (flat_map f (take i xs)) (f x) before h))

    -- or a part of it
    pub cut_here : AppendsPart b c (f x) → AppendsPart a c (flat_map f xs)
    cut_here h =
        let (more, e) = flat_split xs i x at in
        subst (AppendsPart a c) (sym e)
        (part_after a b c (flat_map f (take i xs)) (f x ++ more) before (part_longer b c (f x) more h))

-- a text after another, all of it or a part
pub wrote_after : {T E : Type 0} (a b c : Taken) (t u : List ℕ) (r : Result T E) → Appends a b t
    → OnOk r (Appends b c u) → OnErr r (AppendsPart b c u) → Wrote r a c (t ++ u)
wrote_after a b c t u (Ok v) h whole part = Appends-trans a b c t u h whole
wrote_after a b c t u (Err e) h whole part = part_after a b c t u h part

-- a text after another, where a call wrote the second or a part of it
pub wrote_of : {T E : Type 0} (a b c : Taken) (t u : List ℕ) (r : Result T E) → Appends a b t → Wrote r b c u
    → Wrote r a c (t ++ u)
wrote_of a b c t u (Ok v) h k = Appends-trans a b c t u h k
wrote_of a b c t u (Err e) h k = part_after a b c t u h k
