-- Laws of what is taken over numbers.
use Rattle.std.proofs.Common.{◌≡◌, ℕ, zero, suc, ◌+◌, ◌*◌, ◌≤◌, ◌<◌, ◌==◌, ◌≢◌, ◌⊎◌, inl, inr, true, false, cond, List}
use Rattle.std.proofs.Common.{[], ◌∷◌, ◌++◌, map, length, refl, sym, ap, ap₂, ◌∙◌, subst, arith, eq-eqb, ne_eqb, Option}
use Rattle.std.proofs.Common.{Some, None}
use Rattle.std.specs.Prelude.{flat_map, slice_index_or}
use Rattle.std.proofs.lemmas.Bool.{cases_eq}
use Rattle.pip_model.specs.Lists.{Rising}
use Rattle.pip_model.specs.ReadOff.{first, gather, values_from, or_first, with_first}
use Rattle.pip_model.specs.Tree.{Row, row_at}
use Rattle.pip_model.proofs.OnLists.Members.{Rising-less}

-- no value, where the function has none
pub first_none : {A : Type 0} (f : ℕ → Option A) (from n : ℕ) → ((k : ℕ) → from ≤ k → k < from + n → f k ≡ None)
    → first f from n ≡ None
unfolding first
first_none f from zero h = refl
first_none f from (suc n) h =
    ap (λ o. or_first o (first f (from + 1) n)) (h from (omega arith) (omega arith))
    ∙ first_none f (from + 1) n (λ k a b. h k (omega (arith, a)) (omega (arith, b)))

-- the only value
pub first_only : {A : Type 0} (f : ℕ → Option A) (from n k : ℕ) (a : A) → from ≤ k → k < from + n → f k ≡ Some a
    → ((j : ℕ) → from ≤ j → j < from + n → (f j ≡ None) ⊎ (f j ≡ Some a)) → first f from n ≡ Some a
unfolding first
first_only f from zero k a lo hi e h = absurd (omega arith)
first_only f from (suc n) k a lo hi e h = elim (h from (omega arith) (omega arith)) [
  | inr some ↦ rw some
  | inl none ↦
      ap (λ o. or_first o (first f (from + 1) n)) none
      ∙ first_only f (from + 1) n k a (later none) (omega (arith, hi)) e
      (λ j x y. h j (omega (arith, x)) (omega (arith, y)))
]
  where
    later : f from ≡ None → from + 1 ≤ k
    later none = elim (cases_eq from k) [
      | inl q ↦ let bad : None ≡ Some a = rw (← none, q, e) in cc
      | inr q ↦ omega arith
    ]

-- a list is listed by its members
pub listed_same : {A : Type 0} (f : ℕ → A) (d : A) (from : ℕ) (xs : List A)
    → ((k : ℕ) → k < length xs → f (from + k) ≡ slice_index_or xs k d) → values_from f from (length xs) ≡ xs
unfolding values_from
listed_same f d from [] h = refl
listed_same f d from (x ∷ xs) h =
    let z : from + 0 ≡ from = omega arith in
    let a : f from ≡ x = rw (← z, h 0 (omega arith)) in
    let b = listed_same f d (from + 1) xs (λ k l. let s : from + 1 + k ≡ from + suc k = omega arith in
    rw (s, h (suc k) (omega (arith, l)))) in
    ap₂ (λ y ys. y ∷ ys) a b

-- rows that are gathered by their vpages rise
module _ (f : ℕ → Option Row) (here : (v : ℕ) (r : Row) → f v ≡ Some r → r.at ≡ v) where
  rising_with : (from : ℕ) (o : Option Row) (rs : List Row) → f from ≡ o → Rising (from + 1) (map (λ r. r.at) rs)
      → Rising from (map (λ r. r.at) (with_first o rs))
  rising_with from None rs e h = Rising-less (from + 1) from (map (λ r. r.at) rs) (omega arith) h
  rising_with from (Some r) rs e h = let at = here from r e in
      (omega arith, rw at h)

  pub gather_rises : (from n : ℕ) → Rising from (map (λ r. r.at) (gather f from n))
  unfolding gather
  gather_rises from zero = tt
  gather_rises from (suc n) = rising_with from (f from) (gather f (from + 1) n) refl (gather_rises (from + 1) n)

  -- and are where the function has them
  at_with : (from v : ℕ) (o : Option Row) (rs : List Row) → f from ≡ o → from ≢ v
      → row_at (with_first o rs) v ≡ row_at rs v
  at_with from v None rs e ne = refl
  at_with from v (Some r) rs e ne = let off : (r.at == v) ≡ false = ne_eqb r.at v (λ q. ne (rw (← here from r e) q)) in
      rw off

  pub gather_none : (from n v : ℕ) → v < from ⊎ (from + n ≤ v) → row_at (gather f from n) v ≡ None
  unfolding gather
  gather_none from zero v h = refl
  gather_none from (suc n) v h =
      at_with from v (f from) (gather f (from + 1) n) refl (apart h) ∙ gather_none (from + 1) n v (step h)
    where
      apart : v < from ⊎ (from + suc n ≤ v) → from ≢ v
      apart (inl a) = λ q. absurd (omega arith)
      apart (inr a) = λ q. absurd (omega arith)

      step : v < from ⊎ (from + suc n ≤ v) → v < from + 1 ⊎ (from + 1 + n ≤ v)
      step (inl a) = inl (omega arith)
      step (inr a) = inr (omega arith)

  first_is : (from : ℕ) (o : Option Row) (rs : List Row) → f from ≡ o → row_at rs from ≡ None
      → row_at (with_first o rs) from ≡ f from
  first_is from None rs e h = cc
  first_is from (Some r) rs e h = let on : (r.at == from) ≡ true = eq-eqb r.at from (here from r e) in
      rw (on, ← e)

  pub gather_at : (from n v : ℕ) → from ≤ v → v < from + n → row_at (gather f from n) v ≡ f v
  unfolding gather
  gather_at from zero v lo hi = absurd (omega arith)
  gather_at from (suc n) v lo hi = elim (cases_eq from v) [
    | inl q ↦
        ap (row_at (with_first (f from) (gather f (from + 1) n))) (sym q)
        ∙ first_is from (f from) (gather f (from + 1) n) refl (gather_none (from + 1) n from (inl (omega arith)))
        ∙ ap f q
    | inr ne ↦ at_with from v (f from) (gather f (from + 1) n) refl ne
        ∙ gather_at (from + 1) n v (omega arith) (omega arith)
  ]

-- ---- gathered piece by piece

pub gather_append : {A : Type 0} (f : ℕ → Option A) (from a b : ℕ)
    → gather f from (a + b) ≡ gather f from a ++ gather f (from + a) b
unfolding gather
gather_append f from zero b = let z : from ≡ from + 0 = omega arith in let y : 0 + b ≡ b = omega arith in
    cc
gather_append {A = A} f from (suc a) b =
    let y : suc a + b ≡ suc (a + b) = omega arith in
    let z : from + 1 + a ≡ from + suc a = omega arith in
    rw (y, gather_append f (from + 1) a b, z, onto (f from) (gather f (from + 1) a) (gather f (from + suc a) b))
  where
    onto : (o : Option A) (xs ys : List A) → with_first o (xs ++ ys) ≡ with_first o xs ++ ys
    onto None xs ys = refl
    onto (Some x) xs ys = refl

pub gather_same : {A : Type 0} (f g : ℕ → Option A) (from n : ℕ) → ((k : ℕ) → from ≤ k → k < from + n → f k ≡ g k)
    → gather f from n ≡ gather g from n
unfolding gather
gather_same f g from zero h = refl
gather_same f g from (suc n) h = ap₂ with_first (h from (omega arith) (omega arith))
    (gather_same f g (from + 1) n (λ k a b. h k (omega arith) (omega arith)))

pub gather_empty : {A : Type 0} (f : ℕ → Option A) (from n : ℕ) → ((k : ℕ) → from ≤ k → k < from + n → f k ≡ None)
    → gather f from n ≡ []
unfolding gather
gather_empty f from zero h = refl
gather_empty f from (suc n) h = ap₂ with_first (h from (omega arith) (omega arith))
    (gather_empty f (from + 1) n (λ k a b. h k (omega arith) (omega arith)))

-- a number of pieces of one size
pub gather_pieces : {A : Type 0} (f : ℕ → Option A) (piece : ℕ → List A) (size from n : ℕ) → ((d : ℕ)
    → piece d ≡ gather f (size * d) size) → flat_map piece (values_from (λ d. d) from n) ≡ gather f (size * from)
    (size * n)
unfolding gather values_from
gather_pieces f piece size from zero h = let z : size * 0 ≡ 0 = omega arith in cc
gather_pieces f piece size from (suc n) h =
    let a : size + size * n ≡ size * suc n = mul size n in
    let b : size * (from + 1) ≡ size * from + size = next size from in
    ap₂ (λ xs ys. xs ++ ys) (h from) (gather_pieces f piece size (from + 1) n h ∙ ap (λ k. gather f k (size * n)) b)
    ∙ sym (gather_append f (size * from) size (size * n))
    ∙ ap (gather f (size * from)) a
  where
    mul : (s n : ℕ) → s + s * n ≡ s * suc n
    mul s n = grind arith

    next : (s n : ℕ) → s * (n + 1) ≡ s * n + s
    next s n = grind arith

-- the value at the first place that has one
pub first_hit : {A : Type 0} (f : ℕ → Option A) (from n k : ℕ) (a : A) → from ≤ k → k < from + n → f k ≡ Some a
    → ((j : ℕ) → from ≤ j → j < k → f j ≡ None) → first f from n ≡ Some a
unfolding first
first_hit f from zero k a lo hi e h = absurd (omega arith)
first_hit f from (suc n) k a lo hi e h = elim (cases_eq from k) [
  | inl q ↦ rw (q, e)
  | inr ne ↦
      ap (λ o. or_first o (first f (from + 1) n)) (h from (omega arith) (omega (arith, lo, ne)))
      ∙ first_hit f (from + 1) n k a (omega (arith, lo, ne)) (omega (arith, hi)) e (λ j x y. h j (omega (arith, x)) y)
]
