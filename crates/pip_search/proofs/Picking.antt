-- What is at the places of a list that is mapped or filtered.
use Rattle.std.proofs.Common.{◌≡◌, ℕ, zero, suc, ◌<◌, List, [], ◌∷◌, map, Some, slice_get, refl, arith}
use Rattle.std.proofs.Common.{cond}
use Rattle.std.specs.Prelude.{Bool, true, false, filter}

module _ {X Y : Type 0} (f : X → Y) where
  pub map_at : (xs : List X) (j : ℕ) (x : X) → slice_get xs j ≡ Some x → slice_get (map f xs) j ≡ Some (f x)
  map_at [] j x e = absurd (cc)
  map_at (y ∷ xs) zero x e = let same : y ≡ x = cc in rw same
  map_at (y ∷ xs) (suc j) x e = map_at xs j x e

  pub at_map : (xs : List X) (j : ℕ) (y : Y) → slice_get (map f xs) j ≡ Some y → (x : X)
      × ((slice_get xs j ≡ Some x) × (f x ≡ y))
  at_map [] j y e = absurd (cc)
  at_map (x ∷ xs) zero y e = (x, (refl, cc))
  at_map (x ∷ xs) (suc j) y e = at_map xs j y e

-- one of a list that passes a test, and stands there
abbrev IsPicked : {X : Type 0} → (X → Bool) → List X → X → Type 0
IsPicked p xs x = (j : ℕ) × ((slice_get xs j ≡ Some x) × (p x ≡ true))

-- two of a list, one after the other
abbrev AreRising : {X : Type 0} → List X → X → X → Type 0
AreRising xs x y = (i : ℕ) × ((l : ℕ) × ((i < l) × ((slice_get xs i ≡ Some x) × (slice_get xs l ≡ Some y))))

module _ {X : Type 0} (p : X → Bool) where
  picked_first : (y : X) (xs : List X) (k : ℕ) (x : X)
      → ((n : ℕ) → slice_get (filter p xs) n ≡ Some x → IsPicked p xs x)
      → p y ≡ true → slice_get (y ∷ filter p xs) k ≡ Some x → IsPicked p (y ∷ xs) x
  picked_first y xs zero x more is e = let same : y ≡ x = cc in (0, (e, rw (← same, is)))
  picked_first y xs (suc n) x more is e = let (j, (at, good)) = more n e in (suc j, (at, good))

  -- one that passes stood in the list
  pub at_filter : (xs : List X) (k : ℕ) (x : X) → slice_get (filter p xs) k ≡ Some x → (j : ℕ)
      × ((slice_get xs j ≡ Some x) × (p x ≡ true))
  at_filter [] k x e = absurd (cc)
  at_filter (y ∷ xs) k x e =
      elim (p y) as (λ b. p y ≡ b → slice_get (cond b (y ∷ filter p xs) (filter p xs)) k ≡ Some x
      → IsPicked p (y ∷ xs) x) [
        | true ↦ picked_first y xs k x (λ n h. at_filter xs n x h)
        | false ↦ λ is h. let (j, (at, good)) = at_filter xs k x h in (suc j, (at, good))
      ] refl e

  -- one of the list that passes is there
  pub filter_at : (xs : List X) (j : ℕ) (x : X) → slice_get xs j ≡ Some x → p x ≡ true → (k : ℕ)
      × (slice_get (filter p xs) k ≡ Some x)
  filter_at [] j x e good = absurd (cc)
  filter_at (y ∷ xs) zero x e good =
      let same : y ≡ x = cc in
      let is : p y ≡ true = rw (same, good) in
      (0, rw (is, e))
  filter_at (y ∷ xs) (suc j) x e good =
      let (k, at) = filter_at xs j x e good in
      elim (p y) as (λ b. (k : ℕ) × (slice_get (cond b (y ∷ filter p xs) (filter p xs)) k ≡ Some x))
      [ true ↦ (suc k, at) | false ↦ (k, at) ]

  rising_first : (z : X) (xs : List X) (n o : ℕ) (x y : X)
      → ((j k : ℕ) → j < k → slice_get (filter p xs) j ≡ Some x → slice_get (filter p xs) k ≡ Some y → AreRising xs x y)
      → n < o → slice_get (z ∷ filter p xs) n ≡ Some x → slice_get (z ∷ filter p xs) o ≡ Some y
      → AreRising (z ∷ xs) x y
  rising_first z xs n zero x y more a g h = absurd (omega arith)
  rising_first z xs zero (suc o) x y more a g h =
      let (l, (at, good)) = at_filter xs o y h in (0, (suc l, (omega arith, (g, at))))
  rising_first z xs (suc n) (suc o) x y more a g h =
      let (i, (l, (less, (at, bt)))) = more n o (omega arith) g h in (suc i, (suc l, (omega arith, (at, bt))))

  -- two that pass stood in the same order
  pub filter_rises : (xs : List X) (j k : ℕ) (x y : X) → j < k → slice_get (filter p xs) j ≡ Some x
      → slice_get (filter p xs) k ≡ Some y → (i : ℕ) × ((l : ℕ) × ((i < l)
      × ((slice_get xs i ≡ Some x) × (slice_get xs l ≡ Some y))))
  filter_rises [] j k x y a e f = absurd (cc)
  filter_rises (z ∷ xs) j k x y a e f =
      elim (p z) as (λ b. slice_get (cond b (z ∷ filter p xs) (filter p xs)) j ≡ Some x
      → slice_get (cond b (z ∷ filter p xs) (filter p xs)) k ≡ Some y → AreRising (z ∷ xs) x y) [
        | true ↦ rising_first z xs j k x y (λ n o b g h. filter_rises xs n o x y b g h) a
        | false ↦ λ g h. let (i, (l, (less, (at, bt)))) = filter_rises xs j k x y a g h in
            (suc i, (suc l, (omega arith, (at, bt))))
      ] e f
