-- Places of a list that grows at its end.
use Rattle.std.proofs.Common.{◌≡◌, ℕ, zero, suc, ◌<◌, ◌⊎◌, inl, inr, List, [], ◌∷◌, ◌++◌, length, Some, slice_get}
use Rattle.std.proofs.Common.{refl, arith}

module _ {X : Type 0} where
  -- what stood at a place still stands there
  pub get-more : (xs : List X) (ys : List X) (i : ℕ) (x : X) → slice_get xs i ≡ Some x → slice_get (xs ++ ys) i ≡ Some x
  get-more [] ys i x e = absurd (cc)
  get-more (y ∷ xs) ys zero x e = e
  get-more (y ∷ xs) ys (suc i) x e = get-more xs ys i x e

  -- the new one is after them
  pub get-new : (xs : List X) (x : X) → slice_get (xs ++ x ∷ []) (length xs) ≡ Some x
  get-new [] x = refl
  get-new (y ∷ xs) x = get-new xs x

  -- what stands at a place stood there, or is the new one
  pub get-back : (xs : List X) (x : X) (i : ℕ) (y : X) → slice_get (xs ++ x ∷ []) i ≡ Some y
      → (slice_get xs i ≡ Some y) ⊎ ((i ≡ length xs) × (y ≡ x))
  get-back [] x zero y e = inr (refl, cc)
  get-back [] x (suc i) y e = absurd (cc)
  get-back (z ∷ xs) x zero y e = inl e
  get-back (z ∷ xs) x (suc i) y e = elim (get-back xs x i y e) [ inl h ↦ inl h | inr h ↦ inr (rw h.0, h.1) ]

  -- it is a place of the list
  pub get-below : (xs : List X) (i : ℕ) (x : X) → slice_get xs i ≡ Some x → i < length xs
  get-below [] i x e = absurd (cc)
  get-below (y ∷ xs) zero x e = omega arith
  get-below (y ∷ xs) (suc i) x e = let h : i < length xs = get-below xs i x e in omega arith

  -- each place has something
  pub get-some : (xs : List X) (i : ℕ) → i < length xs → (x : X) × (slice_get xs i ≡ Some x)
  get-some [] i h = absurd (omega arith)
  get-some (x ∷ xs) zero h = (x, refl)
  get-some (x ∷ xs) (suc i) h = get-some xs i (omega arith)
