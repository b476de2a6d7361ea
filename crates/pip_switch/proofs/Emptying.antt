-- Caches are emptied one by one.
use Rattle.std.proofs.Common.{◌≡◌, ℕ, zero, suc, ◌+◌, ◌<◌, ◌≤◌, List, [], ◌∷◌, ◌++◌, length, refl, ap, ◌∙◌, arith}
use Rattle.std.specs.Prelude.{slice_index_or, slice_set}
use Rattle.pip_model.specs.Cache.{Places, all_emptied, empty_caches, without_entries, no_places}

-- the first n of them are empty
pub emptied_to : ℕ → List Places → List Places
emptied_to zero ks = ks
emptied_to (suc n) [] = []
emptied_to (suc n) (k ∷ ks) = without_entries k ∷ emptied_to n ks

pub emptied_length : (n : ℕ) (ks : List Places) → length (emptied_to n ks) ≡ length ks
unfolding emptied_to
emptied_length zero ks = refl
emptied_length (suc n) [] = refl
emptied_length (suc n) (k ∷ ks) = ap suc (emptied_length n ks)

pub emptied_none : (ks : List Places) → ks ≡ emptied_to 0 ks
unfolding emptied_to
emptied_none ks = refl

-- one more
emptied_next : (n : ℕ) (ks : List Places) (d : Places) → n < length ks
    → slice_set (emptied_to n ks) n (without_entries (slice_index_or (emptied_to n ks) n d)) ≡ emptied_to (suc n) ks
unfolding emptied_to
emptied_next zero [] d low = absurd (omega (arith, low))
emptied_next zero (k ∷ ks) d low = refl
emptied_next (suc n) [] d low = absurd (omega (arith, low))
emptied_next (suc n) (k ∷ ks) d low = ap (λ z. without_entries k ∷ z) (emptied_next n ks d (omega (arith, low)))

pub emptied_one : (n : ℕ) (ks zs : List Places) (d new : Places) → n < length ks → zs ≡ emptied_to n ks
    → new ≡ without_entries (slice_index_or zs n d) → slice_set zs n new ≡ emptied_to (n + 1) ks
emptied_one n ks zs d new low at is =
    let one : suc n ≡ n + 1 = omega arith in
    ap (slice_set zs n) is ∙ ap (λ z. slice_set z n (without_entries (slice_index_or z n d))) at
    ∙ emptied_next n ks d low
    ∙ ap (λ k. emptied_to k ks) one

-- all
pub emptied_all : (n : ℕ) (ks : List Places) → length ks ≤ n → emptied_to n ks ≡ all_emptied ks
unfolding emptied_to
emptied_all zero [] h = refl
emptied_all zero (k ∷ ks) h = absurd (omega (arith, h))
emptied_all (suc n) [] h = refl
emptied_all (suc n) (k ∷ ks) h = ap (λ z. without_entries k ∷ z) (emptied_all n ks (omega (arith, h)))

-- ---- empty caches, one more

pub empty_more : (n : ℕ) → empty_caches n ++ no_places ∷ [] ≡ empty_caches (n + 1)
empty_more n = go n ∙ (let one : suc n ≡ n + 1 = omega arith in ap empty_caches one)
  where
    go : (n : ℕ) → empty_caches n ++ no_places ∷ [] ≡ empty_caches (suc n)
    go zero = refl
    go (suc n) = ap (λ z. no_places ∷ z) (go n)
