-- A hash, byte by byte and by eight bytes.
use Rattle.std.proofs.Common.{◌≡◌, ℕ, ◌+◌, ◌<◌, ◌≤◌, List, [], ◌∷◌, length, take, drop, get_or, refl, arith}
use Rattle.std.proofs.lemmas.List.{drop_all, drop_more}
use Rattle.std.specs.Int.{from_le_bytes, w64}
use Rattle.pip_search.specs.Naming.{hash_after, hash_by_eights, hash_step}

pub hash_more : (ks : List ℕ) (i sum h : ℕ) → i < length ks → hash_after sum (drop i ks) ≡ h
    → hash_after (hash_step sum (get_or ks i 0)) (drop (i + 1) ks) ≡ h
unfolding hash_after
hash_more ks i sum h low e = rw (drop_more ks i 0 low) at e

pub hash_none : (ks : List ℕ) (i sum h : ℕ) → length ks ≤ i → hash_after sum (drop i ks) ≡ h → sum ≡ h
unfolding hash_after
hash_none ks i sum h all e = rw (drop_all i ks all) at e

-- eight bytes more
pub eight_more : (ks : List ℕ) (sum : ℕ) → 8 ≤ length ks
    → hash_by_eights sum ks ≡ hash_by_eights (hash_step sum (from_le_bytes w64 (take 8 ks))) (drop 8 ks)
unfolding hash_by_eights
eight_more (a ∷ b ∷ c ∷ d ∷ e ∷ f ∷ g ∷ h ∷ ks) sum all = refl
eight_more [] sum all = absurd (omega arith)
eight_more (a ∷ []) sum all = absurd (omega arith)
eight_more (a ∷ b ∷ []) sum all = absurd (omega arith)
eight_more (a ∷ b ∷ c ∷ []) sum all = absurd (omega arith)
eight_more (a ∷ b ∷ c ∷ d ∷ []) sum all = absurd (omega arith)
eight_more (a ∷ b ∷ c ∷ d ∷ e ∷ []) sum all = absurd (omega arith)
eight_more (a ∷ b ∷ c ∷ d ∷ e ∷ f ∷ []) sum all = absurd (omega arith)
eight_more (a ∷ b ∷ c ∷ d ∷ e ∷ f ∷ g ∷ []) sum all = absurd (omega arith)

-- the bytes that are left where there are no eight
pub eight_none : (ks : List ℕ) (sum : ℕ) → length ks < 8 → hash_by_eights sum ks ≡ hash_after sum ks
unfolding hash_by_eights
eight_none [] sum few = refl
eight_none (a ∷ []) sum few = refl
eight_none (a ∷ b ∷ []) sum few = refl
eight_none (a ∷ b ∷ c ∷ []) sum few = refl
eight_none (a ∷ b ∷ c ∷ d ∷ []) sum few = refl
eight_none (a ∷ b ∷ c ∷ d ∷ e ∷ []) sum few = refl
eight_none (a ∷ b ∷ c ∷ d ∷ e ∷ f ∷ []) sum few = refl
eight_none (a ∷ b ∷ c ∷ d ∷ e ∷ f ∷ g ∷ []) sum few = refl
eight_none (a ∷ b ∷ c ∷ d ∷ e ∷ f ∷ g ∷ h ∷ ks) sum few = absurd (omega arith)
