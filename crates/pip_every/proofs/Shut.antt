-- Places of a list that are all shut.
use Rattle.std.proofs.Common.{◌≡◌, ℕ, zero, suc, ◌+◌, ◌-◌, ◌<◌, ◌≤◌, Bool, true, false, List, slice_index_or, take}
use Rattle.std.proofs.Common.{drop, sym, ap, ◌∙◌, arith, inl, inr, refl}
use Rattle.std.proofs.Math.ListN.{replicate}
use Rattle.std.proofs.lemmas.Bool.{cases_lt}
use Rattle.std.proofs.lemmas.List.{get_or-drop, get_or-take}

all_false : (n k : ℕ) → k < n → slice_index_or (replicate n false) k true ≡ false
all_false zero k lt = absurd (omega (arith, lt))
all_false (suc n) zero lt = refl
all_false (suc n) (suc k) lt = all_false n k (omega (arith, lt))

-- those from a place on are shut
shut_at : (os some : List Bool) (p n k : ℕ) → n ≡ 16 → some ≡ take n (drop p os) → some ≡ replicate 16 false → p ≤ k
    → k < p + 16 → slice_index_or os k true ≡ false
shut_at os some p n k count is shut low high =
    let at : p + (k - p) ≡ k = omega (arith, low) in
    let small : k - p < 16 = omega (arith, low, high) in
    let within : k - p < n = omega (arith, small, count) in
    ap (λ v. slice_index_or os v true) (sym at) ∙
    (sym (get_or-drop p os (k - p) true) ∙ (sym (get_or-take n (drop p os) (k - p) true within) ∙
    (ap (λ v. slice_index_or v (k - p) true) (sym is ∙ shut) ∙ all_false 16 (k - p) small)))

-- and so are those before
pub passed_shut : (os some : List Bool) (from p n : ℕ) → n ≡ 16 → some ≡ take n (drop p os)
    → some ≡ replicate 16 false → ((k : ℕ) → from ≤ k → k < p → slice_index_or os k true ≡ false) → (k : ℕ)
    → from ≤ k → k < p + 16 → slice_index_or os k true ≡ false
passed_shut os some from p n count is shut before k low high = elim (cases_lt k p) [
  | inl small ↦ before k low small
  | inr large ↦ shut_at os some p n k count is shut large high
]
