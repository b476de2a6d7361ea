-- The order of a label after the last one.
use Rattle.std.specs.Prelude.{◌≡◌, ℕ, zero, suc, ◌+◌, List, [], ◌∷◌, length, Some, slice_get}
use Rattle.std.specs.Cmp.Lexicographic.{slice_cmp}
use Rattle.std.specs.Ordering.{nat_cmp}
use Rattle.std.proofs.Common.{ap, arith}
use Rattle.pip_certificates.specs.Merges.{label_order}

pub last_order : (ls : List (List ℕ)) (k : ℕ) (x text : List ℕ) → length ls ≡ k + 1 → slice_get ls k ≡ Some x
    → label_order ls text ≡ slice_cmp nat_cmp x text
last_order [] k x text long at = absurd (omega (arith, long))
last_order (y ∷ []) zero x text long at = let same : y ≡ x = cc in ap (λ z. slice_cmp nat_cmp z text) same
last_order (y ∷ []) (suc k) x text long at = absurd (omega (arith, long))
last_order (y ∷ z ∷ ls) zero x text long at = absurd (omega (arith, long))
last_order (y ∷ z ∷ ls) (suc k) x text long at = last_order (z ∷ ls) k x text (omega (arith, long)) at
