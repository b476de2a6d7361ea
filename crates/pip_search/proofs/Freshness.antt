-- The words of the visit that was added last.
use Rattle.std.proofs.Common.{◌≡◌, ◌+◌, ◌<◌, ◌≤◌, ◌∙◌, ℕ, List, [], ◌∷◌, inl, inr, ap, sym, Some, slice_get, arith}
use Rattle.std.proofs.Common.{length, length-append}
use Rattle.pip_search.specs.Fresh.{AreFresh}
use Rattle.pip_search.specs.Growing.{Grew}
use Rattle.pip_search.specs.Keys.{Keyed}
use Rattle.pip_search.specs.Packing.{unpacked_key}
use Rattle.pip_search.proofs.Making.{at-same}
use Rattle.pip_search.proofs.Places.{get-new}

-- where there are more visits than before, the last one has the next key
pub fresh_now : (vs ws : List Keyed) (before after : ℕ) (key words : List ℕ) (i c d r fresh : ℕ) → length vs ≡ before
    → length ws ≡ after → unpacked_key key ≡ words → (before < after → fresh ≡ before)
    → (after ≤ before → fresh ≡ 0) → Grew vs ws key i c d r → AreFresh ws fresh words
fresh_now vs ws before after key words i c d r fresh old new back is none (inl keeps) some =
    let same : length ws ≡ length vs = ap length keeps.same in
    let zero_th : fresh ≡ 0 = none (omega arith) in
    absurd (omega arith)
fresh_now vs ws before after key words i c d r fresh old new back is none (inr adds) some =
    let more : length ws ≡ length vs + 1 = ap length adds.whole ∙ length-append vs (adds.visit ∷ []) in
    let last : fresh ≡ before = is (omega arith) in
    let at : fresh ≡ length vs = last ∙ sym old in
    let there : slice_get ws fresh ≡ Some adds.visit = rw (at, adds.whole) (get-new vs adds.visit) in
    (omega arith, λ v e. rw (at-same ws fresh v adds.visit e there, adds.key_is, back))
