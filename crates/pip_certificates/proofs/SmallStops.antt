-- Keys that the program holds have words below 2^32.
use Rattle.std.proofs.Common.{◌≡◌, ℕ, zero, suc, ◌^◌, ◌<◌, Bool, true, false, List, [], ◌∷◌, get_or}
use Rattle.std.proofs.Common.{Some, slice_get, arith, if◌then◌else◌, nat_lt}
use Rattle.pip_certificates.specs.MergeLaw.{IsSmallStop}
use Rattle.pip_certificates.specs.declared.parts.lines.PartNumbers.{PartNumbers}
use Rattle.pip_search.specs.Certificates.{Stop}
use Rattle.pip_search.specs.Packing.{unpacked_after, word_with}
use Rattle.pip_search.specs.Parts.{stop_of, stops}
use Rattle.pip_search.specs.declared.stops.Reached.{Reached}
use Rattle.pip_search.proofs.Picking.{at_map}

-- the numbers of a part
abbrev pub numbers : ℕ → ℕ → ℕ → ℕ → ℕ → PartNumbers
numbers w k a l s = record { way = w; keys = k; asked = a; labels = l; sum = s }

small_with : (w b : ℕ) → word_with w b < 2 ^ 32
unfolding word_with
small_with w b = omega arith

small_words : (bs : List ℕ) (w i : ℕ) → get_or (unpacked_after w bs) i 0 < 2 ^ 32
unfolding unpacked_after
small_words [] w i = omega arith
small_words (b ∷ bs) w i = by_test (nat_lt b 128) (λ v k. small_words bs v k) i
  where
    by_test : (t : Bool) → ((v k : ℕ) → get_or (unpacked_after v bs) k 0 < 2 ^ 32) → (i : ℕ)
        → get_or (if t then word_with w b ∷ unpacked_after 0 bs else unpacked_after (word_with w b) bs) i 0 < 2 ^ 32
    by_test true rest zero = small_with w b
    by_test true rest (suc i) = rest 0 i
    by_test false rest i = rest (word_with w b) i

pub small_stops : (keys : List Reached) (j : ℕ) (x : Stop) → slice_get (stops keys) j ≡ Some x → IsSmallStop x
small_stops keys j x at =
    let r = at_map stop_of keys j x at in
    rw (← r.1.1) (record { words = λ i. small_words r.0.key.items 0 i; depth = r.0.low })

pub same_numbers : (w k a l s : ℕ) {x y z u : ℕ} → k ≡ x → a ≡ y → l ≡ z → s ≡ u
    → numbers w k a l s ≡ numbers w x y z u
same_numbers w k a l s keys asked labels sum = cc
