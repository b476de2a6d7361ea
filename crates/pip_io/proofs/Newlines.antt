-- Where the first newline stands: the marks of 32 bytes, and a search that goes on.
use Rattle.std.specs.Prelude.{◌≡◌, ◌≢◌, ℕ, ◌+◌, ◌-◌, ◌^◌, ◌<◌, ◌≤◌, ◌==◌, nat_le, Bool, true, false, List, length, map}
use Rattle.std.specs.Prelude.{take, drop, Option, Some, None, slice_index, option_map, refl}
use Rattle.std.proofs.Common.{cond, sym, ap, subst, ◌∙◌, arith, w64}
use Rattle.std.specs.Int.{bit_at, trailing_zeros}
use Rattle.std.specs.Simd.Lanes.{mask_l}
use Rattle.std.proofs.Math.ListN.{get_or-map}
use Rattle.std.proofs.lemmas.Nat.Bits.{bit_at-trailing_zeros, bit_at-zero}
use Rattle.std.proofs.lemmas.Simd.{bit_mask_l}
use Rattle.std.proofs.lemmas.Bool.{leb-false, leb-true}
use Rattle.std.proofs.lemmas.List.{get_or_past, take_rest, get_or-drop, get_or-take, length-drop, length-take-le}
use Rattle.pip_io.specs.Newlines.{IsFirstNewline}

-- none of the first n bytes is a newline
abbrev pub NoneIn : ℕ → List ℕ → Type 0
NoneIn n xs = (k : ℕ) → k < n → (slice_index xs k == 10) ≡ true → ⊥

-- ---- a search from s on, before which there is none

module _ (s : ℕ) (xs : List ℕ) (front : NoneIn s xs) where
  pub none_both : (n : ℕ) → NoneIn n (drop s xs) → NoneIn (s + n) xs
  none_both n more k below e = elim (nat_le s k) as (λ b. nat_le s k ≡ b → ⊥) [
    | false ↦ λ t. front k (leb-false s k t) e
    | true ↦ λ t. let from = leb-true s k t in
        let place : k ≡ s + (k - s) = omega arith in
        more (k - s) (omega (
          arith,
          below,
          from,
        )) (rw (get_or-drop s xs (k - s) 0, ← place) e)
  ] refl

  pub first_beyond : (r : Option ℕ) → IsFirstNewline (take (length xs - s) (drop s xs)) r
      → IsFirstNewline xs (option_map (λ n. s + n) r)
  first_beyond r h = go r (rw (← take_rest xs s) h)
    where
      size : length (drop s xs) ≡ length xs - s
      size = length-drop s xs

      go : (r : Option ℕ) → IsFirstNewline (drop s xs) r → IsFirstNewline xs (option_map (λ n. s + n) r)
      go None h =
          λ k low high. none_both (length (drop s xs)) (λ n l. h n (omega arith) l) k (omega (arith, size, high))
      go (Some n) h = (
        record {
          low = omega arith;
          high = let l = h.0.high in omega (arith, l, size);
          before = λ k low high. none_both n (λ m l. h.0.before m (omega arith) l) k high;
        },
        rw (← get_or-drop s xs n 0) h.1,
      )

-- ---- the marks of the newlines among the first 32 bytes

marks_one : (b : Bool) → cond {A = ℕ} b 1 0 ≡ 1 → b ≡ true
marks_one true e = refl
marks_one false e = absurd (omega arith)

marks_zero : (b : Bool) → cond {A = ℕ} b 1 0 ≡ 0 → b ≡ true → ⊥
marks_zero true e h = absurd (omega arith)
marks_zero false e h = cc

module _ (xs : List ℕ) (long : 32 ≤ length xs) where
  abbrev near : List ℕ
  near = take 32 xs

  bit_is : (k : ℕ) → bit_at (mask_l (map (λ b. b == 10) near)) k ≡ cond {A = ℕ} (slice_index near k == 10) 1 0
  bit_is k = rw (bit_mask_l (map (λ b. b == 10) near) k, get_or-map (λ b. b == 10) near k 0)

  inside_near : (k : ℕ) → (slice_index near k == 10) ≡ true → k < 32
  inside_near k e = elim (nat_le 32 k) as (λ b. nat_le 32 k ≡ b → k < 32) [
    | false ↦ λ t. omega (arith, leb-false 32 k t)
    | true ↦ λ t. let beyond = leb-true 32 k t in
        let none = get_or_past near k 0 (omega (arith, length-take-le 32 xs long)) in
        absurd (false_not (rw none at e))
  ] refl
    where
      false_not : false ≡ true → ⊥
      false_not e = cc

  module _ (m : ℕ) (is : m ≡ mask_l (map (λ b. b == 10) near)) where
    -- where a bit is 0, no newline stands
    unmarked : (k : ℕ) → k < 32 → bit_at m k ≡ 0 → (slice_index xs k == 10) ≡ true → ⊥
    unmarked k low bit h = marks_zero _ (sym (ap (λ n. bit_at n k) is ∙ bit_is k)
        ∙ bit) (rw (get_or-take 32 xs k 0 low) h)

    -- there is none
    pub none_near : m ≡ 0 → NoneIn 32 xs
    none_near none k low = unmarked k low (rw (none, bit_at-zero k))

    -- the lowest of them, where there is one
    pub found_near : m ≢ 0 → m < 2 ^ 64 → IsFirstNewline xs (Some (trailing_zeros w64 m))
    found_near some fits =
        let low = bit_at-trailing_zeros w64 m (omega arith) fits in
        let at = trailing_zeros w64 m in
        let here = marks_one _ (rw (← bit_is at, ← is, low.1)) in
        let in32 = inside_near at here in (
          record {
            low = omega arith;
            high = omega arith;
            before = λ k from to. unmarked k (omega arith) (low.2 k to);
          },
          rw (← get_or-take 32 xs at 0 in32) here,
        )
