-- Numbers of a few hexadecimal digits, read by a table.
use Rattle.std.proofs.Common.{◌≡◌, ℕ, zero, suc, ◌+◌, ◌*◌, ◌<◌, ◌≤◌, ◌^◌, List, [], ◌∷◌, get_or, refl, sym, ap, ◌∙◌}
use Rattle.std.proofs.Common.{Option, Some, None, true, false, cond, inl, inr, ◌⊎◌, subst, lit<, arith}
use Rattle.std.specs.Prelude.{nat_lt, option_and_then}
use Rattle.std.proofs.lemmas.Bool.Decides.{nat_tests}
use Rattle.std.proofs.lemmas.Bool.{cases_lt}
use Rattle.std.proofs.Math.Nat.{pow-le-pow_right, pow-succ'}
use Rattle.pip_model.specs.Grammar.{hex_from, hex_value}
use Rattle.pip_audit.specs.Lines.{digit_value, value_or_more}

-- ---- the table

abbrev values_from : ℕ → ℕ → List ℕ
values_from zero b = []
values_from (suc n) b = digit_value b ∷ values_from n (suc b)

values_at : (n b k : ℕ) → k < n → get_or (values_from n b) k 0 ≡ digit_value (b + k)
values_at zero b k h = absurd (omega (arith, h))
values_at (suc n) b zero h = let e : b ≡ b + 0 = omega arith in ap digit_value e
values_at (suc n) b (suc k) h = let e : suc b + k ≡ b + suc k = omega arith in
    values_at n (suc b) k (omega (arith, h)) ∙ ap digit_value e

-- a table of all bytes has the value of each
pub table_at : (xs : List ℕ) (b : ℕ) → xs ≡ values_from 256 0 → b < 256 → get_or xs b 0 ≡ digit_value b
table_at xs b e h = let at : 0 + b ≡ b = omega arith in
    ap (λ ys. get_or ys b 0) e ∙ values_at 256 0 b h ∙ ap digit_value at

-- ---- reading on

-- digits that go on from a number, if it is that of a word
abbrev pub told_on : ℕ → List ℕ → Option ℕ
told_on n ds = cond (nat_lt n (2 ^ 32)) (hex_from n ds) None

told_below : (n : ℕ) (ds : List ℕ) → n < 2 ^ 32 → told_on n ds ≡ hex_from n ds
told_below n ds h = let e : nat_lt n (2 ^ 32) ≡ true = grind (arith, nat_tests, h) in
    ap (λ b. cond b (hex_from n ds) None) e

told_above : (n : ℕ) (ds : List ℕ) → 2 ^ 32 ≤ n → told_on n ds ≡ None
told_above n ds h = let e : nat_lt n (2 ^ 32) ≡ false = grind (arith, nat_tests, h) in
    ap (λ b. cond b (hex_from n ds) None) e

digit_small : (d v : ℕ) → hex_value d ≡ Some v → v < 16
digit_small d v h = grind (arith, nat_tests, h)

-- a digit more
pub told_more : (n d : ℕ) (ds : List ℕ) → (n < 2 ^ 32 → n < 2 ^ 28)
    → told_on n (d ∷ ds) ≡ told_on (16 * n + digit_value d) ds
told_more n d ds few = elim (cases_lt n (2 ^ 32)) [
  | inl h ↦ told_below n (d ∷ ds) h ∙ go (few h) (hex_value d) refl
  | inr h ↦ told_above n (d ∷ ds) h ∙ sym (told_above (16 * n + digit_value d) ds (omega (arith, h)))
]
  where
    go : n < 2 ^ 28 → (o : Option ℕ) → hex_value d ≡ o → hex_from n (d ∷ ds) ≡ told_on (16 * n + digit_value d) ds
    go h (Some v) e =
        let small = digit_small d v e in
        ap (option_and_then (λ x. hex_from (16 * n + x) ds)) e
        ∙ sym (told_below (16 * n + v) ds (omega (arith, h, small)))
        ∙ ap (λ x. told_on (16 * n + value_or_more x) ds) (sym e)
    go h None e =
        ap (option_and_then (λ x. hex_from (16 * n + x) ds)) e
        ∙ sym (told_above (16 * n + 2 ^ 32) ds (omega arith))
        ∙ ap (λ x. told_on (16 * n + value_or_more x) ds) (sym e)

-- what stands for a byte
value_cases : (d : ℕ) → (digit_value d < 16) ⊎ (digit_value d ≡ 2 ^ 32)
value_cases d = go (hex_value d) refl
  where
    go : (o : Option ℕ) → hex_value d ≡ o → (digit_value d < 16) ⊎ (digit_value d ≡ 2 ^ 32)
    go (Some v) e = inl (subst (λ o. value_or_more o < 16) (sym e) (digit_small d v e))
    go None e = inr (ap value_or_more e)

pub value_most : (d : ℕ) → digit_value d ≤ 2 ^ 32
value_most d = elim (value_cases d) [
  | inl h ↦ omega (arith, h)
  | inr e ↦ omega (arith, e)
]

times_16 : (k : ℕ) → 16 ^ (k + 1) ≡ 16 * 16 ^ k
times_16 k = let e : k + 1 ≡ suc k = omega arith in ap (λ n. 16 ^ n) e ∙ pow-succ' 16 k

-- a word stays below its power of 16 with a digit more
pub small_more : (n d k : ℕ) → (n < 2 ^ 32 → n < 16 ^ k) → 16 * n + digit_value d < 2 ^ 32
    → 16 * n + digit_value d < 16 ^ (k + 1)
small_more n d k few h = elim (value_cases d) [
  | inl v ↦ let b = few (omega (arith, h)) in let p = times_16 k in omega (arith, v, b, p)
  | inr e ↦ absurd (omega (arith, h, e))
]

pub room_more : (n v k : ℕ) → v ≤ 2 ^ 32 → n + 2 ^ 29 ≤ 2 ^ 29 * 16 ^ k → 16 * n + v + 2 ^ 29 ≤ 2 ^ 29 * 16 ^ (k + 1)
room_more n v k most h = let p = times_16 k in omega (arith, most, h, p)

-- seven digits or fewer
pub below_28 : (i v : ℕ) → i < 8 → v < 16 ^ i → v < 2 ^ 28
below_28 i v few h = let p = pow-le-pow_right {n = 16} (lit< tt) {i = i} {j = 7} (omega arith) in omega arith

pub room_57 : (i v : ℕ) → i < 8 → v + 2 ^ 29 ≤ 2 ^ 29 * 16 ^ i → v < 2 ^ 57
room_57 i v few h = let p = pow-le-pow_right {n = 16} (lit< tt) {i = i} {j = 7} (omega arith) in omega (arith, p, h)
