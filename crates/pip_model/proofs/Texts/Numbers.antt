-- The decimal text of a number and the hexadecimal text of a word are read as that number.
use Rattle.std.specs.Prelude.{◌≡◌, refl, ℕ, zero, suc, ◌+◌, ◌*◌, ◌/◌, ◌%◌, ◌-◌, ◌<◌, ◌≤◌, ◌^◌, true, List, [], ◌∷◌}
use Rattle.std.specs.Prelude.{length, map, Some, option_and_then, decimal}
use Rattle.std.specs.Str.{all_ascii_digits}
use Rattle.std.proofs.Common.{ap, sym, subst, ◌∙◌, arith, rules, get_or, le_trans}
use Rattle.std.proofs.lemmas.Bool.Decides.{nat_tests}
use Rattle.std.proofs.lemmas.Str.Parse.{IsNumeralModel, numerals_by_fold}
use Rattle.std.proofs.lemmas.Fmt.{digits_decimal, digits_value-decimal, first_decimal, decimal_nonempty, decimal_digit}
use Rattle.pip_model.specs.Grammar.{decimal_from, hex_from, hex_value, number_of}
use Rattle.pip_model.specs.Text.{hex_digit, word_digits}

-- ---- decimal numbers

-- the number that digits make after those that made n
abbrev pub read_on : ℕ → List ℕ → ℕ
read_on n [] = n
read_on n (c ∷ cs) = read_on (10 * n + (c - 48)) cs

pub own : IsNumeralModel (λ ds. all_ascii_digits ds ≡ true) (read_on 0)
own = numerals_by_fold _ (search rules) read_on (search rules)

grows : (n : ℕ) (ds : List ℕ) → n ≤ read_on n ds
grows n [] = omega arith
grows n (d ∷ ds) = le_trans {n = n} {m = 10 * n + (d - 48)} (omega arith) (grows (10 * n + (d - 48)) ds)

reads : (n : ℕ) (ds : List ℕ) → all_ascii_digits ds ≡ true → read_on n ds < 2 ^ 32
    → decimal_from n ds ≡ Some (read_on n ds)
reads n [] a h = refl
reads n (d ∷ ds) a h =
    let g = grows (10 * n + (d - 48)) ds in
    grind (arith, nat_tests, g, h, a, reads (10 * n + (d - 48)) ds)

from_digits : (bs : List ℕ) → 0 < length bs → (48 < get_or bs 0 0) → number_of bs ≡ decimal_from 0 bs
from_digits [] h f = absurd (omega arith)
from_digits (d ∷ []) h f = grind (arith, nat_tests, f)
from_digits (d ∷ e ∷ ds) h f = grind (arith, nat_tests, f)

-- the decimal text of a number is read as it
pub number_decimal : (n : ℕ) → n < 2 ^ 32 → number_of (decimal n) ≡ Some n
number_decimal zero h = rw (decimal_digit 0 (omega arith))
number_decimal (suc m) h =
    let n = suc m in
    let a = digits_decimal own n (omega arith) in
    let v = digits_value-decimal own n (omega arith) in
    from_digits (decimal n) (decimal_nonempty n (omega arith)) (first_decimal n (omega arith) (omega arith))
    ∙ reads 0 (decimal n) a (subst (λ k. k < 2 ^ 32) (sym v) h) ∙ ap Some v

-- ---- hexadecimal words

abbrev AllDigits : List ℕ → Type 0
AllDigits [] = Unit {0}
AllDigits (d ∷ ds) = (d < 16) × AllDigits ds

abbrev value_on : ℕ → List ℕ → ℕ
value_on n [] = n
value_on n (d ∷ ds) = value_on (16 * n + d) ds

digit_again : (d : ℕ) → d < 16 → hex_value (hex_digit d) ≡ Some d
digit_again d h = grind (arith, nat_tests, h)

digits_again : (n : ℕ) (ds : List ℕ) → AllDigits ds → hex_from n (map hex_digit ds) ≡ Some (value_on n ds)
digits_again n [] h = refl
digits_again n (d ∷ ds) h = rw (digit_again d h.0, digits_again (16 * n + d) ds h.1)

-- the eight digits of a word, the highest first
abbrev pub digits_of : ℕ → List ℕ
digits_of w = w / 2 ^ 28 % 16 ∷ w / 2 ^ 24 % 16 ∷ w / 2 ^ 20 % 16 ∷ w / 2 ^ 16 % 16 ∷ w / 2 ^ 12 % 16 ∷ w / 2 ^ 8 % 16
    ∷ w / 2 ^ 4 % 16 ∷ w % 16 ∷ []

digits_small : (w : ℕ) → AllDigits (digits_of w)
digits_small w = (
  omega arith,
  (omega arith, (omega arith, (omega arith, (omega arith, (omega arith, (omega arith, (omega arith, tt))))))),
)

digits_value : (w : ℕ) → w < 2 ^ 32 → value_on 0 (digits_of w) ≡ w
digits_value w h =
    let a : 16 * 0 + w / 2 ^ 28 % 16 ≡ w / 2 ^ 28 = omega arith in
    let b : 16 * (w / 2 ^ 28) + w / 2 ^ 24 % 16 ≡ w / 2 ^ 24 = omega arith in
    let c : 16 * (w / 2 ^ 24) + w / 2 ^ 20 % 16 ≡ w / 2 ^ 20 = omega arith in
    let d : 16 * (w / 2 ^ 20) + w / 2 ^ 16 % 16 ≡ w / 2 ^ 16 = omega arith in
    let e : 16 * (w / 2 ^ 16) + w / 2 ^ 12 % 16 ≡ w / 2 ^ 12 = omega arith in
    let f : 16 * (w / 2 ^ 12) + w / 2 ^ 8 % 16 ≡ w / 2 ^ 8 = omega arith in
    let g : 16 * (w / 2 ^ 8) + w / 2 ^ 4 % 16 ≡ w / 2 ^ 4 = omega arith in
    let k : 16 * (w / 2 ^ 4) + w % 16 ≡ w = omega arith in
    rw (a, b, c, d, e, f, g, k) refl

-- the eight hexadecimal digits of a word are read as it
pub hex_word : (w : ℕ) → w < 2 ^ 32 → hex_from 0 (word_digits w) ≡ Some w
hex_word w h = rw (digits_again 0 (digits_of w) (digits_small w), digits_value w h)
