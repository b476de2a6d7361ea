-- A test that each row of the table passes holds of every opcode; and the fields of a word that fits a form.
use Rattle.std.specs.Prelude.{◌≡◌, refl, ℕ, zero, suc, ◌+◌, ◌-◌, ◌/◌, ◌%◌, ◌<◌, ◌≤◌, ◌==◌, ◌&&◌, nat_lt, nat_le, Bool}
use Rattle.std.specs.Prelude.{true, false, cond, pos, negsuc, List, [], ◌∷◌, length, Some, None, slice_get}
use Rattle.std.proofs.Common.{ap, subst, ◌∙◌, arith}
use Rattle.std.proofs.lemmas.Bool.Decides.{nat_tests}
use Rattle.pip_model.specs.InstrWords.{Opcode, opcodes, opcode_at, opcode_of, word_from, low16, signed16, fits, reg_a}
use Rattle.pip_model.specs.InstrWords.{reg_b, reg_c, immediate, signed_immediate}
use Rattle.pip_model.specs.InstrRead.{IsSigned16}
use Rattle.pip_model.specs.declared.form.Form.TheVariants as F

-- a test of each of the rows, of which the first has the opcode k
abbrev pub all_rows : (ℕ → Opcode → Bool) → ℕ → List Opcode → Bool
all_rows t k [] = true
all_rows t k (o ∷ os) = t k o && all_rows t (k + 1) os

row_within : (t : ℕ → Opcode → Bool) (k i : ℕ) (os : List Opcode) (o : Opcode) → all_rows t k os ≡ true
    → slice_get os i ≡ Some o → t (k + i) o ≡ true
row_within t k i [] o all e = absurd (grind (arith, e))
row_within t k zero (p ∷ os) o all e = let s : p ≡ o = grind (arith, e) in let n : k ≡ k + 0 = omega arith in
    subst (λ q. t (k + 0) q ≡ true) s (subst (λ j. t j p ≡ true) n (grind (arith, all)))
row_within t k (suc i) (p ∷ os) o all e = let n : k + 1 + i ≡ k + suc i = omega arith in
    subst (λ j. t j o ≡ true) n (row_within t (k + 1) i os o (grind (arith, all)) e)

by_zero : (t : ℕ → Opcode → Bool) (op : ℕ) (o : Opcode) (b : Bool) → op == 0 ≡ b → all_rows t 1 opcodes ≡ true
    → cond b None (slice_get opcodes (op - 1)) ≡ Some o → t op o ≡ true
by_zero t op o true z all e = absurd (grind (arith, e))
by_zero t op o false z all e = let n : 1 + (op - 1) ≡ op = grind (arith, nat_tests, z) in
    subst (λ j. t j o ≡ true) n (row_within t 1 (op - 1) opcodes o all e)

-- a test that the whole table passes, which refl computes
pub row_passes : (t : ℕ → Opcode → Bool) (op : ℕ) (o : Opcode) → all_rows t 1 opcodes ≡ true → opcode_at op ≡ Some o
    → t op o ≡ true
row_passes t op o all e = by_zero t op o (op == 0) refl all e

-- ---- a word that fits a form is made of its fields

low16-signed16 : (n : ℕ) → n < 65536 → low16 (signed16 n) ≡ n
low16-signed16 n h = grind (arith, nat_tests, h)

is_zero : (n : ℕ) → n == 0 ≡ true → n ≡ 0
is_zero n e = grind (arith, nat_tests, e)

both : (a b c : Bool) → (a && b && c) ≡ true → a ≡ true
both a b c e = grind (arith, e)

pub back_two : (op w : ℕ) → opcode_of w ≡ op → fits w F.Two ≡ true → word_from op (reg_a w) (reg_b w) 0 0 ≡ w
back_two op w e f = let g : _ = is_zero _ f in omega (arith, e, g)

pub back_three : (op w : ℕ) → opcode_of w ≡ op → fits w F.Three ≡ true
    → word_from op (reg_a w) (reg_b w) (reg_c w) 0 ≡ w
back_three op w e f = let g : _ = is_zero _ f in omega (arith, e, g)

whole : (op w : ℕ) → opcode_of w ≡ op → word_from op (reg_a w) (reg_b w) 0 (immediate w) ≡ w
whole op w e = omega arith

pub back_two_and_value : (op w : ℕ) → opcode_of w ≡ op → fits w F.TwoAndValue ≡ true
    → word_from op (reg_a w) (reg_b w) 0 (immediate w) ≡ w
back_two_and_value op w e f = whole op w e

pub back_two_and_shift : (op w : ℕ) → opcode_of w ≡ op → fits w F.TwoAndShift ≡ true
    → word_from op (reg_a w) (reg_b w) 0 (immediate w) ≡ w
back_two_and_shift op w e f = whole op w e

pub back_two_and_offset : (op w : ℕ) → opcode_of w ≡ op → fits w F.TwoAndOffset ≡ true
    → word_from op (reg_a w) (reg_b w) 0 (low16 (signed_immediate w)) ≡ w
back_two_and_offset op w e f =
    ap (word_from op (reg_a w) (reg_b w) 0) (low16-signed16 (immediate w) (omega arith)) ∙ whole op w e

pub back_one_and_value : (op w : ℕ) → opcode_of w ≡ op → fits w F.OneAndValue ≡ true
    → word_from op (reg_a w) 0 0 (immediate w) ≡ w
back_one_and_value op w e f = let g : _ = is_zero _ f in omega (arith, e, g)

pub back_one_and_offset : (op w : ℕ) → opcode_of w ≡ op → fits w F.OneAndOffset ≡ true
    → word_from op (reg_a w) 0 0 (low16 (signed_immediate w)) ≡ w
back_one_and_offset op w e f =
    ap (word_from op (reg_a w) 0 0) (low16-signed16 (immediate w) (omega arith)) ∙ back_one_and_value op w e f

pub back_one : (op w : ℕ) → opcode_of w ≡ op → fits w F.One ≡ true → word_from op (reg_a w) 0 0 0 ≡ w
back_one op w e f = let g : _ = is_zero _ f in omega (arith, e, g)

pub back_value : (op w : ℕ) → opcode_of w ≡ op → fits w F.Value ≡ true → word_from op 0 0 0 (immediate w) ≡ w
back_value op w e f = let g : _ = is_zero _ f in omega (arith, e, g)

pub back_vector : (op w : ℕ) → opcode_of w ≡ op → fits w F.Vector ≡ true → word_from op 0 0 0 (immediate w) ≡ w
back_vector op w e f =
    back_value op w e (both (w / 65536 % 256 == 0) (nat_le 64 (w % 65536)) (nat_lt (w % 65536) 256) f)

-- ---- the fields are in their ranges

pub ra : (w : ℕ) → reg_a w < 16
ra w = omega arith

pub rb : (w : ℕ) → reg_b w < 16
rb w = omega arith

pub rc : (w : ℕ) → reg_c w < 16
rc w = omega arith

pub half : (w : ℕ) → immediate w < 65536
half w = omega arith

short_by : (n : ℕ) (b : Bool) → n < 65536 → nat_lt n 32768 ≡ b → IsSigned16 (cond b (pos n) (negsuc (65535 - n)))
short_by n true h e = grind (arith, nat_tests, e)
short_by n false h e = let l : 32768 ≤ n = grind (arith, nat_tests, e) in omega (arith, l)

pub short : (w : ℕ) → IsSigned16 (signed_immediate w)
short w = short_by (immediate w) (nat_lt (immediate w) 32768) (half w) refl

shift : (n : ℕ) → nat_lt n 32 ≡ true → n < 32
shift n e = grind (arith, nat_tests, e)

vector : (b : Bool) (n : ℕ) → (b && nat_le 64 n && nat_lt n 256) ≡ true → (64 ≤ n) × (n < 256)
vector b n e = (grind (arith, nat_tests, e), grind (arith, nat_tests, e))

pub shift_fits : (w : ℕ) → fits w F.TwoAndShift ≡ true → immediate w < 32
shift_fits w f = shift (immediate w) f

pub vector_fits : (w : ℕ) → fits w F.Vector ≡ true → (64 ≤ immediate w) × (immediate w < 256)
vector_fits w f = vector _ (immediate w) f

-- ---- mnemonics are short

is_short : (n : ℕ) → nat_le n 4 ≡ true → n ≤ 4
is_short n e = grind (arith, nat_tests, e)

pub short_name : (op : ℕ) (o : Opcode) → opcode_at op ≡ Some o → length o.name ≤ 4
short_name op o e = is_short (length o.name) (row_passes (λ k p. nat_le (length p.name) 4) op o refl e)
