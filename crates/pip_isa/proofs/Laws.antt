-- The word of each instruction is read as that instruction.
use Rattle.std.specs.Prelude.{◌≡◌, refl, ℕ, ◌+◌, ◌-◌, ◌/◌, ◌%◌, ◌^◌, ◌<◌, ◌≤◌, false, cond, ℤ, pos, negsuc, length}
use Rattle.std.specs.Prelude.{Option, Some, None}
use Rattle.std.proofs.lemmas.Option.{slice_get_past}
use Rattle.std.proofs.Common.{ap, ◌∙◌, arith}
use Rattle.std.proofs.lemmas.Bool.Decides.{nat_tests}
use Rattle.pip_model.specs.InstrWords.{Opcode, opcodes, opcode_at, opcode_of, instruction_word, low16, signed16}
use Rattle.pip_model.specs.InstrWords.{fits_row, is_instruction}
use Rattle.pip_model.specs.InstrRead.{read_row, instr_of, IsInstr, IsSigned16}
use Rattle.pip_model.specs.declared.instr.Instr.{Instr}
use Rattle.pip_model.specs.declared.instr.Instr.TheVariants as I

-- ---- signed immediates

low16-small : (z : ℤ) → IsSigned16 z → low16 z < 65536
low16-small (pos n) h = omega arith
low16-small (negsuc n) h = omega arith

signed16-low16 : (z : ℤ) → IsSigned16 z → signed16 (low16 z) ≡ z
signed16-low16 (pos n) h = grind (arith, nat_tests, h)
signed16-low16 (negsuc n) h = grind (arith, nat_tests, h)

-- ---- each instruction is read by its row

-- the part of a word that its opcode makes
record HasTop (w : ℕ) : Type 0 where
  top : ℕ
  whole : top % 2 ^ 24 ≡ 0

abbrev top_1 : (n a : ℕ) → n % 2 ^ 24 ≡ 0 → HasTop (n + a)
top_1 n a e = record { top = n; whole = e }

abbrev top_2 : (n a b : ℕ) → n % 2 ^ 24 ≡ 0 → HasTop (n + a + b)
top_2 n a b e = record { top = n; whole = e }

abbrev top_3 : (n a b c : ℕ) → n % 2 ^ 24 ≡ 0 → HasTop (n + a + b + c)
top_3 n a b c e = record { top = n; whole = e }

abbrev top_4 : (n a b c d : ℕ) → n % 2 ^ 24 ≡ 0 → HasTop (n + a + b + c + d)
top_4 n a b c d e = record { top = n; whole = e }

ruleset tops = (top_1, top_2, top_3, top_4)

by_top : (w : ℕ) (t : HasTop w) (i : Instr) → t.top ≤ w → w < t.top + 2 ^ 24
    → read_row w (opcode_at (t.top / 2 ^ 24)) ≡ Some i → instr_of w ≡ Some i
by_top w t i least most e =
    let m = t.whole in
    let s : opcode_of w ≡ t.top / 2 ^ 24 = omega (arith, least, most, m) in
    ap (λ k. read_row w (opcode_at k)) s ∙ e

-- the second clause is checked for each of the other instructions
pub words_read : (i : Instr) → IsInstr i → instr_of (instruction_word i) ≡ Some i
words_read (I.Mov a b) h = by_top (instruction_word (I.Mov a b)) (search tops) (I.Mov a b) (omega arith)
    (grind (arith, h, low16-small)) (grind (arith, nat_tests, h, low16-small, signed16-low16))
words_read i h = by_top (instruction_word i) (search tops) i (omega arith)
    (grind (arith, h, low16-small)) (grind (arith, nat_tests, h, low16-small, signed16-low16))

-- ---- words that are none

pub no_row : (op : ℕ) → (op < 1 → ⊥) → (op ≤ length opcodes → ⊥) → opcode_at op ≡ None
no_row op a b = grind (arith, nat_tests, a, b, slice_get_past opcodes (op - 1))

none_by : (w : ℕ) (o : Option Opcode) → fits_row w o ≡ false → read_row w o ≡ None
none_by w None e = refl
none_by w (Some o) e = ap (λ b. cond b (Some (o.reads w)) None) e

pub read_none : (w : ℕ) → is_instruction w ≡ false → instr_of w ≡ None
read_none w e = none_by w (opcode_at (opcode_of w)) e
