-- The text of a word.
use Rattle.std.specs.Prelude.{ℕ, suc, if◌then◌else◌, ℤ, pos, negsuc, List, [], ◌∷◌, ◌++◌, Option, Some, None, codes}
use Rattle.std.specs.Prelude.{decimal, slice_index_or}
use Rattle.pip_model.specs.declared.form.Form.{Form}
use Rattle.pip_model.specs.declared.form.Form.TheVariants as F
use Rattle.pip_model.specs.InstrWords.{Opcode, opcode_at, opcode_of, is_instruction, reg_a, reg_b, reg_c, immediate}
use Rattle.pip_model.specs.InstrWords.{signed_immediate}
use Rattle.pip_model.specs.Text.{word_text}

-- the registers by their numbers
abbrev pub registers : List (List ℕ)
registers = codes "r0" ∷ codes "r1" ∷ codes "r2" ∷ codes "r3" ∷ codes "r4" ∷ codes "r5" ∷ codes "r6" ∷ codes "r7"
    ∷ codes "r8" ∷ codes "r9" ∷ codes "r10" ∷ codes "r11" ∷ codes "r12" ∷ codes "r13" ∷ codes "r14" ∷ codes "r15" ∷ []

-- the name of a register
abbrev pub reg_text : ℕ → List ℕ
reg_text a = slice_index_or registers a []

-- a signed number in decimal digits, with a minus in front of a negative one
abbrev pub signed_text : ℤ → List ℕ
signed_text (pos n) = decimal n
signed_text (negsuc n) = 45 ∷ decimal (suc n)

-- a register, a space, and more
abbrev pub before : ℕ → List ℕ → List ℕ
before a rest = reg_text a ++ 32 ∷ rest

-- the operands of a word, by its form
abbrev pub operands_text : Form → ℕ → List ℕ
operands_text F.Two w = before (reg_a w) (reg_text (reg_b w))
operands_text F.Three w = before (reg_a w) (before (reg_b w) (reg_text (reg_c w)))
operands_text F.TwoAndValue w = before (reg_a w) (before (reg_b w) (decimal (immediate w)))
operands_text F.TwoAndShift w = before (reg_a w) (before (reg_b w) (decimal (immediate w)))
operands_text F.TwoAndOffset w = before (reg_a w) (before (reg_b w) (signed_text (signed_immediate w)))
operands_text F.OneAndValue w = before (reg_a w) (decimal (immediate w))
operands_text F.OneAndOffset w = before (reg_a w) (signed_text (signed_immediate w))
operands_text F.One w = reg_text (reg_a w)
operands_text F.Value w = decimal (immediate w)
operands_text F.Vector w = decimal (immediate w)

-- a mnemonic and its operands
abbrev pub mnemonic_text : ℕ → Option Opcode → List ℕ
mnemonic_text w None = []
mnemonic_text w (Some o) = o.name ++ 32 ∷ operands_text o.form w

-- the text of the instruction that a word is: its mnemonic and its operands
abbrev pub instr_text : ℕ → List ℕ
instr_text w = mnemonic_text w (opcode_at (opcode_of w))

-- the line of a word of a page: the instruction that it is, else the word
abbrev pub word_said : ℕ → List ℕ
word_said w = if is_instruction w then instr_text w else codes ".word " ++ word_text w
