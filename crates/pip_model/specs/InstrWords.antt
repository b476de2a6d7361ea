-- Instruction words: the table of opcodes, the word of each instruction, and which words are one.
use Rattle.std.specs.Prelude.{ℕ, ◌+◌, ◌-◌, ◌*◌, ◌/◌, ◌%◌, ◌^◌, ◌==◌, ◌&&◌, nat_lt, nat_le, Bool, false, true}
use Rattle.std.specs.Prelude.{if◌then◌else◌, cond, ℤ, pos, negsuc, List, [], ◌∷◌, Option, Some, None, codes, slice_get}
use Rattle.pip_model.specs.declared.form.Form.{Form}
use Rattle.pip_model.specs.declared.form.Form.TheVariants as F
use Rattle.pip_model.specs.declared.instr.Instr.{Instr}
use Rattle.pip_model.specs.declared.instr.Instr.TheVariants as I

-- ---- the fields of a word: the opcode in bits 31 to 24, register a in 23 to 20, b in 19 to 16, c in 15 to 12, and an
-- immediate in 15 to 0

-- the opcode of a word: its top eight bits
abbrev pub opcode_of : ℕ → ℕ
opcode_of w = w / 2 ^ 24

-- the register in a word's first field
abbrev pub reg_a : ℕ → ℕ
reg_a w = w / 2 ^ 20 % 16

-- the register in a word's second field
abbrev pub reg_b : ℕ → ℕ
reg_b w = w / 2 ^ 16 % 16

-- the register in a word's third field
abbrev pub reg_c : ℕ → ℕ
reg_c w = w / 2 ^ 12 % 16

-- the immediate of a word: its low 16 bits
abbrev pub immediate : ℕ → ℕ
immediate w = w % 65536

-- 16 bits as a signed number
abbrev pub signed16 : ℕ → ℤ
signed16 n = cond (nat_lt n 32768) (pos n) (negsuc (65535 - n))

-- the immediate as a signed number
abbrev pub signed_immediate : ℕ → ℤ
signed_immediate w = signed16 (immediate w)

-- the low 16 bits of a signed number
abbrev pub low16 : ℤ → ℕ
low16 (pos n) = n
low16 (negsuc n) = 65535 - n

-- a word from its opcode, its registers and its immediate
abbrev pub word_from : ℕ → ℕ → ℕ → ℕ → ℕ → ℕ
word_from op a b c i = op * 2 ^ 24 + a * 2 ^ 20 + b * 2 ^ 16 + c * 2 ^ 12 + i

-- ---- the table

-- an opcode: its mnemonic, its form, and the instruction that a word of this opcode and form is
pub record Opcode : Type 0 where
  pub name : List ℕ
  pub form : Form
  pub reads : ℕ → Instr

abbrev row : List ℕ → Form → (ℕ → Instr) → Opcode
row name form reads = record { name = name; form = form; reads = reads }

-- the opcodes from 1 on
abbrev pub opcodes : List Opcode
opcodes =
    row (codes "mov") F.Two (λ w. I.Mov (reg_a w) (reg_b w))
    ∷ row (codes "li") F.OneAndValue (λ w. I.Li (reg_a w) (immediate w))
    ∷ row (codes "lih") F.OneAndValue (λ w. I.LiHigh (reg_a w) (immediate w))
    ∷ row (codes "add") F.Three (λ w. I.Add (reg_a w) (reg_b w) (reg_c w))
    ∷ row (codes "sub") F.Three (λ w. I.Sub (reg_a w) (reg_b w) (reg_c w))
    ∷ row (codes "mul") F.Three (λ w. I.Mul (reg_a w) (reg_b w) (reg_c w))
    ∷ row (codes "div") F.Three (λ w. I.Div (reg_a w) (reg_b w) (reg_c w))
    ∷ row (codes "rem") F.Three (λ w. I.Rem (reg_a w) (reg_b w) (reg_c w))
    ∷ row (codes "and") F.Three (λ w. I.And (reg_a w) (reg_b w) (reg_c w))
    ∷ row (codes "or") F.Three (λ w. I.Or (reg_a w) (reg_b w) (reg_c w))
    ∷ row (codes "xor") F.Three (λ w. I.Xor (reg_a w) (reg_b w) (reg_c w))
    ∷ row (codes "shl") F.Three (λ w. I.ShiftLeft (reg_a w) (reg_b w) (reg_c w))
    ∷ row (codes "shr") F.Three (λ w. I.ShiftRight (reg_a w) (reg_b w) (reg_c w))
    ∷ row (codes "sar") F.Three (λ w. I.ShiftSigned (reg_a w) (reg_b w) (reg_c w))
    ∷ row (codes "slt") F.Three (λ w. I.LessSigned (reg_a w) (reg_b w) (reg_c w))
    ∷ row (codes "sltu") F.Three (λ w. I.Less (reg_a w) (reg_b w) (reg_c w))
    ∷ row (codes "addi") F.TwoAndOffset (λ w. I.AddImmediate (reg_a w) (reg_b w) (signed_immediate w))
    ∷ row (codes "andi") F.TwoAndValue (λ w. I.AndImmediate (reg_a w) (reg_b w) (immediate w))
    ∷ row (codes "ori") F.TwoAndValue (λ w. I.OrImmediate (reg_a w) (reg_b w) (immediate w))
    ∷ row (codes "shli") F.TwoAndShift (λ w. I.ShiftLeftImmediate (reg_a w) (reg_b w) (immediate w))
    ∷ row (codes "shri") F.TwoAndShift (λ w. I.ShiftRightImmediate (reg_a w) (reg_b w) (immediate w))
    ∷ row (codes "ldw") F.TwoAndOffset (λ w. I.LoadWord (reg_a w) (reg_b w) (signed_immediate w))
    ∷ row (codes "stw") F.TwoAndOffset (λ w. I.StoreWord (reg_a w) (reg_b w) (signed_immediate w))
    ∷ row (codes "ldb") F.TwoAndOffset (λ w. I.LoadByte (reg_a w) (reg_b w) (signed_immediate w))
    ∷ row (codes "stb") F.TwoAndOffset (λ w. I.StoreByte (reg_a w) (reg_b w) (signed_immediate w))
    ∷ row (codes "beq") F.TwoAndOffset (λ w. I.BranchEqual (reg_a w) (reg_b w) (signed_immediate w))
    ∷ row (codes "bne") F.TwoAndOffset (λ w. I.BranchUnequal (reg_a w) (reg_b w) (signed_immediate w))
    ∷ row (codes "blt") F.TwoAndOffset (λ w. I.BranchLessSigned (reg_a w) (reg_b w) (signed_immediate w))
    ∷ row (codes "bltu") F.TwoAndOffset (λ w. I.BranchLess (reg_a w) (reg_b w) (signed_immediate w))
    ∷ row (codes "jal") F.OneAndOffset (λ w. I.JumpAndLink (reg_a w) (signed_immediate w))
    ∷ row (codes "jr") F.One (λ w. I.Jump (reg_a w))
    ∷ row (codes "sys") F.Value (λ w. I.Sys (immediate w))
    ∷ row (codes "int") F.Vector (λ w. I.Interrupt (immediate w))
    ∷ row (codes "out") F.One (λ w. I.Out (reg_a w))
    ∷ []

-- the row of an opcode in the table
abbrev pub opcode_at : ℕ → Option Opcode
opcode_at op = if op == 0 then None else slice_get opcodes (op - 1)

-- ---- which words are instructions

-- the unused fields are 0, and the immediate is in its range
abbrev pub fits : ℕ → Form → Bool
fits w F.Two = w % 65536 == 0
fits w F.Three = w % 4096 == 0
fits w F.TwoAndValue = true
fits w F.TwoAndShift = nat_lt (w % 65536) 32
fits w F.TwoAndOffset = true
fits w F.OneAndValue = w / 65536 % 16 == 0
fits w F.OneAndOffset = w / 65536 % 16 == 0
fits w F.One = w % 1048576 == 0
fits w F.Value = w / 65536 % 256 == 0
fits w F.Vector = w / 65536 % 256 == 0 && nat_le 64 (w % 65536) && nat_lt (w % 65536) 256

-- a word fits its row of the opcode table, where it has one
abbrev pub fits_row : ℕ → Option Opcode → Bool
fits_row w None = false
fits_row w (Some o) = fits w o.form

-- a word is an instruction
abbrev pub is_instruction : ℕ → Bool
is_instruction w = fits_row w (opcode_at (opcode_of w))

-- ---- the word of an instruction

-- the word of an instruction
abbrev pub instruction_word : Instr → ℕ
instruction_word (I.Mov a b) = word_from 1 a b 0 0
instruction_word (I.Li a value) = word_from 2 a 0 0 value
instruction_word (I.LiHigh a value) = word_from 3 a 0 0 value
instruction_word (I.Add a b c) = word_from 4 a b c 0
instruction_word (I.Sub a b c) = word_from 5 a b c 0
instruction_word (I.Mul a b c) = word_from 6 a b c 0
instruction_word (I.Div a b c) = word_from 7 a b c 0
instruction_word (I.Rem a b c) = word_from 8 a b c 0
instruction_word (I.And a b c) = word_from 9 a b c 0
instruction_word (I.Or a b c) = word_from 10 a b c 0
instruction_word (I.Xor a b c) = word_from 11 a b c 0
instruction_word (I.ShiftLeft a b c) = word_from 12 a b c 0
instruction_word (I.ShiftRight a b c) = word_from 13 a b c 0
instruction_word (I.ShiftSigned a b c) = word_from 14 a b c 0
instruction_word (I.LessSigned a b c) = word_from 15 a b c 0
instruction_word (I.Less a b c) = word_from 16 a b c 0
instruction_word (I.AddImmediate a b offset) = word_from 17 a b 0 (low16 offset)
instruction_word (I.AndImmediate a b value) = word_from 18 a b 0 value
instruction_word (I.OrImmediate a b value) = word_from 19 a b 0 value
instruction_word (I.ShiftLeftImmediate a b shift) = word_from 20 a b 0 shift
instruction_word (I.ShiftRightImmediate a b shift) = word_from 21 a b 0 shift
instruction_word (I.LoadWord a b offset) = word_from 22 a b 0 (low16 offset)
instruction_word (I.StoreWord a b offset) = word_from 23 a b 0 (low16 offset)
instruction_word (I.LoadByte a b offset) = word_from 24 a b 0 (low16 offset)
instruction_word (I.StoreByte a b offset) = word_from 25 a b 0 (low16 offset)
instruction_word (I.BranchEqual a b offset) = word_from 26 a b 0 (low16 offset)
instruction_word (I.BranchUnequal a b offset) = word_from 27 a b 0 (low16 offset)
instruction_word (I.BranchLessSigned a b offset) = word_from 28 a b 0 (low16 offset)
instruction_word (I.BranchLess a b offset) = word_from 29 a b 0 (low16 offset)
instruction_word (I.JumpAndLink a offset) = word_from 30 a 0 0 (low16 offset)
instruction_word (I.Jump a) = word_from 31 a 0 0 0
instruction_word (I.Sys value) = word_from 32 0 0 0 value
instruction_word (I.Interrupt vector) = word_from 33 0 0 0 vector
instruction_word (I.Out a) = word_from 34 a 0 0 0
