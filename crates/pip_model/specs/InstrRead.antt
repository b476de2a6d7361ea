-- The instruction that a word is read as, and the ranges that its operands keep.
use Rattle.std.specs.Prelude.{ℕ, ◌<◌, ◌≤◌, if◌then◌else◌, ℤ, pos, negsuc, Option, Some, None}
use Rattle.pip_model.specs.InstrWords.{Opcode, opcode_at, opcode_of, fits}
use Rattle.pip_model.specs.declared.instr.Instr.{Instr}
use Rattle.pip_model.specs.declared.instr.Instr.TheVariants as I

-- the instruction that a word is, by its row of the opcode table
abbrev pub read_row : ℕ → Option Opcode → Option Instr
read_row w None = None
read_row w (Some o) = if fits w o.form then Some (o.reads w) else None

-- the instruction that a word is
abbrev pub instr_of : ℕ → Option Instr
instr_of w = read_row w (opcode_at (opcode_of w))

-- ---- ranges

-- a signed number of 16 bits
abbrev pub IsSigned16 : ℤ → Type 0
IsSigned16 (pos n) = n < 32768
IsSigned16 (negsuc n) = n < 32768

-- registers are below 16, immediates have 16 bits, shifts are below 32 and vectors from 64 to 255
abbrev pub IsInstr : Instr → Type 0
IsInstr (I.Mov a b) = (a < 16) × (b < 16)
IsInstr (I.Li a value) = (a < 16) × (value < 65536)
IsInstr (I.LiHigh a value) = (a < 16) × (value < 65536)
IsInstr (I.Add a b c) = (a < 16) × (b < 16) × (c < 16)
IsInstr (I.Sub a b c) = (a < 16) × (b < 16) × (c < 16)
IsInstr (I.Mul a b c) = (a < 16) × (b < 16) × (c < 16)
IsInstr (I.Div a b c) = (a < 16) × (b < 16) × (c < 16)
IsInstr (I.Rem a b c) = (a < 16) × (b < 16) × (c < 16)
IsInstr (I.And a b c) = (a < 16) × (b < 16) × (c < 16)
IsInstr (I.Or a b c) = (a < 16) × (b < 16) × (c < 16)
IsInstr (I.Xor a b c) = (a < 16) × (b < 16) × (c < 16)
IsInstr (I.ShiftLeft a b c) = (a < 16) × (b < 16) × (c < 16)
IsInstr (I.ShiftRight a b c) = (a < 16) × (b < 16) × (c < 16)
IsInstr (I.ShiftSigned a b c) = (a < 16) × (b < 16) × (c < 16)
IsInstr (I.LessSigned a b c) = (a < 16) × (b < 16) × (c < 16)
IsInstr (I.Less a b c) = (a < 16) × (b < 16) × (c < 16)
IsInstr (I.AddImmediate a b offset) = (a < 16) × (b < 16) × IsSigned16 offset
IsInstr (I.AndImmediate a b value) = (a < 16) × (b < 16) × (value < 65536)
IsInstr (I.OrImmediate a b value) = (a < 16) × (b < 16) × (value < 65536)
IsInstr (I.ShiftLeftImmediate a b shift) = (a < 16) × (b < 16) × (shift < 32)
IsInstr (I.ShiftRightImmediate a b shift) = (a < 16) × (b < 16) × (shift < 32)
IsInstr (I.LoadWord a b offset) = (a < 16) × (b < 16) × IsSigned16 offset
IsInstr (I.StoreWord a b offset) = (a < 16) × (b < 16) × IsSigned16 offset
IsInstr (I.LoadByte a b offset) = (a < 16) × (b < 16) × IsSigned16 offset
IsInstr (I.StoreByte a b offset) = (a < 16) × (b < 16) × IsSigned16 offset
IsInstr (I.BranchEqual a b offset) = (a < 16) × (b < 16) × IsSigned16 offset
IsInstr (I.BranchUnequal a b offset) = (a < 16) × (b < 16) × IsSigned16 offset
IsInstr (I.BranchLessSigned a b offset) = (a < 16) × (b < 16) × IsSigned16 offset
IsInstr (I.BranchLess a b offset) = (a < 16) × (b < 16) × IsSigned16 offset
IsInstr (I.JumpAndLink a offset) = (a < 16) × IsSigned16 offset
IsInstr (I.Jump a) = (a < 16)
IsInstr (I.Sys value) = (value < 65536)
IsInstr (I.Interrupt vector) = (64 ≤ vector) × (vector < 256)
IsInstr (I.Out a) = (a < 16)
