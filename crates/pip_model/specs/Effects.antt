-- What each instruction does on a processor with a context, on plain words: a table with one row an instruction.
use Rattle.std.specs.Prelude.{ℕ, ◌<◌, ◌+◌, ◌-◌, ◌*◌, ◌/◌, ◌%◌, ◌^◌, ◌==◌, nat_lt, int_lt, Bool, not, if◌then◌else◌, ℤ}
use Rattle.std.specs.Prelude.{Option, Some, None, slice_index, slice_set, bit_and, bit_or}
use Rattle.std.specs.Int.{w32, cast_signed, cast_unsigned}
use Rattle.std.specs.Int.Bits.{bit_xor}
use Rattle.std.specs.Int.Signed.{shr_z}
use Rattle.pip_base.specs.declared.types.Ctx.{Ctx}
use Rattle.pip_base.specs.declared.types.Size.TheVariants.{Byte, Word}
use Rattle.pip_model.specs.declared.effect.Effect.{Effect}
use Rattle.pip_model.specs.declared.effect.Effect.TheVariants as F
use Rattle.pip_model.specs.declared.instr.Instr.{Instr}
use Rattle.pip_model.specs.declared.instr.Instr.TheVariants as I

-- ---- words

-- the sum of two words, which wraps at 2^32
abbrev pub plus : ℕ → ℕ → ℕ
plus a b = (a + b) % 2 ^ 32

-- the difference of two words, which wraps at 2^32
abbrev pub minus : ℕ → ℕ → ℕ
minus a b = (a + (2 ^ 32 - b)) % 2 ^ 32

-- a signed number as a word
abbrev pub word_of_signed : ℤ → ℕ
word_of_signed z = cast_unsigned w32 z

-- a word as a signed number: the words from 2^31 on are the negative ones
abbrev pub signed_word : ℕ → ℤ
signed_word a = cast_signed w32 a

-- a is less than b, as signed numbers
abbrev pub below_signed : ℕ → ℕ → Bool
below_signed a b = int_lt (signed_word a) (signed_word b)

-- a comparison as a word
abbrev pub bit : Bool → ℕ
bit b = if b then 1 else 0

-- a word shifted left by less than 32 places
abbrev pub shift_left : ℕ → ℕ → ℕ
shift_left a s = (a * 2 ^ s) % 2 ^ 32

-- a word shifted right by less than 32 places, with zeros coming in
abbrev pub shift_right : ℕ → ℕ → ℕ
shift_right a s = a / 2 ^ s

-- a signed number shifted right by less than 32 places and rounded down: its top bit comes in
abbrev pub shift_signed : ℕ → ℕ → ℕ
shift_signed a s = word_of_signed (shr_z (signed_word a) (2 ^ s))

-- the upper half of a word is replaced
abbrev pub with_high : ℕ → ℕ → ℕ
with_high a i = i * 65536 + a % 65536

-- ---- contexts

-- register a of a context
abbrev pub register : Ctx → ℕ → ℕ
register x a = slice_index x.regs a

-- the address of the next instruction
abbrev pub next : Ctx → ℕ
next x = plus x.pc 4

-- the context at the next instruction
abbrev pub at_next : Ctx → Ctx
at_next x = record x { pc = next x }

-- the context at the next instruction, with a value in register a
abbrev pub with_register : Ctx → ℕ → ℕ → Ctx
with_register x a v = record { pc = next x; regs = slice_set x.regs a v }

-- the context elsewhere, with the address of the next instruction in register a
abbrev pub with_link : Ctx → ℕ → ℕ → Ctx
with_link x a pc = record { pc = pc; regs = slice_set x.regs a (next x) }

-- where a branch by z instructions leads
abbrev pub target : Ctx → ℤ → ℕ
target x z = plus (next x) (word_of_signed z * 4 % 2 ^ 32)

-- the address of a load or a store
abbrev pub address : Ctx → ℕ → ℤ → ℕ
address x b z = plus (register x b) (word_of_signed z)

-- ---- effects

-- a branch by z instructions, taken where its condition holds
abbrev pub branch : Ctx → Bool → ℤ → Effect
branch x b z = F.Goes (if b then target x z else next x)

-- the divisor 0 traps
abbrev pub traps_at_zero : Ctx → ℕ → Effect → Effect
traps_at_zero x c e = if c == 0 then F.Traps 0 x.pc 0 else e

-- what an instruction does with a context
abbrev pub effect : Ctx → Instr → Effect
effect x (I.Mov a b) = F.Sets a (register x b)
effect x (I.Li a i) = F.Sets a i
effect x (I.LiHigh a i) = F.Sets a (with_high (register x a) i)
effect x (I.Add a b c) = F.Sets a (plus (register x b) (register x c))
effect x (I.Sub a b c) = F.Sets a (minus (register x b) (register x c))
effect x (I.Mul a b c) = F.Sets a ((register x b * register x c) % 2 ^ 32)
effect x (I.Div a b c) = traps_at_zero x (register x c) (F.Sets a (register x b / register x c))
effect x (I.Rem a b c) = traps_at_zero x (register x c) (F.Sets a (register x b % register x c))
effect x (I.And a b c) = F.Sets a (bit_and (register x b) (register x c))
effect x (I.Or a b c) = F.Sets a (bit_or (register x b) (register x c))
effect x (I.Xor a b c) = F.Sets a (bit_xor (register x b) (register x c))
effect x (I.ShiftLeft a b c) = F.Sets a (shift_left (register x b) (register x c % 32))
effect x (I.ShiftRight a b c) = F.Sets a (shift_right (register x b) (register x c % 32))
effect x (I.ShiftSigned a b c) = F.Sets a (shift_signed (register x b) (register x c % 32))
effect x (I.LessSigned a b c) = F.Sets a (bit (below_signed (register x b) (register x c)))
effect x (I.Less a b c) = F.Sets a (bit (nat_lt (register x b) (register x c)))
effect x (I.AddImmediate a b i) = F.Sets a (plus (register x b) (word_of_signed i))
effect x (I.AndImmediate a b i) = F.Sets a (bit_and (register x b) i)
effect x (I.OrImmediate a b i) = F.Sets a (bit_or (register x b) i)
effect x (I.ShiftLeftImmediate a b i) = F.Sets a (shift_left (register x b) i)
effect x (I.ShiftRightImmediate a b i) = F.Sets a (shift_right (register x b) i)
effect x (I.LoadWord a b i) = F.Loads a (address x b i) Word
effect x (I.StoreWord a b i) = F.Stores (address x b i) (register x a) Word
effect x (I.LoadByte a b i) = F.Loads a (address x b i) Byte
effect x (I.StoreByte a b i) = F.Stores (address x b i) (register x a % 256) Byte
effect x (I.BranchEqual a b i) = branch x (register x a == register x b) i
effect x (I.BranchUnequal a b i) = branch x (not (register x a == register x b)) i
effect x (I.BranchLessSigned a b i) = branch x (below_signed (register x a) (register x b)) i
effect x (I.BranchLess a b i) = branch x (nat_lt (register x a) (register x b)) i
effect x (I.JumpAndLink a i) = F.Links a (target x i)
effect x (I.Jump a) = F.Goes (register x a)
effect x (I.Sys i) = F.Calls i
effect x (I.Interrupt v) = F.Interrupts v
effect x (I.Out a) = F.Shows (register x a)

-- the word v was fetched: one that is no instruction traps with vector 6
abbrev pub word_effect : Ctx → ℕ → Option Instr → Effect
word_effect x v None = F.Traps 6 x.pc v
word_effect x v (Some i) = effect x i

-- the ranges of an effect's numbers
abbrev pub IsEffect : Effect → Type 0
IsEffect (F.Stores va word Byte) = word < 256
IsEffect (F.Stores va word Word) = word < 2 ^ 32
IsEffect (F.Traps k a b) = k < 256
IsEffect (F.Interrupts k) = k < 256
IsEffect _ = Unit {0}
