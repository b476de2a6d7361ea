-- Worked rows of instructions, computed from the definitions.
use Rattle.std.specs.Prelude.{◌≡◌, refl, ℕ, map, [], ◌∷◌, pos, negsuc}
use Rattle.pip_base.specs.declared.types.Ctx.{Ctx}
use Rattle.pip_base.specs.declared.types.Size.TheVariants.{Byte, Word}
use Rattle.pip_model.specs.Effects.{effect, with_link, with_register, word_effect}
use Rattle.pip_model.specs.InstrRead.{instr_of}
use Rattle.pip_model.specs.declared.effect.Effect.TheVariants as F
use Rattle.pip_model.specs.declared.instr.Instr.TheVariants as I

-- a context: r1 is 7, r2 is -1, r3 the least signed number and r6 the largest, r4 and r5 are 32 and 35
abbrev at : ℕ → Ctx
at pc = record {
  pc = pc;
  regs =
      0 ∷ 7 ∷ 0xffffffff ∷ 0x80000000 ∷ 32 ∷ 35 ∷ 0x7fffffff ∷ 0x12345678 ∷ 0 ∷ 0 ∷ 0 ∷ 0 ∷ 0 ∷ 0 ∷ 0 ∷ 0x00401000 ∷ [];
}

abbrev x : Ctx
x = at 0x400000

row_moves : map (effect x) (I.Mov 0 7 ∷ I.Li 0 65535 ∷ I.LiHigh 0 0x1234 ∷ I.LiHigh 7 0xabcd ∷ [])
    ≡ F.Sets 0 0x12345678 ∷ F.Sets 0 65535 ∷ F.Sets 0 0x12340000 ∷ F.Sets 7 0xabcd5678 ∷ []
row_moves = refl

-- sums, differences and products wrap
row_sums : map (effect x) (I.Add 0 1 2 ∷ I.Add 0 3 3 ∷ I.Sub 0 8 1 ∷ I.Sub 0 1 1 ∷ I.Sub 0 1 2 ∷ I.Mul 0 2 2
    ∷ I.Mul 0 7 7 ∷ []) ≡ map (F.Sets 0) (6 ∷ 0 ∷ 0xfffffff9 ∷ 0 ∷ 8 ∷ 1 ∷ 0x1df4d840 ∷ [])
row_sums = refl

row_add_immediate : map (effect x) (I.AddImmediate 0 1 (pos 32767) ∷ I.AddImmediate 0 1 (negsuc 7) ∷ I.AddImmediate 0 2
    (pos 1) ∷ I.AddImmediate 0 8 (negsuc 32767) ∷ []) ≡ map (F.Sets 0) (32774 ∷ 0xffffffff ∷ 0 ∷ 0xffff8000 ∷ [])
row_add_immediate = refl

-- division is of plain words; the divisor 0 traps
row_quotients : map (effect x) (I.Div 0 2 1 ∷ I.Rem 0 2 1 ∷ I.Div 0 1 2 ∷ I.Rem 0 1 2 ∷ [])
    ≡ map (F.Sets 0) (613566756 ∷ 3 ∷ 0 ∷ 7 ∷ [])
row_quotients = refl

row_zero_divisor : map (effect x) (I.Div 0 1 8 ∷ I.Rem 0 1 8 ∷ I.Div 8 8 8 ∷ [])
    ≡ F.Traps 0 0x400000 0 ∷ F.Traps 0 0x400000 0 ∷ F.Traps 0 0x400000 0 ∷ []
row_zero_divisor = refl

row_bits : map (effect x) (I.And 0 7 6 ∷ I.Or 0 7 3 ∷ I.Xor 0 7 2 ∷ I.AndImmediate 0 2 0x8001 ∷ I.OrImmediate 0 3 0xffff
    ∷ []) ≡ map (F.Sets 0) (0x12345678 ∷ 0x92345678 ∷ 0xedcba987 ∷ 0x8001 ∷ 0x8000ffff ∷ [])
row_bits = refl

-- a distance in a register counts by its remainder by 32: 32 shifts nothing and 35 shifts by 3
row_shifts : map (effect x) (I.ShiftLeft 0 7 1 ∷ I.ShiftLeft 0 7 4 ∷ I.ShiftLeft 0 7 5 ∷ I.ShiftLeft 0 1 2
    ∷ I.ShiftRight 0 3 5 ∷ I.ShiftRight 0 3 4 ∷ I.ShiftRight 0 2 2 ∷ [])
    ≡ map (F.Sets 0) (0x1a2b3c00 ∷ 0x12345678 ∷ 0x91a2b3c0 ∷ 0x80000000 ∷ 0x10000000 ∷ 0x80000000 ∷ 1 ∷ [])
row_shifts = refl

row_shifts_signed : map (effect x) (I.ShiftSigned 0 3 5 ∷ I.ShiftSigned 0 3 2 ∷ I.ShiftSigned 0 3 4 ∷ I.ShiftSigned 0 6
    5 ∷ I.ShiftSigned 0 2 1 ∷ []) ≡ map (F.Sets 0) (0xf0000000 ∷ 0xffffffff ∷ 0x80000000 ∷ 0x0fffffff ∷ 0xffffffff ∷ [])
row_shifts_signed = refl

row_shifts_immediate : map (effect x) (I.ShiftLeftImmediate 0 7 0 ∷ I.ShiftLeftImmediate 0 1 31
    ∷ I.ShiftRightImmediate 0 3 31 ∷ I.ShiftRightImmediate 0 7 16 ∷ [])
    ≡ map (F.Sets 0) (0x12345678 ∷ 0x80000000 ∷ 1 ∷ 0x1234 ∷ [])
row_shifts_immediate = refl

-- -1 is below 0 as a signed number, and the largest word as a plain one
row_less : map (effect x) (I.LessSigned 0 2 8 ∷ I.Less 0 2 8 ∷ I.LessSigned 0 8 2 ∷ I.Less 0 8 2 ∷ I.LessSigned 0 3 6
    ∷ I.Less 0 3 6 ∷ I.LessSigned 0 6 3 ∷ I.LessSigned 0 3 2 ∷ I.LessSigned 0 1 1 ∷ I.Less 0 1 1 ∷ [])
    ≡ map (F.Sets 0) (1 ∷ 0 ∷ 0 ∷ 1 ∷ 1 ∷ 0 ∷ 0 ∷ 1 ∷ 0 ∷ 0 ∷ [])
row_less = refl

-- addresses wrap; a byte is stored by its remainder by 256
row_memory : map (effect x) (I.LoadWord 3 15 (pos 8) ∷ I.LoadByte 3 15 (negsuc 0) ∷ I.LoadWord 3 2 (pos 5)
    ∷ I.StoreWord 7 15 (negsuc 3) ∷ I.StoreByte 7 15 (pos 1) ∷ I.StoreByte 2 8 (negsuc 32767) ∷ [])
    ≡ F.Loads 3 0x401008 Word ∷ F.Loads 3 0x400fff Byte ∷ F.Loads 3 4 Word ∷ F.Stores 0x400ffc 0x12345678 Word
    ∷ F.Stores 0x401001 0x78 Byte ∷ F.Stores 0xffff8000 0xff Byte ∷ []
row_memory = refl

-- a branch counts from the next instruction
row_branches : map (effect x) (I.BranchEqual 1 1 (pos 3) ∷ I.BranchEqual 1 2 (pos 3) ∷ I.BranchUnequal 1 2 (negsuc 0)
    ∷ I.BranchUnequal 1 1 (negsuc 0) ∷ I.BranchLess 1 2 (pos 0) ∷ I.BranchLess 2 1 (pos 7)
    ∷ I.BranchLessSigned 2 1 (pos 7) ∷ I.BranchLessSigned 1 2 (pos 7) ∷ [])
    ≡ map F.Goes (0x400010 ∷ 0x400004 ∷ 0x400000 ∷ 0x400004 ∷ 0x400004 ∷ 0x400004 ∷ 0x400020 ∷ 0x400004 ∷ [])
row_branches = refl

-- both ends of the address space: the next instruction, branches forward and back, and the furthest ones
row_wraps : map (effect (at 0xfffffffc)) (I.BranchEqual 0 0 (pos 1) ∷ I.BranchEqual 0 0 (negsuc 1) ∷ [])
    ≡ map F.Goes (4 ∷ 0xfffffff8 ∷ [])
row_wraps = refl

row_wraps_back : map (effect (at 0)) (I.BranchEqual 0 0 (negsuc 1) ∷ I.BranchEqual 0 0 (pos 32767) ∷ I.BranchEqual 0 0
    (negsuc 32767) ∷ I.Jump 2 ∷ []) ≡ map F.Goes (0xfffffffc ∷ 0x20000 ∷ 0xfffe0004 ∷ 0xffffffff ∷ [])
row_wraps_back = refl

-- where pc goes on, it wraps too
row_passes : with_register (at 0xfffffffc) 8 0 ≡ at 0
row_passes = refl

-- a jump that links keeps the next instruction, also where the register is 0 or the jump stays
row_links : map (effect x) (I.JumpAndLink 14 (pos 2) ∷ I.JumpAndLink 0 (negsuc 0) ∷ [])
    ≡ F.Links 14 0x40000c ∷ F.Links 0 0x400000 ∷ []
row_links = refl

row_linked : with_link x 14 0x40000c ≡ record {
  pc = 0x40000c;
  regs = 0 ∷ 7 ∷ 0xffffffff ∷ 0x80000000 ∷ 32 ∷ 35
      ∷ 0x7fffffff ∷ 0x12345678 ∷ 0 ∷ 0 ∷ 0 ∷ 0 ∷ 0 ∷ 0 ∷ 0x400004 ∷ 0x00401000 ∷ [];
}
row_linked = refl

row_others : map (effect x) (I.Sys 12 ∷ I.Sys 65535 ∷ I.Interrupt 255 ∷ I.Out 7 ∷ [])
    ≡ F.Calls 12 ∷ F.Calls 65535 ∷ F.Interrupts 255 ∷ F.Shows 0x12345678 ∷ []
row_others = refl

-- words that are no instruction: 0, an unknown opcode, a field that is not 0, a vector below 64
row_no_instruction : map (λ v. word_effect x v (instr_of v)) (0 ∷ 0x23000000 ∷ 0x01120001 ∷ 0x2100003f ∷ []) ≡ F.Traps 6
    0x400000 0 ∷ F.Traps 6 0x400000 0x23000000 ∷ F.Traps 6 0x400000 0x01120001 ∷ F.Traps 6 0x400000 0x2100003f ∷ []
row_no_instruction = refl
