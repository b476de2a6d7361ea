-- One instruction of an assembly text: its operands, and the word that they make.
use Rattle.std.specs.Prelude.{ℕ, ◌+◌, ◌-◌, Bool, false, if◌then◌else◌, ◌==◌, ◌&&◌, ◌||◌, nat_lt, nat_le, List, [], ◌∷◌}
use Rattle.std.specs.Prelude.{length, Option, Some, None, Result, Ok, Err, codes, slice_index_or}
use Rattle.std.specs.Char.{is_ascii_digit}
use Rattle.std.specs.Str.{bytes_eq}
use Rattle.std.specs.List.{list_all, position}
use Rattle.pip_model.specs.Grammar.{number_of, decimal_from}
use Rattle.pip_model.specs.InstrText.{registers}
use Rattle.pip_model.specs.InstrWords.{Opcode, opcodes, opcode_at, word_from}
use Rattle.pip_model.specs.declared.form.Form.{Form}
use Rattle.pip_model.specs.declared.form.Form.TheVariants as F
use Rattle.pip_model.specs.declared.assembly.AsmKind.{AsmKind}
use Rattle.pip_model.specs.declared.assembly.AsmKind.TheVariants as K

-- what a word takes from a name: its whole address, the low or the high half of it, or the distance to it
pub data Use : Type 0 where
  Nothing : Use
  Address : List ℕ → Use
  Low : List ℕ → Use
  High : List ℕ → Use
  Distance : List ℕ → Use

-- a word as far as its line gives it, and what it takes from a name
pub record Cell : Type 0 where
  pub number : ℕ
  pub takes : Use

-- a word that takes nothing
abbrev pub plain_cell : ℕ → Cell
plain_cell n = record { number = n; takes = Nothing }

-- ---- names and registers

-- a letter of either case, or `_`
abbrev pub is_letter : ℕ → Bool
is_letter b = (nat_le 65 b && nat_le b 90) || (nat_le 97 b && nat_le b 122) || (b == 95)

-- 1 to 32 letters, digits or `_`, no digit first
abbrev pub is_name : List ℕ → Bool
is_name [] = false
is_name (b ∷ bs) = is_letter b && list_all (λ c. is_letter c || is_ascii_digit c) bs && nat_lt (length bs) 32

-- the register of this name
abbrev pub register_of : List ℕ → Option ℕ
register_of text = position (bytes_eq text) registers

-- ---- immediates

-- a number between two bounds
abbrev pub unsigned_field : ℕ → ℕ → Option ℕ → Result Cell AsmKind
unsigned_field least most None = Err K.Operand
unsigned_field least most (Some n) = if nat_le least n && nat_le n most then Ok (plain_cell n) else Err K.Range

-- decimal digits after a minus, of which the first isn't 0
abbrev pub negative_of : List ℕ → Option ℕ
negative_of [] = None
negative_of (d ∷ ds) = if d == 48 then None else decimal_from 0 (d ∷ ds)

-- a negative immediate, from the number after its minus
abbrev pub negative_field : Option ℕ → Result Cell AsmKind
negative_field None = Err K.Operand
negative_field (Some n) = if nat_le n 32768 then Ok (plain_cell (65536 - n)) else Err K.Range

-- a signed number of 16 bits
abbrev pub signed_field : List ℕ → Result Cell AsmKind
signed_field [] = Err K.Operand
signed_field (b ∷ bs) = if b == 45 then negative_field (negative_of bs) else unsigned_field 0 32767 (number_of (b ∷ bs))

-- the instructions whose immediate may be a half of an address
abbrev pub may_half : List ℕ → Bool
may_half m = bytes_eq m (codes "li") || bytes_eq m (codes "lih") || bytes_eq m (codes "ori")

-- the instructions whose immediate may be a distance to a name
abbrev pub may_distance : List ℕ → Bool
may_distance m = bytes_eq m (codes "beq") || bytes_eq m (codes "bne") || bytes_eq m (codes "blt")
    || bytes_eq m (codes "bltu") || bytes_eq m (codes "jal")

-- an operand that is a name, where a name is allowed and well formed
abbrev pub by_name : Bool → Use → Result Cell AsmKind
by_name good u = if good then Ok (record { number = 0; takes = u }) else Err K.Operand

-- an unsigned immediate: a number, or `<` or `>` and a name
abbrev pub unsigned_of : List ℕ → ℕ → ℕ → List ℕ → Result Cell AsmKind
unsigned_of m least most [] = Err K.Operand
unsigned_of m least most (b ∷ bs) =
    if b == 60 then by_name (may_half m && is_name bs) (Low bs)
    else if b == 62 then by_name (may_half m && is_name bs) (High bs)
    else unsigned_field least most (number_of (b ∷ bs))

-- a signed immediate: a number, or a name
abbrev pub signed_of : List ℕ → List ℕ → Result Cell AsmKind
signed_of m text = if may_distance m && is_name text then Ok (record { number = 0; takes = Distance text })
    else signed_field text

-- ---- instructions

-- a word from its fields; a register that is none is the line's fault before the immediate's
abbrev pub made : ℕ → Option ℕ → Option ℕ → Option ℕ → Result Cell AsmKind → Result Cell AsmKind
made op (Some a) (Some b) (Some c) (Ok i) = Ok (record { number = word_from op a b c i.number; takes = i.takes })
made op (Some a) (Some b) (Some c) (Err k) = Err k
made op a b c i = Err K.Operand

-- a field that the form doesn't use
abbrev pub no_field : Option ℕ
no_field = Some 0

-- the immediate of a form that has none
abbrev pub nil : Result Cell AsmKind
nil = Ok (plain_cell 0)

-- operand i, empty where there is none
abbrev pub text_at : List (List ℕ) → ℕ → List ℕ
text_at xs i = slice_index_or xs i []

-- the register that operand i names
abbrev pub reg_at : List (List ℕ) → ℕ → Option ℕ
reg_at xs i = register_of (text_at xs i)

-- the operands are k in number; else the line is refused
abbrev pub with_operands : ℕ → List (List ℕ) → Result Cell AsmKind → Result Cell AsmKind
with_operands k xs r = if length xs == k then r else Err K.Operand

-- by the form of the opcode, where m is the mnemonic
abbrev pub by_form : ℕ → List ℕ → Form → List (List ℕ) → Result Cell AsmKind
by_form op m F.Two xs = with_operands 2 xs (made op (reg_at xs 0) (reg_at xs 1) no_field nil)
by_form op m F.Three xs = with_operands 3 xs (made op (reg_at xs 0) (reg_at xs 1) (reg_at xs 2) nil)
by_form op m F.TwoAndValue xs =
    with_operands 3 xs (made op (reg_at xs 0) (reg_at xs 1) no_field (unsigned_of m 0 65535 (text_at xs 2)))
by_form op m F.TwoAndShift xs =
    with_operands 3 xs (made op (reg_at xs 0) (reg_at xs 1) no_field (unsigned_of m 0 31 (text_at xs 2)))
by_form op m F.TwoAndOffset xs =
    with_operands 3 xs (made op (reg_at xs 0) (reg_at xs 1) no_field (signed_of m (text_at xs 2)))
by_form op m F.OneAndValue xs =
    with_operands 2 xs (made op (reg_at xs 0) no_field no_field (unsigned_of m 0 65535 (text_at xs 1)))
by_form op m F.OneAndOffset xs =
    with_operands 2 xs (made op (reg_at xs 0) no_field no_field (signed_of m (text_at xs 1)))
by_form op m F.One xs = with_operands 1 xs (made op (reg_at xs 0) no_field no_field nil)
by_form op m F.Value xs = with_operands 1 xs (made op no_field no_field no_field (unsigned_of m 0 65535 (text_at xs 0)))
by_form op m F.Vector xs = with_operands 1 xs (made op no_field no_field no_field (unsigned_of m 64 255 (text_at xs 0)))

-- the instruction of a row of the opcode table; a mnemonic without a row is unknown
abbrev pub by_row : ℕ → List ℕ → List (List ℕ) → Option Opcode → Result Cell AsmKind
by_row op m xs None = Err K.Unknown
by_row op m xs (Some o) = by_form op m o.form xs

-- by the place of the mnemonic in the table
abbrev pub by_place : List ℕ → List (List ℕ) → Option ℕ → Result Cell AsmKind
by_place m xs None = Err K.Unknown
by_place m xs (Some k) = by_row (k + 1) m xs (opcode_at (k + 1))

-- a mnemonic with its operands
abbrev pub instruction : List ℕ → List (List ℕ) → Result Cell AsmKind
instruction m xs = by_place m xs (position (λ o. bytes_eq m o.name) opcodes)
