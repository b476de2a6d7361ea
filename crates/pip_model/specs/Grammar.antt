-- The lines of a script as bytes: which are in the grammar, and what they mean.
use Rattle.std.specs.Prelude.{ℕ, ◌+◌, ◌-◌, ◌*◌, ◌^◌, Bool, ◌==◌, ◌&&◌, not, nat_lt, nat_le, if◌then◌else◌, List, []}
use Rattle.std.specs.Prelude.{◌∷◌, ◌++◌, length, Option, Some, None, option_and_then, codes, replicate}
use Rattle.std.specs.Char.{is_ascii_digit}
use Rattle.std.specs.List.{slice_split, onto_first}
use Rattle.std.specs.Str.{bytes_eq}
use Rattle.pip_base.specs.declared.types.Size.{Size}
use Rattle.pip_base.specs.declared.types.Size.TheVariants.{Byte, Word}
use Rattle.pip_model.specs.declared.script.ScriptLine.{ScriptLine}
use Rattle.pip_model.specs.declared.script.ScriptLine.TheVariants as L
use Rattle.pip_model.specs.Events.{below_of}

-- the lines of a text: each ends with a newline, and a rest that is not empty is a line too
abbrev pub lines_of : List ℕ → List (List ℕ)
lines_of [] = []
lines_of (b ∷ bs) = if b == 10 then [] ∷ lines_of bs else onto_first b (lines_of bs)

-- the words of a line, parted by single spaces
abbrev pub words_of : List ℕ → List (List ℕ)
words_of line = slice_split (λ b. b == 32) line

-- ---- numbers: `0`, or decimal digits of which the first is not 0, or `0x` and one to eight hexadecimal
-- digits in lower case; at most 2^32 - 1

-- decimal digits that go on from a number
abbrev pub decimal_from : ℕ → List ℕ → Option ℕ
decimal_from n [] = Some n
decimal_from n (d ∷ ds) =
    if is_ascii_digit d && nat_lt (10 * n + (d - 48)) (2 ^ 32) then decimal_from (10 * n + (d - 48)) ds else None

-- the value of a hexadecimal digit
abbrev pub hex_value : ℕ → Option ℕ
hex_value d = if is_ascii_digit d then Some (d - 48) else if nat_le 97 d && nat_le d 102 then Some (d - 87) else None

-- hexadecimal digits that go on from a number
abbrev pub hex_from : ℕ → List ℕ → Option ℕ
hex_from n [] = Some n
hex_from n (d ∷ ds) = option_and_then (λ x. hex_from (16 * n + x) ds) (hex_value d)

-- what may follow a first digit 0: nothing, or the rest of a hexadecimal number
abbrev pub after_zero : List ℕ → Option ℕ
after_zero [] = Some 0
after_zero (x ∷ ds) = if x == 120 && (nat_le 1 (length ds) && nat_le (length ds) 8) then hex_from 0 ds else None

-- the number that a word of a text writes, decimal or hexadecimal
abbrev pub number_of : List ℕ → Option ℕ
number_of [] = None
number_of (d ∷ ds) = if d == 48 then after_zero ds else decimal_from 0 (d ∷ ds)

-- a number in front of the others, where all are numbers
abbrev pub cons_number : Option ℕ → Option (List ℕ) → Option (List ℕ)
cons_number (Some n) (Some ns) = Some (n ∷ ns)
cons_number _ _ = None

-- all the words are numbers
abbrev pub numbers_of : List (List ℕ) → Option (List ℕ)
numbers_of [] = Some []
numbers_of (w ∷ ws) = cons_number (number_of w) (numbers_of ws)

-- ---- the forms, by the numbers after the first word. There are `cpus` processors, 0 before the boot line

-- a line that has a processor is one only where the processor is there
abbrev pub where_cpu : ℕ → ℕ → ScriptLine → Option ScriptLine
where_cpu cpus p line = if nat_lt p cpus then Some line else None

-- a condition of a form
abbrev pub where_true : Bool → Option ScriptLine → Option ScriptLine
where_true b line = if b then line else None

-- `boot` with its two numbers: the frames and the processors
abbrev pub boot_form : ℕ → List ℕ → Option ScriptLine
boot_form cpus (n ∷ c ∷ []) =
    where_true (cpus == 0 && ((nat_le 16 n && nat_le n 4096) && (nat_le 1 c && nat_le c 4))) (Some (L.Boot n c))
boot_form cpus _ = None

-- a load, with its processor and its address
abbrev pub load_form : Size → ℕ → List ℕ → Option ScriptLine
load_form size cpus (p ∷ a ∷ []) = where_cpu cpus p (L.Load p a size)
load_form size cpus _ = None

-- a store, with its processor, its address and the word or byte that it stores
abbrev pub store_form : Size → ℕ → List ℕ → Option ScriptLine
store_form size cpus (p ∷ a ∷ w ∷ []) = where_true (nat_lt w (below_of size)) (where_cpu cpus p (L.Store p a size w))
store_form size cpus _ = None

-- `fetch` with its processor
abbrev pub fetch_form : ℕ → List ℕ → Option ScriptLine
fetch_form cpus (p ∷ []) = where_cpu cpus p (L.Fetch p)
fetch_form cpus _ = None

-- `trap` with its processor, its vector and two words
abbrev pub trap_form : ℕ → List ℕ → Option ScriptLine
trap_form cpus (p ∷ v ∷ a ∷ b ∷ []) = where_true (nat_le v 255) (where_cpu cpus p (L.Trap p v a b))
trap_form cpus _ = None

-- at most five arguments; those that are missing are 0
abbrev pub call_form : ℕ → List ℕ → Option ScriptLine
call_form cpus (p ∷ number ∷ args) =
    where_true (nat_le (length args) 5) (where_cpu cpus p (L.Call p number (args ++ replicate (5 - length args) 0)))
call_form cpus _ = None

-- `raise` with its interrupt line
abbrev pub raise_form : ℕ → List ℕ → Option ScriptLine
raise_form cpus (l ∷ []) = where_true (not (cpus == 0) && nat_le l 15) (Some (L.Raise l))
raise_form cpus _ = None

-- `poll` with its processor
abbrev pub poll_form : ℕ → List ℕ → Option ScriptLine
poll_form cpus (p ∷ []) = where_cpu cpus p (L.Poll p)
poll_form cpus _ = None

-- `peek` with a frame and the index of a word
abbrev pub peek_form : ℕ → List ℕ → Option ScriptLine
peek_form cpus (f ∷ i ∷ []) = where_true (not (cpus == 0)) (Some (L.Peek f i))
peek_form cpus _ = None

-- `reg` with its processor and a register; 16 is the pc
abbrev pub reg_form : ℕ → List ℕ → Option ScriptLine
reg_form cpus (p ∷ r ∷ []) = where_true (nat_le r 16) (where_cpu cpus p (L.Reg p r))
reg_form cpus _ = None

-- `pc` with its processor and an address
abbrev pub pc_form : ℕ → List ℕ → Option ScriptLine
pc_form cpus (p ∷ a ∷ []) = where_cpu cpus p (L.SetPc p a)
pc_form cpus _ = None

-- by the first word
abbrev pub form : ℕ → List ℕ → List ℕ → Option ScriptLine
form cpus w ns =
    if bytes_eq w (codes "boot") then boot_form cpus ns
    else if bytes_eq w (codes "ld") then load_form Word cpus ns
    else if bytes_eq w (codes "lb") then load_form Byte cpus ns
    else if bytes_eq w (codes "st") then store_form Word cpus ns
    else if bytes_eq w (codes "sb") then store_form Byte cpus ns
    else if bytes_eq w (codes "fetch") then fetch_form cpus ns
    else if bytes_eq w (codes "trap") then trap_form cpus ns
    else if bytes_eq w (codes "call") then call_form cpus ns
    else if bytes_eq w (codes "raise") then raise_form cpus ns
    else if bytes_eq w (codes "poll") then poll_form cpus ns
    else if bytes_eq w (codes "peek") then peek_form cpus ns
    else if bytes_eq w (codes "reg") then reg_form cpus ns
    else if bytes_eq w (codes "pc") then pc_form cpus ns
    else None

-- a line of a script by its words, which are at least one
abbrev pub phrase : ℕ → List (List ℕ) → Option ScriptLine
phrase cpus [] = None
phrase cpus (w ∷ ws) = option_and_then (form cpus w) (numbers_of ws)

-- an empty line, and one that begins with `#`, is blank; a line has at most 120 bytes
abbrev pub phrase_or_blank : ℕ → List ℕ → Option ScriptLine
phrase_or_blank cpus [] = Some L.Blank
phrase_or_blank cpus (b ∷ bs) = if b == 35 then Some L.Blank else phrase cpus (words_of (b ∷ bs))

-- what a line means, if it is in the grammar
abbrev pub line_meaning : ℕ → List ℕ → Option ScriptLine
line_meaning cpus line = if nat_le (length line) 120 then phrase_or_blank cpus line else None
