-- What one line of an assembly text says.
use Rattle.std.specs.Prelude.{ℕ, ◌-◌, ◌%◌, ◌/◌, Bool, if◌then◌else◌, ◌==◌, ◌&&◌, nat_lt, nat_le, List, [], ◌∷◌, length}
use Rattle.std.specs.Prelude.{take, Option, Some, None, Result, Ok, Err, codes, slice_index}
use Rattle.std.specs.Str.{bytes_eq}
use Rattle.pip_base.specs.declared.types.Plan.{Plan}
use Rattle.pip_model.specs.Grammar.{number_of, words_of}
use Rattle.pip_model.specs.AsmWords.{Cell, plain_cell, Address, is_name, by_name, text_at, instruction}
use Rattle.pip_model.specs.declared.assembly.AsmKind.{AsmKind}
use Rattle.pip_model.specs.declared.assembly.AsmKind.TheVariants as K
use Rattle.pip_model.specs.declared.assembly.Stage.{Stage}
use Rattle.pip_model.specs.declared.assembly.Stage.TheVariants.{Start, Framed, Header, InPage}

-- an empty line or a remark; `.frames`, `.cpus` and `.line`; `.page`, by its vpage; a word of the page, a number of
-- zero words, and a name of its next place
pub data Statement : Type 0 where
  Blank : Statement
  Frames : ℕ → Statement
  Cpus : ℕ → Statement
  Plans : Plan → Statement
  Begins : ℕ → Statement
  Holds : Cell → Statement
  Zeros : ℕ → Statement
  Names : List ℕ → Statement

-- ---- the lines, by the words after the first

-- a number that passes a test
abbrev pub one_number : (ℕ → Bool) → (ℕ → Statement) → Option ℕ → Result Statement AsmKind
one_number good says None = Err K.Operand
one_number good says (Some n) = if good n then Ok (says n) else Err K.Range

-- a line with one operand, a number that passes a test
abbrev pub number_line : (ℕ → Bool) → (ℕ → Statement) → List (List ℕ) → Result Statement AsmKind
number_line good says xs = if length xs == 1 then one_number good says (number_of (text_at xs 0)) else Err K.Operand

-- the plan of an interrupt line, from its three operands: the line, its first step and its period
abbrev pub three_numbers : Option ℕ → Option ℕ → Option ℕ → Result Statement AsmKind
three_numbers (Some l) (Some f) (Some p) = if nat_lt l 16 then Ok (Plans (record { line = l; first = f; period = p }))
    else Err K.Range
three_numbers l f p = Err K.Operand

-- `.line` with its three operands
abbrev pub plan_line : List (List ℕ) → Result Statement AsmKind
plan_line xs = if length xs == 3 then three_numbers (number_of (text_at xs 0)) (number_of (text_at xs 1))
    (number_of (text_at xs 2)) else Err K.Operand

-- a word of the page as a statement
abbrev pub held : Result Cell AsmKind → Result Statement AsmKind
held (Ok c) = Ok (Holds c)
held (Err k) = Err k

-- a number, or a name
abbrev pub word_operand : List ℕ → Option ℕ → Result Cell AsmKind
word_operand text (Some v) = Ok (plain_cell v)
word_operand text None = by_name (is_name text) (Address text)

-- `.word` with its operand
abbrev pub word_line : List (List ℕ) → Result Statement AsmKind
word_line xs = if length xs == 1 then held (word_operand (text_at xs 0) (number_of (text_at xs 0))) else Err K.Operand

-- a number of zero words; a page has at most 1024 words
abbrev pub zero_statement : Option ℕ → Result Statement AsmKind
zero_statement None = Err K.Operand
zero_statement (Some k) = if nat_le k 1024 then Ok (Zeros k) else Err K.Size

-- `.zero` with its operand
abbrev pub zero_line : List (List ℕ) → Result Statement AsmKind
zero_line xs = if length xs == 1 then zero_statement (number_of (text_at xs 0)) else Err K.Operand

-- a word without the colon at its end
abbrev pub label_of : List ℕ → Option (List ℕ)
label_of m = if slice_index m (length m - 1) == 58 then Some (take (length m - 1) m) else None

-- a label alone on its line, which names the next place of the page
abbrev pub name_line : List ℕ → List (List ℕ) → Result Statement AsmKind
name_line name xs = if is_name name then (if length xs == 0 then Ok (Names name) else Err K.Operand) else Err K.Unknown

-- a line of a page that begins with no directive: a label, or an instruction
abbrev pub other_line : List ℕ → List (List ℕ) → Option (List ℕ) → Result Statement AsmKind
other_line m xs (Some name) = name_line name xs
other_line m xs None = held (instruction m xs)

-- ---- a line, by its first word and where it is

-- `.frames` with its operand, from 16 to 4096
abbrev pub frames_line : List (List ℕ) → Result Statement AsmKind
frames_line xs = number_line (λ n. nat_le 16 n && nat_le n 4096) Frames xs

-- `.cpus` with its operand, from 1 to 4
abbrev pub cpus_line : List (List ℕ) → Result Statement AsmKind
cpus_line xs = number_line (λ n. nat_le 1 n && nat_le n 4) Cpus xs

-- `.page` with its operand, an address at which a page begins
abbrev pub page_line : List (List ℕ) → Result Statement AsmKind
page_line xs = number_line (λ a. a % 4096 == 0) (λ a. Begins (a / 4096)) xs

-- a line by its first word, among those that its stage allows
abbrev pub phrase_of : Stage → List ℕ → List (List ℕ) → Result Statement AsmKind
phrase_of Start m xs = if bytes_eq m (codes ".frames") then frames_line xs else Err K.Unknown
phrase_of Framed m xs = if bytes_eq m (codes ".cpus") then cpus_line xs else Err K.Unknown
phrase_of Header m xs =
    if bytes_eq m (codes ".line") then plan_line xs
    else if bytes_eq m (codes ".page") then page_line xs
    else Err K.Unknown
phrase_of InPage m xs =
    if bytes_eq m (codes ".page") then page_line xs
    else if bytes_eq m (codes ".word") then word_line xs
    else if bytes_eq m (codes ".zero") then zero_line xs
    else other_line m xs (label_of m)

-- a line by its words, which are at least one
abbrev pub assembly_phrase : Stage → List (List ℕ) → Result Statement AsmKind
assembly_phrase g [] = Err K.Unknown
assembly_phrase g (m ∷ xs) = phrase_of g m xs

-- a line at its stage
abbrev pub statement : Stage → List ℕ → Result Statement AsmKind
statement g [] = Ok Blank
statement g (b ∷ bs) = if nat_lt 120 (length (b ∷ bs)) then Err K.Unknown else if b == 35 then Ok Blank
    else assembly_phrase g (words_of (b ∷ bs))
