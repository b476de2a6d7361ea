-- Assembly texts: the two passes over the lines, and the image that they give.
use Rattle.std.specs.Prelude.{ℕ, ◌+◌, ◌*◌, ◌-◌, ◌/◌, ◌%◌, ◌^◌, if◌then◌else◌, nat_lt, nat_le, List, [], ◌∷◌, ◌++◌}
use Rattle.std.specs.Prelude.{length, replicate, Option, Some, None, Result, Ok, Err, is_some}
use Rattle.std.specs.Str.{bytes_eq}
use Rattle.pip_base.specs.declared.types.Plan.{Plan}
use Rattle.pip_model.specs.Grammar.{lines_of}
use Rattle.pip_model.specs.Images.{magic, bytes_of, has_row, is_seen}
use Rattle.pip_model.specs.AsmWords.{Use, Nothing, Address, Low, High, Distance}
use Rattle.pip_model.specs.AsmLines.{Statement, Blank, Frames, Cpus, Plans, Begins, Holds, Zeros, Names, statement}
use Rattle.pip_model.specs.declared.assembly.AsmKind.{AsmKind}
use Rattle.pip_model.specs.declared.assembly.AsmKind.TheVariants as K
use Rattle.pip_model.specs.declared.assembly.Stage.{Stage}
use Rattle.pip_model.specs.declared.assembly.Stage.TheVariants.{Start, Framed, Header, InPage}

-- a line, counted from 1, and what is wrong with it
pub record LineFault : Type 0 where
  pub line : ℕ
  pub kind : AsmKind

-- what a line gives, and then what the further lines make of it
abbrev pub at_line : {A B : Type 0} → ℕ → Result A AsmKind → (A → Result B LineFault) → Result B LineFault
at_line n (Ok x) rest = rest x
at_line n (Err k) rest = Err (record { line = n; kind = k })

-- a result, and what is done next with its value; an error stays
abbrev pub and_then : {A B E : Type 0} → Result A E → (A → Result B E) → Result B E
and_then (Ok x) f = f x
and_then (Err e) f = Err e

-- ---- the first pass

-- What the lines so far said, plans and pages in their order, and the address of each name. The next plan's line must
-- be `least` or more. The present page begins at address `at` and has `size` words so far
pub record AssemblyState : Type 0 where
  pub stage : Stage
  pub frames : ℕ
  pub cpus : ℕ
  pub least : ℕ
  pub plans : List Plan
  pub pages : List ℕ
  pub at : ℕ
  pub size : ℕ
  pub names : List ℕ → Option ℕ

-- no line was read; the numbers of frames and processors come by their lines, before anything is judged by them
abbrev pub first_state : AssemblyState
first_state = record {
  stage = Start;
  frames = 16;
  cpus = 1;
  least = 0;
  plans = [];
  pages = [];
  at = 0;
  size = 0;
  names = λ _. None;
}

-- a name more
abbrev pub with_name : List ℕ → ℕ → (List ℕ → Option ℕ) → List ℕ → Option ℕ
with_name t a names u = if bytes_eq t u then Some a else names u

-- a number of words more in the present page
abbrev pub grown : AssemblyState → ℕ → Result AssemblyState AsmKind
grown s k = if nat_le (s.size + k) 1024 then Ok (record s { size = s.size + k }) else Err K.Size

-- what a line makes of it
abbrev pub place_statement : AssemblyState → Statement → Result AssemblyState AsmKind
place_statement s Blank = Ok s
place_statement s (Frames n) = Ok (record s { stage = Framed; frames = n })
place_statement s (Cpus c) = Ok (record s { stage = Header; cpus = c })
place_statement s (Plans p) = if nat_le s.least p.line
    then Ok (record s { least = p.line + 1; plans = s.plans ++ p ∷ [] })
    else Err K.Range
place_statement s (Begins v) =
    if has_row s.frames v then (if is_seen v s.pages then Err K.Twice
    else Ok (record s { stage = InPage; pages = s.pages ++ v ∷ []; at = v * 4096; size = 0 }))
    else Err K.Range
place_statement s (Holds c) = grown s 1
place_statement s (Zeros k) = grown s k
place_statement s (Names t) = if is_some (s.names t) then Err K.Twice
    else Ok (record s { names = with_name t ((s.at + 4 * s.size) % 2 ^ 32) s.names })

-- a text may end once both header lines were read
abbrev pub end_of_text : Stage → AssemblyState → ℕ → Result AssemblyState LineFault
end_of_text Start s n = Err (record { line = n; kind = K.Unknown })
end_of_text Framed s n = Err (record { line = n; kind = K.Unknown })
end_of_text Header s n = Ok s
end_of_text InPage s n = Ok s

-- lines of which the first has number n
abbrev pub first_pass : AssemblyState → ℕ → List (List ℕ) → Result AssemblyState LineFault
first_pass s n [] = end_of_text s.stage s n
first_pass s n (l ∷ ls) = at_line n (and_then (statement s.stage l) (place_statement s)) (λ t. first_pass t (n + 1) ls)

-- ---- the second pass: the words of the pages

-- the address of a name, put to use; a name that no line defines is an error
abbrev pub with_address : Option ℕ → (ℕ → Result ℕ AsmKind) → Result ℕ AsmKind
with_address None f = Err K.Label
with_address (Some a) f = f a

-- a word with the distance from the next instruction to an address, in words, in its low 16 bits
abbrev pub apart : ℕ → ℕ → ℕ → Result ℕ AsmKind
apart w next a =
    if nat_le next a then (if nat_lt ((a - next) / 4) 32768 then Ok (w + (a - next) / 4) else Err K.Range)
    else (if nat_le ((next - a) / 4) 32768 then Ok (w + (65536 - (next - a) / 4)) else Err K.Range)

-- the word of a cell after which the next instruction would be at `next`; the low half of an instruction that takes
-- from a name is free
abbrev pub word_of_cell : (List ℕ → Option ℕ) → ℕ → ℕ → Use → Result ℕ AsmKind
word_of_cell names next w Nothing = Ok w
word_of_cell names next w (Address t) = with_address (names t) (λ a. Ok a)
word_of_cell names next w (Low t) = with_address (names t) (λ a. Ok (w + a % 65536))
word_of_cell names next w (High t) = with_address (names t) (λ a. Ok (w + a / 65536))
word_of_cell names next w (Distance t) = with_address (names t) (apart w next)

-- the zeros after the words of a page of which `size` are there
abbrev pub padding : Stage → ℕ → List ℕ
padding Start size = []
padding Framed size = []
padding Header size = []
padding InPage size = replicate (1024 - size) 0

-- the words that a statement gives, and what holds after it: the stage, the page's address and its size so far
pub record Gives : Type 0 where
  pub words : List ℕ
  pub stage : Stage
  pub at : ℕ
  pub size : ℕ

-- a statement that gives one word of the present page
abbrev pub one_word : Stage → ℕ → ℕ → Result ℕ AsmKind → Result Gives AsmKind
one_word g at size (Ok w) = Ok (record { words = w ∷ []; stage = g; at = at; size = size + 1 })
one_word g at size (Err k) = Err k

-- what a statement gives in the second pass, by the addresses of the names
abbrev pub given : (List ℕ → Option ℕ) → Stage → ℕ → ℕ → Statement → Result Gives AsmKind
given names g at size Blank = Ok (record { words = []; stage = g; at = at; size = size })
given names g at size (Frames n) = Ok (record { words = []; stage = Framed; at = at; size = size })
given names g at size (Cpus c) = Ok (record { words = []; stage = Header; at = at; size = size })
given names g at size (Plans p) = Ok (record { words = []; stage = g; at = at; size = size })
given names g at size (Begins v) =
    Ok (record { words = padding g size ++ v ∷ []; stage = InPage; at = v * 4096; size = 0 })
given names g at size (Holds c) =
    one_word g at size (word_of_cell names ((at + 4 * size + 4) % 2 ^ 32) c.number c.takes)
given names g at size (Zeros k) = Ok (record { words = replicate k 0; stage = g; at = at; size = size + k })
given names g at size (Names t) = Ok (record { words = []; stage = g; at = at; size = size })

-- some words in front
abbrev pub words_before : List ℕ → Result (List ℕ) LineFault → Result (List ℕ) LineFault
words_before ws (Ok vs) = Ok (ws ++ vs)
words_before ws (Err e) = Err e

-- lines of which the first has number n
abbrev pub second_pass : (List ℕ → Option ℕ) → Stage → ℕ → ℕ → ℕ → List (List ℕ) → Result (List ℕ) LineFault
second_pass names g at size n [] = Ok (padding g size)
second_pass names g at size n (l ∷ ls) = at_line n (and_then (statement g l) (given names g at size))
    (λ t. words_before t.words (second_pass names t.stage t.at t.size (n + 1) ls))

-- ---- the image

-- the plans of the interrupt lines as words of an image
abbrev pub plan_words : List Plan → List ℕ
plan_words [] = []
plan_words (p ∷ ps) = p.line ∷ p.first ∷ p.period ∷ plan_words ps

-- the words of an image's head: the counts, and the plans
abbrev pub head_words : AssemblyState → List ℕ
head_words s = s.frames ∷ s.cpus ∷ length s.plans ∷ length s.pages ∷ plan_words s.plans

-- words after the magic
abbrev pub as_image : List ℕ → Result (List ℕ) LineFault → Result (List ℕ) LineFault
as_image head (Ok ws) = Ok (magic ++ bytes_of (head ++ ws))
as_image head (Err e) = Err e

-- the image that a text is assembled to, as bytes, or the first fault
abbrev pub assembly : List ℕ → Result (List ℕ) LineFault
assembly text = and_then (first_pass first_state 1 (lines_of text))
    (λ s. as_image (head_words s) (second_pass s.names Start 0 0 1 (lines_of text)))
