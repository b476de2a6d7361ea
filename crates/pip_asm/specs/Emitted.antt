-- What was written of an image, and what it is when the names are known.
use Rattle.std.specs.Prelude.{◌≡◌, ℕ, ◌+◌, ◌≤◌, List, [], ◌∷◌, ◌++◌, length, take, drop, Option, Result, Ok, Err}
use Rattle.byteorder.specs.Endian.{little_bytes}
use Rattle.pip_base.specs.declared.types.Plan.{Plan}
use Rattle.pip_model.specs.declared.assembly.AsmKind.{AsmKind}
use Rattle.pip_model.specs.declared.assembly.Stage.{Stage}
use Rattle.pip_model.specs.declared.assembly.Stage.TheVariants.{Start, Framed, Header, InPage}
use Rattle.pip_model.specs.AsmLines.{Statement}
use Rattle.pip_model.specs.AsmWords.{Cell}
use Rattle.pip_model.specs.Assembly.{LineFault, at_line, and_then, given, plan_words, word_of_cell}
use Rattle.pip_model.specs.Images.{bytes_of, magic}
use Rattle.pip_asm.specs.Seen.{HasRoomFor, use_seen}
use Rattle.pip_asm.specs.declared.emit.Note.{Note}
use Rattle.pip_asm.specs.declared.emit.Written.{Written}

-- a word in place of four bytes
abbrev pub put : List ℕ → ℕ → ℕ → List ℕ
put bs place w = take place bs ++ (little_bytes 4 w ++ drop (place + 4) bs)

-- the words that take from names, in their places
abbrev pub fill_in : (List ℕ → Option ℕ) → List Note → List ℕ → Result (List ℕ) LineFault
fill_in names [] bs = Ok bs
fill_in names (n ∷ ns) bs = at_line n.line (word_of_cell names n.next n.cell.number (use_seen n.cell.takes))
    (λ w. fill_in names ns (put bs n.place w))

-- the bytes of the pages
abbrev pub pages_of : Written → List ℕ
pages_of w = drop w.head w.bytes.items

-- what they are by these names
abbrev pub said : (List ℕ → Option ℕ) → Written → Result (List ℕ) LineFault
said names w = fill_in names w.notes.items (pages_of w)

-- the words are within that many bytes
abbrev pub AreNotes : ℕ → List Note → Type 0
AreNotes size [] = Unit {0}
AreNotes size (n ∷ ns) = (n.place + 4 ≤ size) × HasRoomFor n.cell.number n.cell.takes × AreNotes size ns

-- the head is within the bytes, and the words that take from names are within those of the pages
pub record IsInBounds (w : Written) : Type 0 where
  pub head : w.head ≤ length w.bytes.items
  pub notes : AreNotes (length (pages_of w)) w.notes.items

-- nothing was written
pub record IsEmpty (w : Written) : Type 0 where
  pub bytes : w.bytes.items ≡ []
  pub head : w.head ≡ 0
  pub notes : w.notes.items ≡ []

-- what the names make of the bytes, and more after it
abbrev pub SaysMore : Written → ((List ℕ → Option ℕ) → Result (List ℕ) LineFault) → Written → Type 0
SaysMore s more t = (names : List ℕ → Option ℕ)
    → said names t ≡ and_then (said names s) (λ bs. and_then (more names) (λ ms. Ok (bs ++ ms)))

-- bytes more after those before
pub record Adds (s : Written) (more : (List ℕ → Option ℕ) → Result (List ℕ) LineFault) (t : Written) : Type 0 where
  pub whole : IsInBounds t
  pub front : take t.head t.bytes.items ≡ take s.head s.bytes.items
  pub says : SaysMore s more t

-- words that take nothing
abbrev pub words : List ℕ → (List ℕ → Option ℕ) → Result (List ℕ) LineFault
words ws names = Ok (bytes_of ws)

-- the word of a cell
abbrev pub cell_word : ℕ → Result ℕ AsmKind → Result (List ℕ) LineFault
cell_word n r = at_line n r (λ w. Ok (bytes_of (w ∷ [])))

-- by these names, where the next instruction would stand at `next`
abbrev pub cell_words : ℕ → ℕ → Cell → (List ℕ → Option ℕ) → Result (List ℕ) LineFault
cell_words n next c names = cell_word n (word_of_cell names next c.number c.takes)

-- what a line says
abbrev pub line_words : ℕ → Stage → ℕ → ℕ → Statement → (List ℕ → Option ℕ) → Result (List ℕ) LineFault
line_words n g at size st names = at_line n (given names g at size st) (λ g. Ok (bytes_of g.words))

-- the head before the pages are counted
abbrev pub first_head : ℕ → ℕ → List Plan → List ℕ
first_head frames cpus plans = magic ++ bytes_of (frames ∷ cpus ∷ length plans ∷ 0 ∷ plan_words plans)

-- nothing is written before the first page, and then the head stands in front
abbrev pub StartsWith : Stage → List ℕ → Written → Type 0
StartsWith Start front w = IsEmpty w
StartsWith Framed front w = IsEmpty w
StartsWith Header front w = IsEmpty w
StartsWith InPage front w = take w.head w.bytes.items ≡ front

-- words as bytes after other bytes
abbrev pub prefix : List ℕ → Result (List ℕ) LineFault → Result (List ℕ) LineFault
prefix bs (Ok ws) = Ok (bs ++ bytes_of ws)
prefix bs (Err e) = Err e
