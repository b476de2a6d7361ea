-- What reading lines of any length takes from a source: what is held and what the source has left are together what
-- comes.
use Rattle.std.specs.Prelude.{◌≡◌, ◌≢◌, ℕ, Bool, true, false, List, [], ◌∷◌, ◌++◌, length, Option}
use Rattle.std.specs.Io.KnownBytes.{Consumes, IsAtEnd, prepend_known}
use Rattle.pip_script.specs.Lines.{HasNoNewline}
use Rattle.pip_io.specs.Causes.{RoseByOne}
use Rattle.pip_certificates.specs.declared.commands.merge.line_reader.LineKind.{LineKind}
use Rattle.pip_certificates.specs.declared.commands.merge.line_reader.LineKind.TheVariants.{Whole, Last, End}
use Rattle.pip_certificates.specs.declared.commands.merge.line_reader.LineStop.{LineStop}
use Rattle.pip_certificates.specs.declared.commands.merge.line_reader.LineStop.TheVariants.{Unread, Memory}

-- with what is held, these bytes are no line yet
abbrev pub IsUnended : List ℕ → List ℕ → Type 0
IsUnended held bytes = HasNoNewline (held ++ bytes)

-- what is held was added to a line up to a newline, and this was taken, too; or all of it, since it has none
abbrev pub TakesHeld : List ℕ → List ℕ → List ℕ → List ℕ → Bool → Type 0
TakesHeld held held' line line' true = (front : List ℕ) × HasNoNewline front × (held ≡ (front ++ 10 ∷ []) ++ held')
    × (line' ≡ line ++ front)
TakesHeld held held' line line' false = HasNoNewline held × (held' ≡ []) × (line' ≡ line ++ held)

-- that many bytes were read, and are held; none only at the end of the input
pub record ReadsAfter (count : ℕ) (held : List ℕ) (left left' : Option (List ℕ)) : Type 0 where
  pub read : Consumes left left' held
  pub size : length held ≡ count
  pub ended : count ≡ 0 → IsAtEnd left'

-- what was taken of what comes: a line and its newline; or a line that isn't empty, with which the input ends; or
-- nothing, since it has ended
abbrev pub TakesNextLine : List ℕ → List ℕ → List ℕ → Option (List ℕ) → Option (List ℕ) → LineKind → Type 0
TakesNextLine held held' line left left' Whole =
    HasNoNewline line × Consumes (prepend_known held left) (prepend_known held' left') (line ++ 10 ∷ [])
TakesNextLine held held' line left left' Last =
    HasNoNewline line × Consumes (prepend_known held left) left' line × IsAtEnd left' × (line ≢ [])
TakesNextLine held held' line left left' End = Consumes (prepend_known held left) left' [] × IsAtEnd left'

-- why no line was taken: a read failed before its end came, or there was no memory. The numbers count failed reads
abbrev pub StopsLine : List ℕ → Option (List ℕ) → Option (List ℕ) → ℕ → ℕ → LineStop → Type 0
StopsLine held left left' before now Unread =
    ((bytes : List ℕ) × Consumes left left' bytes × HasNoNewline (held ++ bytes)) × RoseByOne before now
StopsLine held left left' before now Memory = ((bytes : List ℕ) × Consumes left left' bytes) × (now ≡ before)
