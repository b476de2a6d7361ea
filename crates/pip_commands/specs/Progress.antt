-- How far a script was run. What is still to come is what is held, and then what is left.
use Rattle.std.specs.Prelude.{◌≡◌, ◌≢◌, ℕ, ◌+◌, ◌≤◌, ◌⊎◌, List, [], ◌∷◌, ◌++◌, length, Option, None, Some, Result, Ok}
use Rattle.std.specs.Prelude.{Err, codes, decimal}
use Rattle.std.specs.Io.KnownBytes as IO
use Rattle.std.specs.Io.KnownBytes.{Consumes, IsAtEnd, prepend_known}
use Rattle.pip_audit.specs.CoreRead.{AreWholeLines}
use Rattle.pip_script.specs.Held.{Held}
use Rattle.pip_script.specs.Lines.{HasNoNewline, HoldsLine, HoldsPart, still}
use Rattle.pip_script.specs.declared.input.LineEnd.TheVariants.{Newline}
use Rattle.pip_io.specs.Causes.{RoseByOne}
use Rattle.pip_io.specs.Moments.{NoneFailed}
use Rattle.pip_io.specs.Taken.{Appends, AppendsPart, Keeps, SendsPart}
use Rattle.pip_io.specs.Histories.{Writing}
use Rattle.pip_model.specs.Grammar.{lines_of}
use Rattle.pip_model.specs.Text.{Transcript, finished, bad_at, text_before, line_text, transcript_from}
use Rattle.pip_model.specs.Worlds.{World}
use Rattle.pip_switch.specs.Standing.{State}
use Rattle.pip_command_contracts.specs.Machines.{StandsIfAny}
use Rattle.pip_commands.specs.Runs.{Boots}
use Rattle.pip_commands.specs.Dues.{IsJudged, max_input}
use Rattle.pip_command_contracts.specs.Streams.{IsCalm, Streams}
use Rattle.pip_commands.specs.declared.commands.script.line.ScriptLineError.{ScriptLineError}
use Rattle.pip_commands.specs.declared.commands.script.line.ScriptLineError.TheVariants.{Bad, Write, Memory}
use Rattle.pip_commands.specs.declared.commands.script.turn.End.{End}
use Rattle.pip_commands.specs.declared.commands.script.turn.End.TheVariants.{Finished, BadLine, ReadFault, WriteFault}
use Rattle.pip_commands.specs.declared.commands.script.turn.End.TheVariants.{NoMemory, Limit}

-- the status of an end
abbrev pub status_of : End → ℕ
status_of Finished = 0
status_of BadLine = 2
status_of ReadFault = 3
status_of WriteFault = 4
status_of NoMemory = 5
status_of Limit = 6

-- the bytes that come next: those that are held, and those that the source has left
abbrev pub bytes_coming : Held → Streams → Option (List ℕ)
bytes_coming i a = prepend_known i.bytes a.left

-- Whole lines were run: from world v at line n to world v' at line n', with this text. Whatever follows the
-- lines is told from there. As long as there is no world there is no text
pub record Goes (v : Option World) (n : ℕ) (lines text : List ℕ) (v' : Option World) (n' : ℕ) : Type 0 where
  pub told : (rest : List ℕ)
      → transcript_from v n (lines_of (lines ++ rest)) ≡ text_before text (transcript_from v' n' (lines_of rest))
  pub fresh : v' ≡ None → (v ≡ None) × (text ≡ [])

-- A script has come to line n: all the lines before it were run
pub record HasRun (a b : Streams) (i : Held) (machine : Option State) (n : ℕ) : Type 0 where
  pub lines : List ℕ
  pub text : List ℕ
  pub world : Option World
  pub taken : Consumes a.left (bytes_coming i b) lines
  pub count : max_input ≡ still i + length lines
  pub whole : AreWholeLines lines
  pub goes : Goes None 1 lines text world n
  pub wrote : Appends a.written b.written text
  pub stands : StandsIfAny machine world
  pub number : n ≤ length lines + 1
  pub no_faults : NoneFailed a b

-- ---- One turn, from world v at line n: i is held before and j after, and the streams go from a to b

-- one whole line was run
pub record RanWholeLine (v : Option World) (n : ℕ) (i j : Held) (a b : Streams) (machine : Option State) : Type 0 where
  pub line : List ℕ
  pub text : List ℕ
  pub world : Option World
  pub taken : Consumes (bytes_coming i a) (bytes_coming j b) (line ++ 10 ∷ [])
  pub count : still i ≡ still j + length (line ++ 10 ∷ [])
  pub goes : Goes v n (line ++ 10 ∷ []) text world (n + 1)
  pub wrote : Appends a.written b.written text
  pub stands : StandsIfAny machine world

-- bytes were taken, and more may have been read
pub record TakesLast (i : Held) (a b : Streams) (bytes beyond : List ℕ) : Type 0 where
  pub read : Consumes (bytes_coming i a) b.left (bytes ++ beyond)
  pub few : length bytes ≤ still i

-- the input has ended, and all of it was run
pub record HasFinished (v : Option World) (n : ℕ) (i : Held) (a b : Streams) (machine : Option State) : Type 0 where
  pub bytes : List ℕ
  pub text : List ℕ
  pub world : Option World
  pub takes : TakesLast i a b bytes []
  pub whole : IsAtEnd b.left
  pub told : transcript_from v n (lines_of bytes) ≡ record { text = text; ending = finished; world = world }
  pub wrote : Appends a.written b.written text
  pub stands : StandsIfAny machine world

-- the script ends in this line
pub record EndsHere (v : Option World) (n : ℕ) (i : Held) (a b : Streams) : Type 0 where
  pub bytes : List ℕ
  pub beyond : List ℕ
  pub end : Transcript
  pub bad : end.ending ≡ bad_at n
  pub takes : TakesLast i a b bytes beyond
  pub told : (IsJudged bytes × ((rest : List ℕ) → transcript_from v n (lines_of (bytes ++ rest)) ≡ end))
      ⊎ ((transcript_from v n (lines_of bytes) ≡ end) × (beyond ≡ []) × IsAtEnd b.left)
  pub wrote : Appends a.written b.written end.text

-- a read failed in this line
pub record IsUnread (i : Held) (a b : Streams) : Type 0 where
  pub rest : List ℕ
  pub takes : TakesLast i a b rest []
  pub plain : HasNoNewline rest
  pub short : length rest ≤ 120
  pub wrote : Keeps a.written b.written
  pub rose : RoseByOne a.reads b.reads

-- no line is cut: the last can be judged, or the input ends with it
abbrev pub IsUncut : List ℕ → List ℕ → Option (List ℕ) → Type 0
IsUncut bytes beyond left = IsJudged bytes ⊎ ((beyond ≡ []) × IsAtEnd left)

-- a write failed at this line, or before it was taken
pub record IsUnwritten (v : Option World) (n : ℕ) (i : Held) (a b : Streams) : Type 0 where
  pub bytes : List ℕ
  pub beyond : List ℕ
  pub takes : TakesLast i a b bytes beyond
  pub uncut : IsUncut bytes beyond b.left
  pub wrote : SendsPart a.written b.written (transcript_from v n (lines_of bytes)).text
  pub rose : RoseByOne a.writes b.writes

-- there was no memory at the boot line
pub record LacksMemoryToBoot (v : Option World) (i : Held) (a b : Streams) : Type 0 where
  pub line : List ℕ
  pub newline : List ℕ
  pub beyond : List ℕ
  pub takes : TakesLast i a b (line ++ newline) beyond
  pub ended : (newline ≡ 10 ∷ []) ⊎ ((newline ≡ []) × (beyond ≡ []) × IsAtEnd b.left)
  pub first : v ≡ None
  pub boots : Boots line
  pub wrote : Keeps a.written b.written

-- the limit stands in this line
pub record Overruns (i : Held) (a b : Streams) : Type 0 where
  pub bytes : List ℕ
  pub last : ℕ
  pub takes : TakesLast i a b bytes (last ∷ [])
  pub limit : length bytes ≡ still i
  pub plain : HasNoNewline bytes
  pub short : length bytes ≤ 120
  pub wrote : Keeps a.written b.written

-- why a turn ended, and what that means for its input, its text and its machine
abbrev pub EndsTurn : End → Option World → ℕ → Held → Streams → Streams → Option State → Type 0
EndsTurn Finished v n i a b machine = HasFinished v n i a b machine
EndsTurn BadLine v n i a b machine = EndsHere v n i a b
EndsTurn ReadFault v n i a b machine = IsUnread i a b
EndsTurn WriteFault v n i a b machine = IsUnwritten v n i a b
EndsTurn NoMemory v n i a b machine = LacksMemoryToBoot v i a b
EndsTurn Limit v n i a b machine = Overruns i a b

-- what a turn does: where it has no end the script goes on
abbrev pub TurnDoes : Option End → Option State → Option State → ℕ → Held → Held → Streams → Streams → Type 0
TurnDoes None machine machine' n i j a b =
    NoneFailed a b × ((v : Option World) → StandsIfAny machine v → RanWholeLine v n i j a b machine')
TurnDoes (Some e) machine machine' n i j a b =
    IsCalm (status_of e) a b × ((v : Option World) → StandsIfAny machine v → EndsTurn e v n i a b machine')

-- the line that names a bad line, or a part of it; nothing else is written at the end
abbrev pub Names : ScriptLineError → ℕ → End → Writing → Writing → Type 0
Names Bad n BadLine before after =
    Appends before.written after.written (line_text (codes "bad line " ++ decimal n))
Names Bad n WriteFault before after =
    AppendsPart before.written after.written (line_text (codes "bad line " ++ decimal n))
    × RoseByOne before.faults after.faults
Names Write n WriteFault before after = Keeps before.written after.written × (after.faults ≡ before.faults)
Names Memory n NoMemory before after = Keeps before.written after.written
Names _ _ _ _ _ = ⊥

-- a line of that many bytes and its newline stand at the head, and nothing was done yet
pub record HasLine (count : ℕ) (machine machine' : Option State) (i j : Held) (a b : Streams) : Type 0 where
  pub holds : HoldsLine (still i) j b.left (Newline count)
  pub kept : IO.Keeps (bytes_coming i a) (bytes_coming j b)
  pub taken : Keeps a.written b.written
  pub no_faults : NoneFailed a b
  pub same : machine' ≡ machine

-- such a line comes, or the turn ends the script
abbrev pub LineComes : Result ℕ End → Option State → Option State → ℕ → Held → Held → Streams → Streams → Type 0
LineComes (Ok count) machine machine' n i j a b = HasLine count machine machine' i j a b
LineComes (Err e) machine machine' n i j a b = TurnDoes (Some e) machine machine' n i j a b

-- why it isn't known what stands at the head of the input: a read failed, and nothing was held; or what was held could
-- not be written. Nothing was taken to be written. i was held of the input before, and j is held now
abbrev pub HasNoLine : End → Held → Held → Streams → Streams → Type 0
HasNoLine ReadFault i j a b =
    HoldsPart (still i) j × (b.writes ≡ a.writes) × RoseByOne a.reads b.reads × (b.written.buffered ≡ [])
HasNoLine WriteFault i j a b =
    (j ≡ i) × (b.left ≡ a.left) × (b.reads ≡ a.reads) × (b.written.buffered ≢ []) × RoseByOne a.writes b.writes
HasNoLine _ _ _ _ _ = ⊥

-- what became of what was held at an end: after a failed read or write nothing was tried; else it was written, or a
-- part of it
abbrev pub StaysSo : End → End → Writing → Writing → Type 0
StaysSo end end' before after =
    (end' ≡ end) × (after.written ≡ before.written) × (after.faults ≡ before.faults)

-- what is held was written and nothing else changed, or its writing failed and the end says that
abbrev pub IsSettled : End → End → Writing → Writing → Type 0
IsSettled end end' before after =
    Keeps before.written after.written
    × (((end' ≡ end) × (after.written.buffered ≡ []) × (after.faults ≡ before.faults))
    ⊎ ((end' ≡ WriteFault) × (after.written.buffered ≢ []) × RoseByOne before.faults after.faults))

-- after a fault nothing more is written; any other end is flushed
abbrev pub Settles : End → End → Writing → Writing → Type 0
Settles ReadFault end' before after = StaysSo ReadFault end' before after
Settles WriteFault end' before after = StaysSo WriteFault end' before after
Settles end end' before after = IsSettled end end' before after
