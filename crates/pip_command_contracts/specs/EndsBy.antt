-- How a command ends, by what is due of its input: what was read of the source and written to the sink, from a to b.
use Rattle.std.specs.Prelude.{◌≡◌, ◌≢◌, ℕ, ◌≤◌, ◌<◌, ◌⊎◌, Bool, true, List, [], ◌∷◌, ◌++◌, length, Option, Some, None}
use Rattle.std.specs.Io.KnownBytes.{Consumes, IsAtEnd}
use Rattle.pip_io.specs.Causes.{RoseByOne}
use Rattle.pip_io.specs.Taken.{Appends, Keeps, SendsPart, SendsPast}
use Rattle.pip_io.specs.Histories.{Writing}
use Rattle.pip_model.specs.Worlds.{World}
use Rattle.pip_switch.specs.Standing.{State}
use Rattle.pip_command_contracts.specs.Machines.{StandsIfAny}
use Rattle.pip_command_contracts.specs.Streams.{EndsLine, IsCalm, Streams}

-- what an input is answered with
pub record Response : Type 0 where
  -- the status, which is none of 3 to 6
  pub status : ℕ
  -- what of the text is out before the last of the input is read
  pub front : List ℕ
  -- and what is written then, if anything is
  pub last : Option (List ℕ)
  -- the world for which the machine stands that is handed back, if one is
  pub world : Option World

-- what is due of what a command reads
pub record Due : Type 1 where
  -- the answer to an input
  pub answer : (input : List ℕ) → Response → Type 0
  -- these bytes are enough to be answered, whatever follows them
  pub enough : (bytes : List ℕ) → Type 0
  -- these may be read before there is an answer; this text of theirs is written before more is
  pub so_far : (bytes text : List ℕ) → Type 0
  -- of these the last text is being written, and the front was out before the last of them was read
  pub midway : (bytes front last : List ℕ) → Type 0
  -- memory is asked for when these were read, and this is left
  pub asks : (bytes : List ℕ) → (left : Option (List ℕ)) → Type 0
  -- at most this many bytes are taken, if there is a limit
  pub limit : Option ℕ
  -- with this status nothing is read
  pub unread : (status : ℕ) → Bool

-- an answer that is written when all was read
abbrev pub plainly : ℕ → List ℕ → Option World → Response
plainly status text world = record { status = status; front = []; last = Some text; world = world }

-- the text, if there is one
abbrev pub or_nothing : Option (List ℕ) → List ℕ
or_nothing None = []
or_nothing (Some text) = text

-- no more bytes than a limit
abbrev pub IsWithin : Option ℕ → List ℕ → Type 0
IsWithin None bytes = Unit {0}
IsWithin (Some most) bytes = length bytes ≤ most

-- these bytes have this answer: they are enough, or all of the input
pub record IsAnswered (d : Due) (bytes : List ℕ) (v : Response) (left : Option (List ℕ)) : Type 0 where
  pub is : d.answer bytes v
  pub decided : d.enough bytes ⊎ (IsAtEnd left × IsWithin d.limit bytes)

-- the answer was written, and the status and the machine are the answer's
pub record GivesAnswer (d : Due) (bytes : List ℕ) (code : ℕ) (p : Option State) (a b : Streams) : Type 0 where
  pub answer : Response
  pub due : IsAnswered d bytes answer b.left
  pub status : code ≡ answer.status
  pub wrote : Appends a.written b.written (answer.front ++ or_nothing answer.last)
  pub machine : StandsIfAny p answer.world

-- there was no answer yet, and the text due so far was written
pub record IsSoFar (d : Due) (bytes : List ℕ) (a b : Streams) : Type 0 where
  pub text : List ℕ
  pub due : d.so_far bytes text
  pub limit : IsWithin d.limit bytes
  pub wrote : Appends a.written b.written text

-- the last of an answer, or of what has none yet
abbrev pub IsDueLast : Due → List ℕ → List ℕ → List ℕ → Option (List ℕ) → Type 0
IsDueLast d bytes front last left =
    ((v : Response) × IsAnswered d bytes v left × (v.front ≡ front) × (v.last ≡ Some last)) ⊎ d.midway bytes front last

-- all of the front went out, and a part of the last, but not the whole
pub record WritesPart (d : Due) (bytes : List ℕ) (a b : Streams) : Type 0 where
  pub front : List ℕ
  pub last : List ℕ
  pub due : IsDueLast d bytes front last b.left
  pub out : SendsPast a.written b.written front
  pub part : SendsPart a.written b.written (front ++ last)

-- one byte more than the limit was read
pub record PassesLimit (d : Due) (bytes : List ℕ) (a b : Streams) : Type 0 where
  pub first : List ℕ
  pub beyond : ℕ
  pub all : bytes ≡ first ++ beyond ∷ []
  pub limit : d.limit ≡ Some (length first)
  pub so_far : IsSoFar d first a b

-- a status of an answer is none of 3 to 6
abbrev pub IsOfAnswer : ℕ → Type 0
IsOfAnswer code = (code < 3) ⊎ (6 < code)

-- how the command ends
pub record EndsBy (d : Due) (code : ℕ) (p : Option State) (a b : Streams) : Type 0 where
  -- what was read
  pub bytes : List ℕ
  pub read : Consumes a.left b.left bytes
  -- with a status of an answer: it has this answer, which was written
  pub answered : IsOfAnswer code → GivesAnswer d bytes code p a b
  -- 3: a read failed before there was an answer
  pub read_fault : code ≡ 3 → IsSoFar d bytes a b × RoseByOne a.reads b.reads
  -- 4: a write failed
  pub write_fault : code ≡ 4 → WritesPart d bytes a b × RoseByOne a.writes b.writes
  -- 5: there was no memory, and nothing was written
  pub memory : code ≡ 5 → d.asks bytes b.left × Keeps a.written b.written
  -- 6: the limit was passed before there was an answer
  pub limit : code ≡ 6 → PassesLimit d bytes a b
  -- at 3 to 6 no machine is handed back
  pub none : 3 ≤ code → code ≤ 6 → p ≡ None
  -- no read failed but at 3, no write but at 4, and but at 4 all that was written is out
  pub no_faults : IsCalm code a b
  pub flushed : code ≢ 4 → b.written.buffered ≡ []
  -- what reads nothing leaves the source alone
  pub unread : d.unread code ≡ true → (b.left ≡ a.left) × (b.reads ≡ a.reads)

-- of a sink alone: the last of an answer was written, with its status, or a part of it, where a write failed
abbrev pub EndsWithResponse : Response → ℕ → Writing → Writing → Type 0
EndsWithResponse v code before after = EndsLine v.status (or_nothing v.last) code before after
