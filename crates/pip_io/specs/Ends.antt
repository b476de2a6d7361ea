-- How a driven transducer ends, by what is due: what was read of the source and written to the sink, from a to b.
use Rattle.std.specs.Prelude.{◌≡◌, ◌≢◌, ◌⊎◌, ℕ, Bool, true, List, [], ◌++◌, Option, Result, Ok, Err}
use Rattle.std.specs.Io.KnownBytes.{Consumes, IsAtEnd}
use Rattle.pip_io.specs.Causes.{RoseByOne}
use Rattle.pip_io.specs.Moments.{NoneFailed, Streams}
use Rattle.pip_io.specs.Taken.{Appends, SendsPart, SendsPast}
use Rattle.pip_io.specs.Due.{DueOf}
use Rattle.pip_io.specs.declared.driver.FailedStream.{FailedStream}
use Rattle.pip_io.specs.declared.driver.FailedStream.TheVariants.{Read, Write}

module _ {V : Type 0} (d : DueOf V) where
  -- these bytes were read, have no answer yet, and the text that is due for them is out
  pub record IsOut (a b : Streams) : Type 0 where
    pub bytes : List ℕ
    pub text : List ℕ
    pub read : Consumes a.left b.left bytes
    pub due : d.so_far bytes text
    pub wrote : Appends a.written b.written text
    pub out : b.written.buffered ≡ []
    pub writes : b.writes ≡ a.writes

  -- so, and no read failed
  pub record Waits (a b : Streams) : Type 0 where
    pub so_far : IsOut a b
    pub reads : b.reads ≡ a.reads

  -- reading is allowed wherever it waits
  abbrev pub MayWait : (Streams → Type 0) → Streams → Type 0
  MayWait allows a = (b : Streams) → Waits a b → allows b

  -- the bytes have this answer: they are enough, or all
  pub record IsAnswer (bytes front last : List ℕ) (left : Option (List ℕ)) (v : V) : Type 0 where
    pub is : d.answer bytes front last v
    pub decided : d.enough bytes v ⊎ IsAtEnd left

  -- an answer was written
  pub record EndsWith (a b : Streams) (v : V) : Type 0 where
    pub bytes : List ℕ
    pub front : List ℕ
    pub last : List ℕ
    pub read : Consumes a.left b.left bytes
    pub answer : IsAnswer bytes front last b.left v
    pub wrote : Appends a.written b.written (front ++ last)
    pub out : b.written.buffered ≡ []
    pub no_faults : NoneFailed a b

  -- a write failed: all of the front went out, and a part of the last, but not the whole
  pub record IsCutShort (loose : Bool) (a b : Streams) : Type 0 where
    pub bytes : List ℕ
    pub front : List ℕ
    pub last : List ℕ
    pub read : Consumes a.left b.left bytes
    pub due : ((v : V) × IsAnswer bytes front last b.left v) ⊎ d.midway bytes front last
    pub some : (last ≢ []) ⊎ (loose ≡ true)
    pub past : SendsPast a.written b.written front
    pub part : SendsPart a.written b.written (front ++ last)
    pub rose : RoseByOne a.writes b.writes
    pub reads : b.reads ≡ a.reads

  abbrev pub Ends : Bool → Result V FailedStream → Streams → Streams → Type 0
  Ends loose (Ok v) a b = EndsWith a b v
  Ends loose (Err Read) a b = IsOut a b × RoseByOne a.reads b.reads
  Ends loose (Err Write) a b = IsCutShort loose a b
