-- What reading a part takes from its source.
use Rattle.std.specs.Prelude.{◌≡◌, ℕ, ◌+◌, ◌<◌, ◌≤◌, ◌⊎◌, ⊤, List, ◌++◌, length, take, Option, Result, Ok, Err}
use Rattle.std.specs.Io.KnownBytes.{Consumes, IsAtEnd}
use Rattle.pip_io.specs.Causes.{RoseByOne}
use Rattle.pip_certificates.specs.PartText.{PartSaid, marks_from}
use Rattle.pip_certificates.specs.declared.faults.PartFault.{PartFault}
use Rattle.pip_certificates.specs.declared.faults.PartKind.TheVariants as K
use Rattle.pip_certificates.specs.declared.faults.PartStop.{PartStop}
use Rattle.pip_certificates.specs.declared.faults.PartStop.TheVariants as T
use Rattle.pip_certificates.specs.declared.reading.ReadPart.{ReadPart}

-- what a part says that was read
abbrev pub part_seen : ReadPart → PartSaid
part_seen p = record { base = p.base.items; way = p.way.items; marks = p.marks.items }

-- no fault but that the bytes end too early
abbrev pub IsOpenText : Result PartSaid PartFault → Type 0
IsOpenText (Ok p) = ⊤
IsOpenText (Err fault) = fault.kind ≡ K.Short

-- bytes without a fault, by what is said of them, but that they end
abbrev pub HasNoFault : (List ℕ → Result PartSaid PartFault) → List ℕ → Type 0
HasNoFault tell bytes = IsOpenText (tell bytes)

-- a buffer was filled from a source as far as n, and the source has ended where it isn't full
pub record FillsFront (n : ℕ) (buf : List ℕ) (left left' : Option (List ℕ)) : Type 0 where
  pub count : n ≤ length buf
  pub taken : Consumes left left' (take n buf)
  pub ended : n < length buf → IsAtEnd left'

-- fewer than n bytes were taken
pub record TakesFewer (n : ℕ) (left left' : Option (List ℕ)) : Type 0 where
  pub bytes : List ℕ
  pub taken : Consumes left left' bytes
  pub few : length bytes < n

-- the input has ended before n bytes came from an offset on, or a read failed. The numbers count failed reads
abbrev pub StopsFront : ℕ → ℕ → Option (List ℕ) → Option (List ℕ) → ℕ → ℕ → PartStop → Type 0
StopsFront n at left left' before now (T.Bad fault) =
    (t : TakesFewer n left left') × (fault ≡ record { kind = K.Short; at = at + length t.bytes }) × IsAtEnd left'
    × (now ≡ before)
StopsFront n at left left' before now T.Unread = TakesFewer n left left' × RoseByOne before now
StopsFront n at left left' before now T.Memory = ⊥

-- bytes of which `tell` says what `tell'` says of those after them, whatever these are
pub record TakesText (tell tell' : List ℕ → Result PartSaid PartFault) (left left' : Option (List ℕ)) : Type 0 where
  pub bytes : List ℕ
  pub taken : Consumes left left' bytes
  pub is : (rest : List ℕ) → tell (bytes ++ rest) ≡ tell' rest

-- all that was left is a part that says this
pub record EndsText (tell : List ℕ → Result PartSaid PartFault) (left left' : Option (List ℕ)) (said : PartSaid)
    : Type 0 where
  pub bytes : List ℕ
  pub taken : Consumes left left' bytes
  pub ended : IsAtEnd left'
  pub is : tell bytes ≡ Ok said

-- the fault of these bytes, whatever follows them, or where the input ends with them
abbrev pub IsTextFault : (List ℕ → Result PartSaid PartFault) → List ℕ → Option (List ℕ) → PartFault → Type 0
IsTextFault tell bytes left' fault = ((rest : List ℕ) → tell (bytes ++ rest) ≡ Err fault)
    ⊎ ((tell bytes ≡ Err fault) × IsAtEnd left')

-- bytes with this fault were taken
pub record TakesFault (tell : List ℕ → Result PartSaid PartFault) (left left' : Option (List ℕ)) (fault : PartFault)
    : Type 0 where
  pub bytes : List ℕ
  pub taken : Consumes left left' bytes
  pub is : IsTextFault tell bytes left' fault

-- bytes were taken without a fault, but that they end
pub record TakesOpen (tell : List ℕ → Result PartSaid PartFault) (left left' : Option (List ℕ)) : Type 0 where
  pub bytes : List ℕ
  pub taken : Consumes left left' bytes
  pub is : HasNoFault tell bytes

-- why no part was read. The numbers count failed reads
abbrev pub StopsText : (List ℕ → Result PartSaid PartFault) → Option (List ℕ) → Option (List ℕ) → ℕ → ℕ → PartStop
    → Type 0
StopsText tell left left' before now (T.Bad fault) = TakesFault tell left left' fault × (now ≡ before)
StopsText tell left left' before now T.Unread = TakesOpen tell left left' × RoseByOne before now
StopsText tell left left' before now T.Memory = ((bytes : List ℕ) × Consumes left left' bytes) × (now ≡ before)

-- why the marks of these bytes weren't added: there was no memory, or their fault comes, whatever follows them
abbrev pub IsMarksStop : PartSaid → ℕ → ℕ → List ℕ → PartStop → Type 0
IsMarksStop p left at bytes (T.Bad fault) = (rest : List ℕ) → marks_from p left at (bytes ++ rest) ≡ Err fault
IsMarksStop p left at bytes T.Unread = ⊥
IsMarksStop p left at bytes T.Memory = ⊤
