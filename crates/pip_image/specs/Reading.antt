-- What a reader of an image has still to read, and what its calls take from the source.
use Rattle.std.specs.Prelude.{◌≡◌, ℕ, ◌<◌, ◌⊎◌, Bool, cond, List, [], ◌∷◌, ◌++◌, length, Option, Some, None}
use Rattle.std.specs.Io.KnownBytes.{Consumes, IsAtEnd}
use Rattle.pip_io.specs.Causes.{RoseByOne}
use Rattle.pip_model.specs.declared.image.ImageError.{ImageError}
use Rattle.pip_model.specs.declared.image.ImageError.TheVariants as F
use Rattle.pip_model.specs.Images.{Part, Head, Line, Holds, PartsRead, part_before}

-- parts, and then what is told after them
abbrev pub parts_then : List Part → PartsRead → PartsRead
parts_then [] t = t
parts_then (p ∷ ps) t = part_before p (parts_then ps t)

-- no part more: the end of the image, or a fault
abbrev pub no_more_parts : PartsRead
no_more_parts = record { parts = []; fault = None }

-- no part, and this fault
abbrev pub only_fault : ImageError → PartsRead
only_fault e = record { parts = []; fault = Some e }

-- Bytes that were `tell` are these parts, and then what `tell'` is of the bytes after them, whatever stands there
pub record TakesParts (tell tell' : List ℕ → PartsRead) (parts : List Part) (left left' : Option (List ℕ)) : Type 0
  where
    pub bytes : List ℕ
    pub taken : Consumes left left' bytes
    pub is : (rest : List ℕ) → tell (bytes ++ rest) ≡ parts_then parts (tell' rest)

-- The image ends here, and so does the input
pub record EndsInput (tell : List ℕ → PartsRead) (left left' : Option (List ℕ)) : Type 0 where
  pub taken : Consumes left left' []
  pub over : IsAtEnd left'
  pub is : tell [] ≡ no_more_parts

-- a fault of the image itself, and not that the input goes on after it
abbrev pub IsFaultWithin : ImageError → Type 0
IsFaultWithin (F.Long at) = ⊥
IsFaultWithin e = Unit {0}

-- no fault but the end of the bytes
abbrev pub EndsAtMost : Option ImageError → Type 0
EndsAtMost None = Unit {0}
EndsAtMost (Some (F.Short at)) = Unit {0}
EndsAtMost (Some e) = ⊥

-- of a failed read the first, of any other fault the second
abbrev pub by_read : ImageError → Type 0 → Type 0 → Type 0
by_read F.Read a b = a
by_read e a b = b

-- a read failed: the count of faults is one more, and the bytes read before are these parts and have no fault but that
-- they end
pub record IsCut (tell : List ℕ → PartsRead) (parts : List Part) (bytes : List ℕ) (before now : ℕ) : Type 0 where
  pub rose : RoseByOne before now
  pub whole : (tell bytes).parts ≡ parts
  pub fault : EndsAtMost (tell bytes).fault

-- the fault after the parts, whatever follows the bytes, or where the input ends with them
abbrev pub IsFault : (List ℕ → PartsRead) → List Part → List ℕ → Option (List ℕ) → ImageError → Type 0
IsFault tell parts bytes left' e = ((rest : List ℕ) → tell (bytes ++ rest) ≡ parts_then parts (only_fault e))
    ⊎ ((tell bytes ≡ parts_then parts (only_fault e)) × IsAtEnd left')

-- After these parts comes this fault. Where it is in the bytes, no read failed
pub record Refuses (tell : List ℕ → PartsRead) (parts : List Part) (left left' : Option (List ℕ))
    (before now : ℕ) (e : ImageError) : Type 0 where
  pub bytes : List ℕ
  pub taken : Consumes left left' bytes
  pub why : by_read e (IsCut tell parts bytes before now) (IsFault tell parts bytes left' e × (now ≡ before))

-- After some parts comes this fault
abbrev pub RefusesAfter : (List ℕ → PartsRead) → Option (List ℕ) → Option (List ℕ) → ℕ → ℕ → ImageError → Type 0
RefusesAfter tell left left' before now e = (parts : List Part) × Refuses tell parts left left' before now e

-- these parts aren't the fields and all plans
abbrev pub LacksHeader : List Part → Type 0
LacksHeader [] = Unit {0}
LacksHeader (Head f ∷ ps) = length ps < f.plans
LacksHeader (Line p ∷ ps) = ⊥
LacksHeader (Holds p ∷ ps) = ⊥

-- the fault stands in the header
abbrev pub RefusesHeader : (List ℕ → PartsRead) → Option (List ℕ) → Option (List ℕ) → ℕ → ℕ → ImageError → Type 0
RefusesHeader tell left left' before now e =
    (parts : List Part) × Refuses tell parts left left' before now e × LacksHeader parts

-- what is answered for bytes that have this fault, where a read may have failed after them
abbrev pub fault_of : ImageError → Bool → ImageError
fault_of (F.Short at) failed = cond failed F.Read (F.Short at)
fault_of e failed = e
