-- What reading a whole source takes from it, up to the limit of an input.
use Rattle.std.specs.Prelude.{◌≡◌, ℕ, ◌^◌, ◌≤◌, List, [], ◌∷◌, ◌++◌, length, Option}
use Rattle.std.specs.Io.KnownBytes.{Consumes, IsAtEnd}
use Rattle.pip_io.specs.Causes.{RoseByOne}
use Rattle.pip_script.specs.declared.whole.ReadError.{ReadError}
use Rattle.pip_script.specs.declared.whole.ReadError.TheVariants.{Failed, Memory, Limit}

-- no more bytes than an input may have
abbrev pub IsWithinLimit : List ℕ → Type 0
IsWithinLimit bytes = length bytes ≤ 2 ^ 24

-- these bytes were taken, and no more than the limit
pub record TakesPart (bytes : List ℕ) (left left' : Option (List ℕ)) : Type 0 where
  pub read : Consumes left left' bytes
  pub limit : IsWithinLimit bytes

-- these bytes were all that the source had
pub record TakesWhole (bytes : List ℕ) (left left' : Option (List ℕ)) : Type 0 where
  pub read : Consumes left left' bytes
  pub limit : IsWithinLimit bytes
  pub whole : IsAtEnd left'

-- as many as the limit were taken, and one more
pub record TakesMore (left left' : Option (List ℕ)) : Type 0 where
  pub bytes : List ℕ
  pub last : ℕ
  pub read : Consumes left left' (bytes ++ last ∷ [])
  pub limit : length bytes ≡ 2 ^ 24

-- why not all was read; the last two are counts of faults
abbrev pub StopsReading : Option (List ℕ) → Option (List ℕ) → ℕ → ℕ → ReadError → Type 0
StopsReading left left' before now Failed = ((bytes : List ℕ) × TakesPart bytes left left') × RoseByOne before now
StopsReading left left' before now Memory = (bytes : List ℕ) × TakesPart bytes left left'
StopsReading left left' before now Limit = TakesMore left left'
