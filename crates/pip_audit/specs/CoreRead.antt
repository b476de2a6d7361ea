-- What reading the text of a raw memory tells, and takes from its source.
use Rattle.std.specs.Prelude.{◌≡◌, ℕ, ◌≤◌, ◌⊎◌, List, [], ◌∷◌, ◌++◌, length, Option}
use Rattle.std.specs.Io.KnownBytes.{Consumes, IsAtEnd}
use Rattle.pip_script.specs.Lines.{HasNoNewline}
use Rattle.pip_io.specs.Causes.{RoseByOne}
use Rattle.pip_base.specs.Memory.{Memory}
use Rattle.pip_audit.specs.declared.core_text.place.LastNamed.{LastNamed}
use Rattle.pip_audit.specs.declared.core_text.place.LineEffect.{LineEffect}
use Rattle.pip_audit.specs.declared.core_text.place.LineEffect.TheVariants as S
use Rattle.pip_audit.specs.declared.core_text.text.CoreError.{CoreError}
use Rattle.pip_audit.specs.declared.core_text.text.CoreError.TheVariants.{Line, Read}
use Rattle.pip_audit.specs.Core.{Bad, BadAt, CoreState, CoreStep, Ends, Goes, Whole, core_text}

-- a place with the words read so far
abbrev pub state_at : LastNamed → Memory → CoreState
state_at p m = record { frame = p.frame; group = p.group; memory = m }

-- what a step of the program is, over this memory
abbrev pub step_seen : LineEffect → Memory → CoreStep
step_seen S.Bad m = Bad
step_seen (S.Goes p) m = Goes (state_at p m)
step_seen S.Ends m = Ends m

-- all that the source had was taken, and it is the text of this memory of n frames
pub record IsText (n : ℕ) (left left' : Option (List ℕ)) (m : Memory) : Type 0 where
  pub bytes : List ℕ
  pub taken : Consumes left left' bytes
  pub ended : IsAtEnd left'
  pub text : core_text n bytes ≡ Whole m

-- line k of these bytes is the first bad one, whatever follows the bytes, or where the input ends with them
abbrev pub IsBadLineOf : ℕ → List ℕ → Option (List ℕ) → ℕ → Type 0
IsBadLineOf n bytes left' k =
    ((rest : List ℕ) → core_text n (bytes ++ rest) ≡ BadAt k) ⊎ ((core_text n bytes ≡ BadAt k) × IsAtEnd left')

-- bytes were taken that have this fault
pub record IsBadText (n : ℕ) (left left' : Option (List ℕ)) (k : ℕ) : Type 0 where
  pub bytes : List ℕ
  pub taken : Consumes left left' bytes
  pub fault : IsBadLineOf n bytes left' k

-- whole lines: none, or the last one has its newline
abbrev pub AreWholeLines : List ℕ → Type 0
AreWholeLines bytes = (bytes ≡ []) ⊎ ((front : List ℕ) × (bytes ≡ front ++ 10 ∷ []))

-- some text that is read begins with the whole lines of these bytes, and what follows these is no line yet, and not too
-- long for one
pub record BeginsLines (n : ℕ) (bytes : List ℕ) : Type 0 where
  pub lines : List ℕ
  pub part : List ℕ
  pub all : bytes ≡ lines ++ part
  pub whole : AreWholeLines lines
  pub plain : HasNoNewline part
  pub short : length part ≤ 120
  pub good : (more : List ℕ) × (m : Memory) × (core_text n (lines ++ more) ≡ Whole m)

-- such bytes were taken
pub record BeginsText (n : ℕ) (left left' : Option (List ℕ)) : Type 0 where
  pub bytes : List ℕ
  pub taken : Consumes left left' bytes
  pub begins : BeginsLines n bytes

-- why no memory was read: a line is bad, and no read failed; or a read failed before any line was bad, and the count of
-- faults is one more
abbrev pub RefusesText : ℕ → Option (List ℕ) → Option (List ℕ) → ℕ → ℕ → CoreError → Type 0
RefusesText n left left' before now (Line k) = IsBadText n left left' k × (now ≡ before)
RefusesText n left left' before now Read = BeginsText n left left' × RoseByOne before now
