-- What merging the lines of a source takes from it.
use Rattle.std.specs.Prelude.{◌≡◌, ℕ, ◌⊎◌, List, ◌++◌, Option, Result, Ok, Err}
use Rattle.std.specs.Io.KnownBytes.{Consumes, IsAtEnd}
use Rattle.pip_io.specs.Causes.{RoseByOne}
use Rattle.pip_model.specs.Grammar.{lines_of}
use Rattle.pip_certificates.specs.Merges.{Merging}
use Rattle.pip_certificates.specs.declared.parts.faults.MergeFault.{MergeFault}
use Rattle.pip_certificates.specs.MergeDues.{BeginsMerge, BreaksAt, MergesTo}
use Rattle.pip_certificates.specs.declared.commands.merge.line_reader.LineStop.{LineStop}
use Rattle.pip_certificates.specs.declared.commands.merge.line_reader.LineStop.TheVariants as L
use Rattle.pip_certificates.specs.declared.commands.merge.MergeStop.{MergeStop}
use Rattle.pip_certificates.specs.declared.commands.merge.MergeStop.TheVariants.{Bad, Unread, Memory}

-- the same, of a line that wasn't read
abbrev pub stop_of_line : LineStop → MergeStop
stop_of_line L.Unread = Unread
stop_of_line L.Memory = Memory

-- of line n: it was merged to this, or has this fault; or memory ran out
abbrev pub GivesNumbered : ℕ → Result (Unit {0}) MergeStop → Merging → Result Merging MergeFault → Type 0
GivesNumbered n (Ok u) more r = r ≡ Ok more
GivesNumbered n (Err (Bad number fault)) more r = (number ≡ n) × (r ≡ Err fault)
GivesNumbered n (Err Unread) more r = ⊥
GivesNumbered n (Err Memory) more r = Unit {0}

-- all that the source had are lines that can be merged to this
pub record TakesMerge (left left' : Option (List ℕ)) (g : Merging) : Type 0 where
  pub bytes : List ℕ
  pub taken : Consumes left left' bytes
  pub ended : IsAtEnd left'
  pub good : MergesTo (lines_of bytes) g

-- line n of these bytes is the first that can't be merged, whatever follows them, or where the input ends with them
abbrev pub IsBreakOf : List ℕ → Option (List ℕ) → ℕ → List ℕ → MergeFault → Type 0
IsBreakOf bytes left' n line fault = ((rest : List ℕ) → BreaksAt (lines_of (bytes ++ rest)) n line fault)
    ⊎ (BreaksAt (lines_of bytes) n line fault × IsAtEnd left')

-- bytes were taken that have such a line
pub record TakesBreak (left left' : Option (List ℕ)) (n : ℕ) (line : List ℕ) (fault : MergeFault) : Type 0 where
  pub bytes : List ℕ
  pub taken : Consumes left left' bytes
  pub is : IsBreakOf bytes left' n line fault

-- lines were taken that can be merged, and a part of one
pub record TakesBegun (left left' : Option (List ℕ)) : Type 0 where
  pub bytes : List ℕ
  pub taken : Consumes left left' bytes
  pub begins : BeginsMerge bytes

-- why not all was merged, where this is the line that was taken last. The numbers count failed reads
abbrev pub StopsMerge : Option (List ℕ) → Option (List ℕ) → ℕ → ℕ → List ℕ → MergeStop → Type 0
StopsMerge left left' before now line (Bad number fault) = TakesBreak left left' number line fault × (now ≡ before)
StopsMerge left left' before now line Unread = TakesBegun left left' × RoseByOne before now
StopsMerge left left' before now line Memory = ((bytes : List ℕ) × Consumes left left' bytes) × (now ≡ before)
