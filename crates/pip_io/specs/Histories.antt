-- What a source and a sink tell of themselves at a moment.
use Rattle.std.specs.Prelude.{ℕ, List, Option}
use Rattle.pip_io.specs.Taken.{Taken}

-- of a source: the bytes that are left, if it says which, and how many faults it has counted
pub record Remaining : Type 0 where
  pub left : Option (List ℕ)
  pub faults : ℕ

-- of a sink: what it took, and how many faults it has counted
pub record Writing : Type 0 where
  pub written : Taken
  pub faults : ℕ

-- of a source with these bytes left
abbrev pub remaining : Option (List ℕ) → ℕ → Remaining
remaining left faults = record { left = left; faults = faults }

-- of a sink
abbrev pub writing : Taken → ℕ → Writing
writing written faults = record { written = written; faults = faults }
