-- How a command's status goes with what its source and its sink tell.
use Rattle.std.specs.Prelude.{◌≡◌, ◌≢◌, ◌⊎◌, ℕ, List}
use Rattle.pip_io.specs.Causes.{RoseByOne}
use Rattle.pip_io.specs.Taken.{Appends, SendsPart}
use Rattle.pip_io.specs.Histories.{Writing}
-- what a source and a sink tell at a moment, passed on
pub use Rattle.pip_io.specs.Moments.{Streams, beside, streams}

-- at each status but 3 the count of failed reads is what it was, at each but 4 that of failed writes
pub record IsCalm (code : ℕ) (a b : Streams) : Type 0 where
  pub reads : code ≢ 3 → b.reads ≡ a.reads
  pub writes : code ≢ 4 → b.writes ≡ a.writes

-- a line was written, and the status is that of the line; or a part of it went out, and the status is 4, where a write
-- failed
abbrev pub EndsLine : ℕ → List ℕ → ℕ → Writing → Writing → Type 0
EndsLine line_status line status before after =
    ((status ≡ line_status) × Appends before.written after.written line)
    ⊎ ((status ≡ 4) × SendsPart before.written after.written line × RoseByOne before.faults after.faults)
