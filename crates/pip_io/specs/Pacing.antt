-- Where a source may be read.
use Rattle.std.specs.Prelude.{ℕ, List, Option}
use Rattle.std.specs.Io.KnownBytes.{Consumes}
use Rattle.pip_io.specs.Moments.{Streams}

-- the same moment, but that other bytes are left
abbrev pub with_left : Option (List ℕ) → Streams → Streams
with_left left now = record { left = left; written = now.written; reads = now.reads; writes = now.writes }

-- from now on reading is allowed wherever such bytes were read, and nothing was written and no call failed meanwhile
abbrev pub MayRead : (Streams → Type 0) → (List ℕ → Type 0) → Streams → Type 0
MayRead allows waits now = (bytes : List ℕ) → (left : Option (List ℕ)) → Consumes now.left left bytes → waits bytes
    → allows (with_left left now)
