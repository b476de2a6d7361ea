-- The histories of a source and a sink at a moment, and how calls lead from one moment, a, to a later one, b.
use Rattle.std.specs.Prelude.{◌≡◌, ℕ, List, Option, None}
use Rattle.pip_io.specs.Taken.{Taken, plain}
use Rattle.pip_io.specs.Histories.{Remaining, Writing, writing}
use Rattle.pip_io.specs.declared.joint.Joint.{Joint}

-- the bytes that are left, where the source's history has them, what was taken to be written, and how often a read and
-- a write failed
pub record Streams : Type 0 where
  pub left : Option (List ℕ)
  pub written : Taken
  pub reads : ℕ
  pub writes : ℕ

-- of a sink, beside a source with these bytes left and that many faults
abbrev pub beside : Option (List ℕ) → ℕ → Writing → Streams
beside left reads w = record { left = left; written = w.written; reads = reads; writes = w.faults }

-- of a source, beside a sink that takes all and has no history
abbrev pub alone : Remaining → Streams
alone r = beside r.left r.faults (writing (plain None) 0)

-- by the histories of a source and a sink
abbrev pub streams : {S K : Type 0} → (S → Remaining) → (K → Writing) → S → K → Streams
streams reads writes source sink = beside (reads source).left (reads source).faults (writes sink)

-- by the histories of the source and the sink of a joint
abbrev pub joined : {S K : Type 0} → (S → Remaining) → (K → Writing) → Joint S K → Streams
joined reads writes joint = streams reads writes joint.source.now joint.sink.now

-- no read and no write has failed
pub record NoneFailed (a b : Streams) : Type 0 where
  pub reads : b.reads ≡ a.reads
  pub writes : b.writes ≡ a.writes
