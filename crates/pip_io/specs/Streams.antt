-- What a source and a sink over a stream of std hold.
use Rattle.std.specs.Prelude.{ℕ}
use Rattle.pip_io.specs.declared.streams.StdSource.{StdSource}
use Rattle.pip_io.specs.declared.streams.StdSink.{StdSink}

-- the reader
abbrev pub reader_of : {R : Type 0} → StdSource R → R
reader_of s = s.inner

-- how often a read failed, as far as a u64 goes
abbrev pub reader_faults : {R : Type 0} → StdSource R → ℕ
reader_faults s = s.faults

-- the writer
abbrev pub writer_of : {W : Type 0} → StdSink W → W
writer_of s = s.inner

-- how often a write failed or took nothing, as far as a u64 goes
abbrev pub writer_faults : {W : Type 0} → StdSink W → ℕ
writer_faults s = s.faults
