-- What a source and a sink in memory hold.
use Rattle.std.specs.Prelude.{ℕ, List, Bool, ◌||◌, nat_lt}
use Rattle.pip_io.specs.Causes.{next_count, is_listed}
use Rattle.pip_io.specs.declared.memory.SureSource.{SureSource}
use Rattle.pip_io.specs.declared.memory.MemSource.{MemSource}
use Rattle.pip_io.specs.declared.memory.MemSink.{MemSink}

-- the bytes that are left
abbrev pub sure_left : SureSource → List ℕ
sure_left s = s.rest.now

-- the bytes that are left
abbrev pub source_left : MemSource → List ℕ
source_left s = s.bytes.rest.now

-- how many calls were made, as far as a u64 goes
abbrev pub source_calls : MemSource → ℕ
source_calls s = s.calls.made

-- how many calls failed, as far as a u64 goes
abbrev pub source_faults : MemSource → ℕ
source_faults s = s.calls.failed

-- the numbers of the calls that fail
abbrev pub source_failing : MemSource → List ℕ
source_failing s = s.calls.failing.now

-- whether the next read fails: its number is listed
abbrev pub read_fails : MemSource → Bool
read_fails s = is_listed (source_failing s) (next_count (source_calls s))

-- the bytes that were written
abbrev pub sink_bytes : MemSink → List ℕ
sink_bytes s = s.bytes.items

-- how many bytes it still takes
abbrev pub sink_room : MemSink → ℕ
sink_room s = s.room

-- how many calls were made, as far as a u64 goes
abbrev pub sink_calls : MemSink → ℕ
sink_calls s = s.calls.made

-- how many calls failed, as far as a u64 goes
abbrev pub sink_faults : MemSink → ℕ
sink_faults s = s.calls.failed

-- the numbers of the calls that fail
abbrev pub sink_failing : MemSink → List ℕ
sink_failing s = s.calls.failing.now

-- whether the next write, of that many bytes, fails: its number is listed, or the room is less
abbrev pub write_fails : MemSink → ℕ → Bool
write_fails s count =
    is_listed (sink_failing s) (next_count (sink_calls s)) || nat_lt (sink_room s) count
