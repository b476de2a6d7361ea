use Rattle.std.proofs.Common.{◌≡◌, take}
use Rattle.std.specs.Prelude.{flat_map}
use Rattle.pip_io.specs.Taken.{Appends}
use Rattle.pip_search.specs.Parts.{stops}
use Rattle.pip_certificates.specs.PartShown.{stop_line}
use Rattle.pip_certificates.proofs.writing.write_stops.Given as goal

-- the lines of the keys before this one were written
abbrev pub invariant-loop-k : goal.invariant-loop-k
invariant-loop-k g l = record {
  wrote : Appends (g.K.Sink.history l.fn.sink).written (g.K.Sink.history l.sink).written
      (flat_map (stop_line l.fn.kind) (take l.k (stops l.fn.keys)));
  no_faults : (g.K.Sink.history l.sink).faults ≡ (g.K.Sink.history l.fn.sink).faults;
}
