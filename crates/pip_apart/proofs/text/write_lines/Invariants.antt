use Rattle.std.proofs.Common.{◌≡◌, take}
use Rattle.std.specs.Prelude.{flat_map}
use Rattle.pip_io.specs.Taken.{Appends}
use Rattle.pip_apart.proofs.Writing.{found_line}
use Rattle.pip_apart.proofs.text.write_lines.Given as goal

abbrev pub invariant-loop-k : goal.invariant-loop-k
invariant-loop-k g l = record {
  wrote : Appends (g.K.Sink.history l.fn.sink).written (g.K.Sink.history l.sink).written
      (flat_map (found_line l.fn.guest.cpus.items l.fn.guest.end l.fn.guest.search.visits.items)
      (take l.k l.fn.guest.search.found.items));
  no_faults : (g.K.Sink.history l.sink).faults ≡ (g.K.Sink.history l.fn.sink).faults;
}
