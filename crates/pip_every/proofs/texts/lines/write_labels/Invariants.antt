use Rattle.std.proofs.Common.{◌≡◌, take}
use Rattle.std.specs.Prelude.{flat_map}
use Rattle.pip_io.specs.Taken.{Appends}
use Rattle.pip_every.proofs.LabelLines.{found_line}
use Rattle.pip_every.proofs.texts.lines.write_labels.Given as goal

abbrev pub invariant-loop-k : goal.invariant-loop-k
invariant-loop-k g l = record {
  wrote : Appends (g.K.Sink.history l.fn.sink).written (g.K.Sink.history l.sink).written
      (flat_map (found_line l.fn.cpus l.fn.lines l.fn.verdict l.fn.search.visits.items)
      (take l.k l.fn.search.found.items));
  no_faults : (g.K.Sink.history l.sink).faults ≡ (g.K.Sink.history l.fn.sink).faults;
}
