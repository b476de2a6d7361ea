use Rattle.std.proofs.Common.{◌≡◌, take}
use Rattle.std.specs.Prelude.{flat_map}
use Rattle.pip_io.specs.Taken.{Appends}
use Rattle.pip_certificates.specs.Seen.{label_texts}
use Rattle.pip_certificates.specs.MergeDues.{label_line}
use Rattle.pip_certificates.proofs.commands.merge.answers.write_labels.Given as goal

-- the lines of the labels before this one were written
abbrev pub invariant-loop-k : goal.invariant-loop-k
invariant-loop-k g l = record {
  wrote : Appends (g.K.Sink.history l.fn.sink).written (g.K.Sink.history l.sink).written
      (flat_map label_line (take l.k (label_texts l.fn.labels)));
  no_faults : (g.K.Sink.history l.sink).faults ≡ (g.K.Sink.history l.fn.sink).faults;
}
