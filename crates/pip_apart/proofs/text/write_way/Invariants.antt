use Rattle.std.proofs.Common.{◌≡◌, take}
use Rattle.std.specs.Prelude.{flat_map}
use Rattle.pip_io.specs.Taken.{Appends}
use Rattle.pip_apart.specs.Texts.{turns_text}
use Rattle.pip_apart.proofs.text.write_way.Given as goal

abbrev pub invariant-loop-k : goal.invariant-loop-k
invariant-loop-k g l = record {
  wrote : Appends (g.K.Sink.history l.fn.sink).written (g.K.Sink.history l.sink).written
      (flat_map (turns_text l.fn.cpus) (take l.k l.fn.way));
  no_faults : (g.K.Sink.history l.sink).faults ≡ (g.K.Sink.history l.fn.sink).faults;
}
