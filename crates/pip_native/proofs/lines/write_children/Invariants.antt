use Rattle.std.proofs.Common.{◌≡◌, take}
use Rattle.pip_io.specs.Taken.{Appends}
use Rattle.pip_native.specs.Watching.{built_from}
use Rattle.pip_native.proofs.lines.write_children.Given as goal

abbrev pub invariant-loop-i : goal.invariant-loop-i
invariant-loop-i g l = record {
  wrote : Appends (g.K.Sink.history l.fn.sink).written (g.K.Sink.history l.sink).written
      (built_from 0 (take l.i l.children));
  no_faults : (g.K.Sink.history l.sink).faults ≡ (g.K.Sink.history l.fn.sink).faults;
}
