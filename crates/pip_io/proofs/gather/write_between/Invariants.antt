use Rattle.std.proofs.Common.{◌-◌, ◌≡◌, ◌≤◌}
use Rattle.pip_io.specs.Taken.{Appends}
use Rattle.pip_io.specs.Gathering.{between}
use Rattle.pip_io.proofs.gather.write_between.Given as goal

abbrev pub invariant-loop-place : goal.invariant-loop-place
invariant-loop-place g l = record {
  least : l.start ≤ l.place;
  most : l.place ≤ l.end;
  written : Appends (g.K.Sink.history l.fn.sink).written (g.K.Sink.history l.sink).written
      (between l.bytes l.start l.place);
  no_faults : (g.K.Sink.history l.sink).faults ≡ (g.K.Sink.history l.fn.sink).faults;
}

abbrev pub decreases-loop-place : goal.decreases-loop-place
decreases-loop-place g l = l.end - l.place
