use Rattle.std.proofs.Common.{◌≡◌}
use Rattle.pip_commands.specs.Progress.{HasRun}
use Rattle.pip_io.specs.Moments.{joined}
use Rattle.pip_commands.proofs.commands.script.run_lines.Given as goal

abbrev pub invariant-loop-number : goal.invariant-loop-number
invariant-loop-number g l = record {
  run : HasRun (joined g.S.Source.history g.K.Sink.history l.fn.joint)
      (joined g.S.Source.history g.K.Sink.history l.joint)
      l.input l.machine l.number;
  name : l.joint.source.ghost_name ≡ l.fn.joint.source.ghost_name;
  sink_name : l.joint.sink.ghost_name ≡ l.fn.joint.sink.ghost_name;
  is_open : g.S.Source.is_open l.joint.source.now;
}
