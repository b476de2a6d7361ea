use Rattle.std.proofs.Common.{◌≡◌, ◌-◌, length}
use Rattle.pip_lines.proofs.Progress.{Progress}
use Rattle.pip_model.specs.Worlds.{World}
use Rattle.pip_switch.specs.Standing.{StandsAs}
use Rattle.pip_native.specs.Watching.{watched_steps}
use Rattle.pip_commands.proofs.commands.native.watch.Given as goal

abbrev pub invariant-loop-i : goal.invariant-loop-i
invariant-loop-i g l = record {
  count : length l.machine.cpus ≡ length l.fn.machine.cpus;
  no_faults : (g.K.Sink.history l.sink).faults ≡ (g.K.Sink.history l.fn.sink).faults;
  progress : (w : World) → StandsAs l.fn.machine w
      → Progress (StandsAs l.machine) (g.K.Sink.history l.fn.sink).written (g.K.Sink.history l.sink).written w
      (watched_steps w l.lines l.fn.monitor l.count 0)
      (λ v. watched_steps v l.lines l.monitor (l.count - l.i) l.i);
}
