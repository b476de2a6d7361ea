use Rattle.std.proofs.Common.{◌≡◌, ◌-◌, ◌+◌, length}
use Rattle.pip_lines.proofs.Progress.{Progress}
use Rattle.pip_lines.proofs.Working.{Working}
use Rattle.pip_model.specs.Worlds.{World}
use Rattle.pip_slots.specs.Slots.{slot_turns}
use Rattle.pip_switch.specs.Standing.{StandsAs}
use Rattle.pip_slots.proofs.running.inner_steps.Given as goal

abbrev pub invariant-loop-k : goal.invariant-loop-k
invariant-loop-k g l = record {
  count : length l.machine.cpus ≡ length l.fn.machine.cpus;
  no_faults : (g.K.Sink.history l.sink).faults ≡ (g.K.Sink.history l.fn.sink).faults;
  progress : (w : World) → StandsAs l.fn.machine w
      → Progress (StandsAs l.machine) (g.K.Sink.history l.fn.sink).written (g.K.Sink.history l.sink).written w
      (slot_turns w l.turns l.t) (λ v. slot_turns v (l.turns - l.k) (l.t + l.k));
  work : (w : World) → StandsAs l.fn.machine w → Working (StandsAs l.machine) l.fn.steps l.steps w
      (slot_turns w l.turns l.t) (λ v. slot_turns v (l.turns - l.k) (l.t + l.k));
}
