use Rattle.std.proofs.Common.{◌≡◌, ◌+◌, drop, length}
use Rattle.pip_lines.proofs.Progress.{Progress}
use Rattle.pip_lines.proofs.Working.{Working}
use Rattle.pip_model.specs.Worlds.{World}
use Rattle.pip_slots.specs.Slots.{plan_steps, slot_run}
use Rattle.pip_switch.specs.Standing.{StandsAs}
use Rattle.pip_slots.proofs.running.run_slots.Given as goal

abbrev pub invariant-loop-i : goal.invariant-loop-i
invariant-loop-i g l = record {
  count : length l.machine.cpus ≡ length l.fn.machine.cpus;
  no_faults : (g.K.Sink.history l.sink).faults ≡ (g.K.Sink.history l.fn.sink).faults;
  left : l.t + plan_steps (drop l.i l.slots) ≡ l.first + plan_steps l.slots;
  progress : (w : World) → StandsAs l.fn.machine w
      → Progress (StandsAs l.machine) (g.K.Sink.history l.fn.sink).written (g.K.Sink.history l.sink).written w
      (slot_run w l.slots l.first) (λ v. slot_run v (drop l.i l.slots) l.t);
  work : (w : World) → StandsAs l.fn.machine w → Working (StandsAs l.machine) l.fn.steps l.steps w
      (slot_run w l.slots l.first) (λ v. slot_run v (drop l.i l.slots) l.t);
}
