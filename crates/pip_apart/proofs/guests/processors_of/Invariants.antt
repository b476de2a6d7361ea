use Rattle.std.proofs.Common.{◌≡◌, ◌≤◌, ◌<◌, length}
use Rattle.std.specs.List.{All}
use Rattle.pip_model.specs.Worlds.{World}
use Rattle.pip_switch.specs.Standing.{StandsAs}
use Rattle.pip_apart.specs.Company.{runs_below}
use Rattle.pip_apart.specs.Tops.{all_before}
use Rattle.pip_apart.proofs.guests.processors_of.Given as goal

-- those of the first processors on which the guest runs
abbrev pub invariant-loop-cpu : goal.invariant-loop-cpu
invariant-loop-cpu g l = record {
  are : (w : World) → StandsAs l.machine w → l.cpus.items ≡ all_before (runs_below w l.fn.top) l.cpu;
  there : All (λ cpu. cpu < length l.machine.cpus) l.cpus.items;
  few : length l.cpus.items ≤ l.cpu;
}
