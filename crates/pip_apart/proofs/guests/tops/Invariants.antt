use Rattle.std.proofs.Common.{◌≡◌, ◌≤◌, length}
use Rattle.pip_model.specs.Worlds.{World}
use Rattle.pip_switch.specs.Standing.{StandsAs}
use Rattle.pip_apart.specs.Tops.{tops_before}
use Rattle.pip_apart.proofs.guests.tops.Given as goal

-- the guests on the first processors
abbrev pub invariant-loop-cpu : goal.invariant-loop-cpu
invariant-loop-cpu g l = record {
  are : (w : World) → StandsAs l.machine w → l.tops.items ≡ tops_before w l.cpu;
  few : length l.tops.items ≤ l.cpu;
}
