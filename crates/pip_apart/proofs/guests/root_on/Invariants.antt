use Rattle.std.proofs.Common.{◌≡◌, None}
use Rattle.pip_model.specs.Worlds.{World, runs_on}
use Rattle.pip_switch.specs.Standing.{StandsAs}
use Rattle.pip_apart.specs.Tops.{first_before, names_root}
use Rattle.pip_apart.proofs.guests.root_on.Given as goal

-- on none of the first
abbrev pub invariant-loop-cpu : goal.invariant-loop-cpu
invariant-loop-cpu g l =
    (w : World) → StandsAs l.machine w → first_before (λ c. names_root w.tree (runs_on w c)) l.cpu ≡ None
