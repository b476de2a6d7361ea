-- The machine of a command.
use Rattle.std.specs.Prelude.{Option, Some, None}
use Rattle.pip_model.specs.Worlds.{World}
use Rattle.pip_switch.specs.Standing.{StandsAs, State}

-- the machine that there is, if any, stands for the world, if any
abbrev pub StandsIfAny : Option State → Option World → Type 0
StandsIfAny None None = Unit {0}
StandsIfAny (Some p) (Some w) = StandsAs p w
StandsIfAny None (Some w) = ⊥
StandsIfAny (Some p) None = ⊥
