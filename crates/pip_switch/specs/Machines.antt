-- A machine stands for a world, and whatever it stands for is sound.
use Rattle.std.specs.Prelude.{◌≡◌, length}
use Rattle.std.proofs.Math.Logic.{∥∥₁_map}
use Rattle.pip_model.specs.Port.{StandsForSome}
use Rattle.pip_model.specs.Worlds.{IsSoundWorld, World}
use Rattle.pip_switch.specs.Standing.{HasCachedWorld, StandsAs, State}

-- each state of a machine stands for some world
pub machine_world : (p : State) → StandsForSome (StandsAs p)
machine_world p = ∥∥₁_map p.world (λ (k : HasCachedWorld p.memory p.cpus p.caches). (k.world, k.stands))

-- a world that a state stands for is sound, and has as many processors as the machine
pub machine_sound : (p : State) (w : World) → StandsAs p w → IsSoundWorld w × (length w.cpus ≡ length p.cpus)
machine_sound p w s = (s.bare.sound, λ i. length (s.bare.shows.cpus i))
