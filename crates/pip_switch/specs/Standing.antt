-- The world for which frames and processors stand.
use Rattle.std.specs.Prelude.{◌≡◌, ℕ, List, Option, Some, length}
use Rattle.pip_base.specs.Memory.{Memory}
use Rattle.pip_base.specs.declared.outcome.Outcome.{Outcome}
use Rattle.pip_model.specs.Cache.{Places}
use Rattle.pip_model.specs.Events.{Event}
use Rattle.pip_model.specs.Happens.{what_happens, caches_after}
use Rattle.pip_model.specs.Layout.{LaysOut}
use Rattle.pip_model.specs.Worlds.{Happened, IsCached, IsSoundWorld, World, runs_on}
use Rattle.pip_model.specs.declared.processors.Occupant.{Occupant}

-- the frames lay out the world's tree, and its processors are these
pub record Shows (m : Memory) (cs : List (Option Occupant)) (w : World) : Type 0 where
  pub laid : LaysOut w.tree m
  pub cpus : w.cpus ≡ cs

-- and the world is sound
pub record StandsFor (m : Memory) (cs : List (Option Occupant)) (w : World) : Type 0 where
  pub sound : IsSoundWorld w
  pub shows : Shows m cs w

-- there is such a world
pub record HasWorld (m : Memory) (cs : List (Option Occupant)) : Type 0 where
  pub world : World
  pub stands : StandsFor m cs world

-- a memory, its processors and their caches stand for a world: each processor has a cache, and what the caches hold is
-- what the tree says now
pub record StandsWith (m : Memory) (cs : List (Option Occupant)) (ks : List Places) (w : World) : Type 0 where
  pub bare : StandsFor m cs w
  pub cached : IsCached w
  pub caches : w.caches ≡ ks
  pub each : length ks ≡ length cs

-- there is a world for a memory, its processors and their caches
pub record HasCachedWorld (m : Memory) (cs : List (Option Occupant)) (ks : List Places) : Type 0 where
  pub world : World
  pub stands : StandsWith m cs ks world

-- what contracts see of a machine: its memory, its processors and their caches, for which there is such a world
pub record State : Type 0 where
  pub memory : Memory
  pub cpus : List (Option Occupant)
  pub caches : List Places
  pub world : ∥ HasCachedWorld memory cpus caches ∥₁

-- it stands for a world
abbrev pub StandsAs : State → World → Type 0
StandsAs p w = StandsWith p.memory p.cpus p.caches w

-- what happened came out so, and led to these frames and processors
pub record Came (h : Happened) (answer : Outcome) (m : Memory) (cs : List (Option Occupant)) : Type 0 where
  pub outcome : answer ≡ h.outcome
  pub shows : Shows m cs h.world

-- an event came out so, and led to these caches too
abbrev pub CameWith : World → Event → Outcome → Memory → List (Option Occupant) → List Places → Type 0
CameWith w e answer m cs ks = Came (what_happens w e) answer m cs × (ks ≡ caches_after w e)

-- for each world that frames and processors stand for, what happens there comes out so, and leads to these
abbrev pub Leads : Memory → List (Option Occupant) → (World → Happened) → Outcome → Memory → List (Option Occupant)
    → Type 0
Leads m cs h answer n ds = (w : World) → StandsFor m cs w → Came (h w) answer n ds

-- for each world that frames and processors stand for and each occupant of a processor, what happens to it comes out
-- so
abbrev pub LeadsFrom : Memory → List (Option Occupant) → ℕ → (World → Occupant → Happened) → Outcome → Memory
    → List (Option Occupant) → Type 0
LeadsFrom m cs cpu h answer n ds =
    (w : World) (r : Occupant) → StandsFor m cs w → runs_on w cpu ≡ Some r → Came (h w r) answer n ds

-- for each world that a machine stands for, an event comes out so, and leads to these caches, too
abbrev pub LeadsWith : Memory → List (Option Occupant) → List Places → Event → Outcome → Memory
    → List (Option Occupant) → List Places → Type 0
LeadsWith m cs ks e answer n ds ls = (w : World) → StandsWith m cs ks w → CameWith w e answer n ds ls
