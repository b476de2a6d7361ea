-- How it is found whether all outside looks away.
use Rattle.std.specs.Prelude.{◌≡◌, ℕ, ◌<◌, true, false, List, length, Option, Some, None, slice_get}
use Rattle.pip_away.specs.Blind.{LeftOut, sight_in}
use Rattle.pip_base.specs.Memory.{Memory}
use Rattle.pip_every.specs.Away.{looks_away}
use Rattle.pip_every.specs.Keys.{IsKeyOf}
use Rattle.pip_every.specs.Menus.{Menu}
use Rattle.pip_every.specs.Moments.{Moment}
use Rattle.pip_model.specs.Worlds.{World}
use Rattle.pip_search.specs.Keys.{Keyed, key_of}

-- a world passes the test on the processors before this one
abbrev pub PassesUpTo : LeftOut → Menu → World → ℕ → Type 0
PassesUpTo o g w n = (j : ℕ) → j < n → looks_away o.own (sight_in o) g w j ≡ true

-- it fails on this processor, the first on which it does
pub record FailsFirst (o : LeftOut) (g : Menu) (w : World) (k : ℕ) : Type 0 where
  pub cpu : k < g.scope.cpus
  pub seen : looks_away o.own (sight_in o) g w k ≡ false
  pub least : PassesUpTo o g w k

-- this is the first processor on which it fails, if there is one
abbrev pub FirstLooks : LeftOut → Menu → World → Option ℕ → Type 0
FirstLooks o g w None = PassesUpTo o g w g.scope.cpus
FirstLooks o g w (Some k) = FailsFirst o g w k

-- the moments of the visits before this one pass, on each processor
abbrev pub PassBefore : Memory → LeftOut → Menu → List Keyed → ℕ → Type 0
PassBefore first o g vs n = (j : ℕ) (u : Keyed) (m : Moment) → j < n → slice_get vs j ≡ Some u
    → IsKeyOf first g.scope (key_of u) m → PassesUpTo o g m.world g.scope.cpus

-- this visit fails on this processor, the first that does
pub record IsFirstToFail (first : Memory) (o : LeftOut) (g : Menu) (vs : List Keyed) (place cpu : ℕ) : Type 0 where
  pub visit : Keyed
  pub at : slice_get vs place ≡ Some visit
  pub fails : (m : Moment) → IsKeyOf first g.scope (key_of visit) m → FailsFirst o g m.world cpu
  pub before : PassBefore first o g vs place

-- this is the first to fail, if one does
abbrev pub LooksFirst : Memory → LeftOut → Menu → List Keyed → Option (ℕ × ℕ) → Type 0
LooksFirst first o g vs None = PassBefore first o g vs (length vs)
LooksFirst first o g vs (Some (place, cpu)) = IsFirstToFail first o g vs place cpu
