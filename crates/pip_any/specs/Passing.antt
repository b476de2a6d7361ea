-- What follows from the test of a state.
use Rattle.std.specs.Prelude.{◌≡◌, ℕ, true, List, Some}
use Rattle.pip_every.specs.Away.{looks_away}
use Rattle.pip_every.specs.Menus.{Menu, name_on}
use Rattle.pip_any.specs.Hostile.{LooksAway, RunsHostile}
use Rattle.pip_model.specs.Lists.{In}
use Rattle.pip_model.specs.Worlds.{IsSoundWorld, World}
use Rattle.pip_guests.specs.Exits.{IsConfined}
use Rattle.pip_guests.specs.Sights.{IsSight, Sight}

-- where it is met the search looks away there, and a hostile partition that runs is confined
pub record HasPassed (own : List ℕ) (look : ℕ → ℕ → ℕ → ℕ) (g : Menu) (w : World) (cpu : ℕ) : Type 0 where
  pub away : LooksAway own look g w cpu
  pub confined : (p : ℕ) → name_on w cpu ≡ Some p → RunsHostile g w cpu → In p own × IsConfined w.tree p

-- that is so of each state that passes the test
abbrev pub StatesPass : Type 0
StatesPass = (own : List ℕ) (look : ℕ → ℕ → ℕ → ℕ) (s : Sight) (g : Menu) (w : World) (cpu : ℕ) → IsSight own look s
    → IsSoundWorld w → looks_away own s g w cpu ≡ true → HasPassed own look g w cpu
