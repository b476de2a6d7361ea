-- The load, midway.
use Rattle.std.specs.Prelude.{◌≡◌, ℕ, ◌+◌, ◌*◌, ◌≤◌, List, ◌++◌, length}
use Rattle.pip_model.specs.Events.{Event}
use Rattle.pip_model.specs.Soak.{soak_events}
use Rattle.pip_model.specs.Worlds.{World}
use Rattle.pip_soak.specs.Counts.{MakesAll}
use Rattle.pip_soak.specs.declared.counts.Counts.{Counts}

-- some events were made and counted; those of that many steps from this state on are left
pub record IsMidway (before now : World → Type 0) (none counts : Counts) (left state count seed : ℕ) : Type 0 where
  pub made : List Event
  pub all : made ++ soak_events left state ≡ soak_events count seed
  pub few : length made + 3 * left ≤ 3 * count
  pub makes : MakesAll before now none counts made
