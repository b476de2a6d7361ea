-- The ways of what a search found.
use Rattle.std.specs.Prelude.{◌≡◌, ℕ, ◌<◌, List, map, reverse, Some, slice_get}
use Rattle.std.specs.List.{AllByRecursion}
use Rattle.pip_search.specs.Summary.{Witness}
use Rattle.pip_search.specs.Ways.{found_way, runs_of}
use Rattle.pip_search.specs.declared.found.Found.{Found}
use Rattle.pip_search.specs.declared.visits.Visit.{Visit}
use Rattle.pip_search.specs.declared.ways.Run.{Run}

-- the runs of the way to each label, in the order in which they are made
abbrev pub runs_to : List Visit → List Found → List (List Run)
runs_to vs fs = map (λ f. reverse (runs_of (found_way vs f))) fs

-- each choice of each way is one of n
pub record AreWaysOf (n : ℕ) (ws : List Witness) : Type 0 where
  pub each : (k : ℕ) (w : Witness) → slice_get ws k ≡ Some w → AllByRecursion (λ c. c < n) w.way
