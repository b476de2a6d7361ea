-- What is known of a search in its middle.
use Rattle.std.specs.Prelude.{ℕ, List}
use Rattle.pip_search.specs.Exploring.{IsExploring}
use Rattle.pip_search.specs.Keys.{AreKept, HaveKeys, labels, steps_of, visits_of}
use Rattle.pip_search.specs.Naming.{AreNamed}
use Rattle.pip_search.specs.Orders.{IsRanked}
use Rattle.pip_search.specs.Systems.{Model}
use Rattle.pip_search.specs.declared.searching.Search.{Search}

-- the choices of the visits before i were made, and the first c of visit i; keys and labels are found by their hashes
pub record IsSearching (m : Model) (start : List ℕ) (s : Search) (i c : ℕ) : Type 0 where
  pub exploring : IsExploring m start (visits_of s) s.found.items i c
  pub ranked : IsRanked (steps_of (visits_of s)) s.found.items i c
  pub keyed : HaveKeys s.visits.items s.store s.keys
  pub told : AreNamed (labels s.found.items) s.labels
  pub kept : AreKept (visits_of s)
