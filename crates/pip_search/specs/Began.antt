-- How a search begins.
use Rattle.std.specs.Prelude.{◌≡◌, ℕ, List, [], ◌∷◌}
use Rattle.pip_search.specs.Keys.{Keyed, key_of, step_of}
use Rattle.pip_search.specs.declared.visits.Visit.{Visit}
use Rattle.pip_search.specs.declared.found.Found.{Found}

-- nothing leads to a visit: no choices, and no run of them
pub record IsRoot (u : Visit) : Type 0 where
  pub parent : u.parent ≡ 0
  pub choice : u.choice ≡ 0
  pub depth : u.depth ≡ 0
  pub run : u.run ≡ 0

-- there is one visit, of this key
pub record HasBegun (start : List ℕ) (vs : List Keyed) (fs : List Found) : Type 0 where
  pub first : Keyed
  pub one : vs ≡ first ∷ []
  pub key : key_of first ≡ start
  pub root : IsRoot (step_of first)
  pub none : fs ≡ []
