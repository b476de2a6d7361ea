-- The order of ways: the shorter comes first, and of two that are as long the one with the smaller choice where they
-- first differ.
use Rattle.std.specs.Prelude.{◌≡◌, ℕ, ◌<◌, ◌⊎◌, List, [], ◌∷◌, Some, slice_get}
use Rattle.pip_search.specs.declared.visits.Visit.{Visit}
use Rattle.pip_search.specs.declared.found.Found.{Found}

-- ways, the last choice first: one comes before another if it does without the last choices, or these alone differ,
-- and its is smaller
abbrev pub IsBefore : List ℕ → List ℕ → Type 0
IsBefore cs [] = ⊥
IsBefore [] (d ∷ ds) = Unit {0}
IsBefore (c ∷ cs) (d ∷ ds) = IsBefore cs ds ⊎ ((cs ≡ ds) × (c < d))

-- no later: the same way, or before it
abbrev pub IsNoLater : List ℕ → List ℕ → Type 0
IsNoLater cs ds = (cs ≡ ds) ⊎ IsBefore cs ds

-- the choice c of visit i is made before the choice d of visit j
abbrev pub IsEarlier : ℕ → ℕ → ℕ → ℕ → Type 0
IsEarlier i c j d = (i < j) ⊎ ((i ≡ j) × (c < d))

-- the way back from visit j over parents to the first visit, the last choice first
abbrev pub IsTrail : List Visit → ℕ → List ℕ → Type 0
IsTrail vs j [] = j ≡ 0
IsTrail vs j (c ∷ cs) = (0 < j) × ((u : Visit)
    × ((slice_get vs j ≡ Some u) × ((u.choice ≡ c) × IsTrail vs u.parent cs)))

-- visits and labels are in the order in which choices were made, and nothing was found by the choice c of visit i or a
-- later one
pub record IsRanked (vs : List Visit) (fs : List Found) (i c : ℕ) : Type 0 where
  pub rising : (j k : ℕ) (u v : Visit) → 0 < j → j < k → slice_get vs j ≡ Some u → slice_get vs k ≡ Some v
      → IsEarlier u.parent u.choice v.parent v.choice
  pub visits : (j : ℕ) (u : Visit) → 0 < j → slice_get vs j ≡ Some u → IsEarlier u.parent u.choice i c
  pub labels : (k : ℕ) (f : Found) → slice_get fs k ≡ Some f → IsEarlier f.at f.choice i c
  pub told : (j k : ℕ) (f g : Found) → j < k → slice_get fs j ≡ Some f → slice_get fs k ≡ Some g
      → IsEarlier f.at f.choice g.at g.choice
