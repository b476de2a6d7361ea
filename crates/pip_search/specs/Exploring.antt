-- What is known in the middle of a search.
use Rattle.std.specs.Prelude.{◌≡◌, ◌≢◌, ℕ, ◌+◌, ◌<◌, ◌≤◌, ◌⊎◌, List, [], length, Some, slice_get}
use Rattle.pip_search.specs.Began.{IsRoot}
use Rattle.pip_search.specs.Keys.{Keyed, key_of, step_of}
use Rattle.pip_search.specs.Orders.{IsEarlier}
use Rattle.pip_search.specs.Systems.{Model, LeadsOn}
use Rattle.pip_search.specs.declared.visits.Visit.{Visit}
use Rattle.pip_search.specs.declared.found.Found.{Found}

-- a label is among those found, by that many choices at most, and no later than by the choice c of visit i
pub record IsKnown (fs : List Found) (label : List ℕ) (depth i c : ℕ) : Type 0 where
  pub place : ℕ
  pub found : Found
  pub at : slice_get fs place ≡ Some found
  pub same : found.label.items ≡ label
  pub soon : found.depth ≤ depth
  pub early : IsEarlier found.at found.choice i (c + 1)

-- the choice c of visit i was made: its next state was visited, and what it showed was found, by then
pub record WasMade (m : Model) (vs : List Keyed) (fs : List Found) (i c : ℕ) : Type 0 where
  pub from : Keyed
  pub at : slice_get vs i ≡ Some from
  pub place : ℕ
  pub to : Keyed
  pub there : slice_get vs place ≡ Some to
  pub near : to.depth ≤ from.depth + 1
  pub early : (place ≡ 0) ⊎ IsEarlier to.parent to.choice i (c + 1)
  pub shown : List ℕ
  pub leads : LeadsOn m (key_of from) c (key_of to) shown
  pub told : shown ≢ [] → IsKnown fs shown (from.depth + 1) i c

-- no choice equal to c leads to visit i: that is the first one, or was found by another choice
abbrev pub BreaksRun : ℕ → Visit → ℕ → Type 0
BreaksRun i from c = (i ≡ 0) ⊎ (from.choice ≢ c)

-- the visit before the run of equal choices that ends with the choice c of visit i: that one where no equal choice
-- leads to it, else the one before the run that ends with that choice
abbrev pub StartsRun : ℕ → Visit → ℕ → ℕ → Type 0
StartsRun i from c run = (BreaksRun i from c × (run ≡ i)) ⊎ ((0 < i) × ((from.choice ≡ c) × (run ≡ from.run)))

-- a visit that is not the first was found from an earlier one
pub record IsChild (m : Model) (vs : List Keyed) (j : ℕ) (u : Keyed) : Type 0 where
  pub from : Keyed
  pub at : slice_get vs u.parent ≡ Some from
  pub earlier : u.parent < j
  pub choice : u.choice < m.choices
  pub depth : u.depth ≡ from.depth + 1
  pub run : StartsRun u.parent (step_of from) u.choice u.run
  pub shown : List ℕ
  pub leads : LeadsOn m (key_of from) u.choice (key_of u) shown

-- the first one has the key at which the search began, and nothing leads to it
pub record IsFirst (start : List ℕ) (j : ℕ) (u : Keyed) : Type 0 where
  pub zero_th : j ≡ 0
  pub key : key_of u ≡ start
  pub root : IsRoot (step_of u)

-- a visit is the first one, or was found from an earlier one
abbrev pub IsVisit : Model → List ℕ → List Keyed → ℕ → Keyed → Type 0
IsVisit m start vs j u = IsFirst start j u ⊎ IsChild m vs j u

-- a label was shown by a choice of a visit
pub record IsShown (m : Model) (vs : List Keyed) (f : Found) : Type 0 where
  pub from : Keyed
  pub at : slice_get vs f.at ≡ Some from
  pub choice : f.choice < m.choices
  pub depth : f.depth ≡ from.depth + 1
  pub some : f.label.items ≢ []
  pub next : List ℕ
  pub leads : LeadsOn m (key_of from) f.choice next f.label.items

-- all choices of the visits before i, and the first c of visit i, were made
pub record IsExploring (m : Model) (start : List ℕ) (vs : List Keyed) (fs : List Found) (i c : ℕ) : Type 0 where
  pub some : 0 < length vs
  pub before : (j d : ℕ) → j < i → d < m.choices → WasMade m vs fs j d
  pub here : (d : ℕ) → d < c → WasMade m vs fs i d
  pub visits : (j : ℕ) (u : Keyed) → slice_get vs j ≡ Some u → IsVisit m start vs j u
  pub labels : (k : ℕ) (f : Found) → slice_get fs k ≡ Some f → IsShown m vs f
  pub low : (j : ℕ) (u : Keyed) → slice_get vs j ≡ Some u → u.depth ≤ j
  pub order : (j k : ℕ) (u v : Keyed) → j ≤ k → slice_get vs j ≡ Some u → slice_get vs k ≡ Some v → u.depth ≤ v.depth
  pub near : (v : Keyed) (j : ℕ) (u : Keyed) → slice_get vs i ≡ Some v → slice_get vs j ≡ Some u → u.depth ≤ v.depth + 1
  pub soon : (v : Keyed) (k : ℕ) (f : Found) → slice_get vs i ≡ Some v → slice_get fs k ≡ Some f → f.depth ≤ v.depth + 1
