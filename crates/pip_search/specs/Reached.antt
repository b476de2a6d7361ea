-- What a search tells of the states that choices lead to.
use Rattle.std.specs.Prelude.{◌≡◌, ◌≢◌, ℕ, ◌+◌, ◌<◌, ◌≤◌, List, [], ◌∷◌, length, Some, slice_get}
use Rattle.std.specs.List.{AllByRecursion}
use Rattle.pip_search.specs.Keys.{Keyed, key_of, steps_of}
use Rattle.pip_search.specs.Orders.{IsNoLater, IsTrail}
use Rattle.pip_search.specs.Systems.{Model, after_choices}
use Rattle.pip_search.specs.declared.visits.Visit.{Visit}
use Rattle.pip_search.specs.declared.found.Found.{Found}
use Rattle.pip_search.specs.declared.searching.Extent.{Extent}
use Rattle.pip_search.specs.declared.searching.Extent.TheVariants.{Closed, Stopped, Within}

-- choices that can be made
abbrev pub AreChoices : Model → List ℕ → Type 0
AreChoices m cs = AllByRecursion (λ c. c < m.choices) cs

-- that many choices were all gone through: of a closed search any number
abbrev pub IsCovered : Extent → ℕ → Type 0
IsCovered (Closed depth) n = Unit {0}
IsCovered (Within depth) n = n ≤ depth
IsCovered (Stopped depth) n = n ≤ depth

-- some visit stands for a state, and its way is these choices or one before them
pub record IsVisited (m : Model) (vs : List Keyed) (s : m.State) (cs : List ℕ) : Type 0 where
  pub place : ℕ
  pub visit : Keyed
  pub at : slice_get vs place ≡ Some visit
  pub soon : visit.depth ≤ length cs
  pub stands : m.stands (key_of visit) s
  pub way : List ℕ
  pub trail : IsTrail (steps_of vs) place way
  pub first : IsNoLater way cs

-- a label is among those found, and the way on which it was found is these choices or one before them
pub record IsFoundBy (vs : List Visit) (fs : List Found) (label : List ℕ) (cs : List ℕ) : Type 0 where
  pub place : ℕ
  pub found : Found
  pub at : slice_get fs place ≡ Some found
  pub same : found.label.items ≡ label
  pub soon : found.depth ≤ length cs
  pub way : List ℕ
  pub trail : IsTrail vs found.at way
  pub first : IsNoLater (found.choice ∷ way) cs

-- the way of visit j leads from s to a state for which its key stands, and is as long as it says
pub record IsReached (m : Model) (s : m.State) (vs : List Visit) (j : ℕ) (key : List ℕ) (n : ℕ) : Type 0 where
  pub choices : List ℕ
  pub trail : IsTrail vs j choices
  pub can : AreChoices m choices
  pub count : length choices ≡ n
  pub stands : m.stands key (after_choices m s choices)

-- the way of visit j and one choice more, which shows a label, are that many choices
pub record IsShownBy (m : Model) (s : m.State) (vs : List Visit) (j last : ℕ) (label : List ℕ) (n : ℕ) : Type 0 where
  pub choices : List ℕ
  pub trail : IsTrail vs j choices
  pub can : AreChoices m (last ∷ choices)
  pub count : length choices + 1 ≡ n
  pub shown : label ≡ m.label (after_choices m s choices) last

-- The theorem, for a state s at which a search began
pub record Tells (m : Model) (s : m.State) (vs : List Keyed) (fs : List Found) (verdict : Extent) : Type 0 where
  -- whatever choices are made, as many as were covered, lead to a visit, and its way is no later than they
  pub all : (cs : List ℕ) → AreChoices m cs → IsCovered verdict (length cs) → IsVisited m vs (after_choices m s cs) cs
  -- and what the last of them shows was found, on a way that is no later than they
  pub told : (c : ℕ) (cs : List ℕ) → AreChoices m (c ∷ cs) → IsCovered verdict (length cs + 1)
      → m.label (after_choices m s cs) c ≢ []
      → IsFoundBy (steps_of vs) fs (m.label (after_choices m s cs) c) (c ∷ cs)
  -- and each visit is reached on its way, and each label shown on its way, as long as it says
  pub reached : (j : ℕ) (u : Keyed) → slice_get vs j ≡ Some u → IsReached m s (steps_of vs) j (key_of u) u.depth
  pub shown : (k : ℕ) (f : Found) → slice_get fs k ≡ Some f
      → IsShownBy m s (steps_of vs) f.at f.choice f.label.items f.depth

-- for each state for which the first key stands
abbrev pub Explains : Model → List ℕ → List Keyed → List Found → Extent → Type 0
Explains m start vs fs verdict = (s : m.State) → m.stands start s → Tells m s vs fs verdict
