-- Whether a label can come again, wherever choices lead.
use Rattle.std.specs.Prelude.{◌≡◌, ◌≢◌, ℕ, ◌/◌, ◌%◌, ◌<◌, ◌≤◌, Bool, true, false, List, length, Some, slice_get}
use Rattle.std.specs.Prelude.{slice_index}
use Rattle.std.specs.List.{AllByRecursion}
use Rattle.pip_search.specs.Keys.{Keyed, key_of}
use Rattle.pip_search.specs.Orders.{IsNoLater}
use Rattle.pip_search.specs.Reached.{AreChoices}
use Rattle.pip_search.specs.Searching.{IsSearching}
use Rattle.pip_search.specs.Summary.{IsShownOn}
use Rattle.pip_search.specs.Systems.{LeadsOn, Model, after_choices}
use Rattle.pip_search.specs.declared.searching.Search.{Search}

-- ---- what is said

-- a label can come from a state by some of the first n choices alone
abbrev pub CanStillCome : (m : Model) → ℕ → m.State → List ℕ → Type 0
CanStillCome m n s label = (cs : List ℕ) × AllByRecursion (λ c. c < n) cs × IsShownOn m s label cs

-- so it is wherever choices lead, any of all
abbrev pub CanComeAgain : (m : Model) → ℕ → m.State → List ℕ → Type 0
CanComeAgain m n s label = (cs : List ℕ) → AreChoices m cs → CanStillCome m n (after_choices m s cs) label

-- after these choices it isn't so, and after none before them
pub record IsLost (m : Model) (n : ℕ) (s : m.State) (label way : List ℕ) : Type 0 where
  pub can : AreChoices m way
  pub lost : CanStillCome m n (after_choices m s way) label → ⊥
  pub first : (cs : List ℕ) → AreChoices m cs → (CanStillCome m n (after_choices m s cs) label → ⊥) → IsNoLater way cs

-- ---- how it is found

-- all choices of all visits were made
pub record HasClosed (m : Model) (start : List ℕ) (s : Search) : Type 0 where
  pub end : ℕ
  pub all : length s.visits.items ≤ end
  pub searching : IsSearching m start s end 0

-- a choice in the states of a key leads to the states of visit j
pub record IsEdge (m : Model) (vs : List Keyed) (key : List ℕ) (c j : ℕ) : Type 0 where
  pub to : Keyed
  pub there : slice_get vs j ≡ Some to
  pub shown : List ℕ
  pub leads : LeadsOn m key c (key_of to) shown

-- it shows this label there
abbrev pub ShowsAt : (m : Model) → List ℕ → ℕ → List ℕ → Type 0
ShowsAt m key c label = (s : m.State) → m.stands key s → m.label s c ≡ label

-- it shows another
abbrev pub ShowsOther : (m : Model) → List ℕ → ℕ → List ℕ → Type 0
ShowsOther m key c label = (s : m.State) → m.stands key s → m.label s c ≢ label

-- one of the first n choices shows the label, or none does
abbrev pub IsShownAmong : Model → List ℕ → List ℕ → ℕ → Bool → Type 0
IsShownAmong m key label n true = (c : ℕ) × ((c < n) × ShowsAt m key c label)
IsShownAmong m key label n false = (c : ℕ) → c < n → ShowsOther m key c label

-- these are edges of visits, `width` of each
abbrev pub AreEdges : Model → List Keyed → ℕ → List ℕ → Type 0
AreEdges m vs width targets = (e : ℕ) (u : Keyed) → e < length targets → slice_get vs (e / width) ≡ Some u
    → IsEdge m vs (key_of u) (e % width) (slice_index targets e)

-- and these say of visits whether one of their first choices shows the label
abbrev pub AreFlags : Model → List Keyed → List ℕ → ℕ → List Bool → Type 0
AreFlags m vs label width shows = (j : ℕ) (u : Keyed) (b : Bool) → slice_get vs j ≡ Some u → slice_get shows j ≡ Some b
    → IsShownAmong m (key_of u) label width b
