-- Why a search ended.
use Rattle.std.specs.Prelude.{◌≡◌, ℕ, ◌+◌, ◌<◌, ◌≤◌, List, Some, length, slice_get}
use Rattle.pip_search.specs.Keys.{Keyed, key_of, keys}
use Rattle.pip_search.specs.Naming.{IsAbsent}
use Rattle.pip_search.specs.Systems.{Model, LeadsOn}
use Rattle.pip_search.specs.declared.searching.Extent.{Extent}
use Rattle.pip_search.specs.declared.searching.Extent.TheVariants.{Closed, Stopped, Within}

-- a choice of visit i leads to a key that no visit has, and there is no room for it
pub record IsBeyond (m : Model) (vs : List Keyed) (limit i : ℕ) : Type 0 where
  pub from : Keyed
  pub at : slice_get vs i ≡ Some from
  pub choice : ℕ
  pub can : choice < m.choices
  pub key : List ℕ
  pub shown : List ℕ
  pub leads : LeadsOn m (key_of from) choice key shown
  pub full : limit ≤ length vs
  pub absent : IsAbsent (keys vs) key

-- that visit has this depth
pub record HasMore (m : Model) (vs : List Keyed) (limit depth : ℕ) : Type 0 where
  pub place : ℕ
  pub beyond : IsBeyond m vs limit place
  pub depth_is : beyond.from.depth ≡ depth

-- some visit has this depth
pub record HasDepth (vs : List Keyed) (depth : ℕ) : Type 0 where
  pub place : ℕ
  pub visit : Keyed
  pub at : slice_get vs place ≡ Some visit
  pub depth_is : visit.depth ≡ depth

-- no visit is deeper
abbrev pub AreWithin : List Keyed → ℕ → Type 0
AreWithin vs depth = (j : ℕ) (u : Keyed) → slice_get vs j ≡ Some u → u.depth ≤ depth

-- a search ends where it is closed, before it comes to the depth that was asked for; where it has come to that depth;
-- and where, before it, one more state was reached than there is room for
abbrev pub Ends : Model → List Keyed → ℕ → ℕ → Extent → Type 0
Ends m vs most limit (Closed depth) = (depth < most) × (HasDepth vs depth × AreWithin vs depth)
Ends m vs most limit (Within depth) = (depth ≡ most) × (HasDepth vs depth × AreWithin vs depth)
Ends m vs most limit (Stopped depth) = (depth < most) × (HasMore m vs limit depth × AreWithin vs (depth + 1))
