-- What a search has to say of a state of a system, in words that don't speak of how it was found.
use Rattle.std.specs.Prelude.{◌≡◌, ◌≢◌, ℕ, ◌+◌, ◌<◌, ◌≤◌, List, [], ◌∷◌, length, map, Some, slice_get}
use Rattle.pip_search.specs.Naming.{AreDistinct}
use Rattle.pip_search.specs.Orders.{IsBefore, IsNoLater}
use Rattle.pip_search.specs.Reached.{AreChoices, IsCovered}
use Rattle.pip_search.specs.Systems.{Model, after_choices}
use Rattle.pip_search.specs.declared.searching.Extent.{Extent}
use Rattle.pip_search.specs.declared.searching.Extent.TheVariants.{Closed, Stopped, Within}

-- a label, and a way on which it is shown: choices, the last one first
pub record Witness : Type 0 where
  pub label : List ℕ
  pub way : List ℕ

-- choices, the last one first, can be made from s, and the last of them shows a label
abbrev pub IsShownOn : (m : Model) → m.State → List ℕ → List ℕ → Type 0
IsShownOn m s label [] = ⊥
IsShownOn m s label (c ∷ cs) = AreChoices m (c ∷ cs) × (label ≡ m.label (after_choices m s cs) c)

-- a label has a witness, whose way is these choices or one before them
pub record HasWitness (ws : List Witness) (label cs : List ℕ) : Type 0 where
  pub place : ℕ
  pub witness : Witness
  pub at : slice_get ws place ≡ Some witness
  pub same : witness.label ≡ label
  pub first : IsNoLater witness.way cs

-- no state has two keys
abbrev pub HasOneKey : Model → Type 0
HasOneKey m = (key other : List ℕ) (s : m.State) → m.stands key s → m.stands other s → key ≡ other

-- n choices lead from s to a state of this key, and fewer don't
pub record IsAway (m : Model) (s : m.State) (key : List ℕ) (n : ℕ) : Type 0 where
  pub choices : List ℕ
  pub can : AreChoices m choices
  pub count : length choices ≡ n
  pub stands : m.stands key (after_choices m s choices)
  pub fewest : (cs : List ℕ) → AreChoices m cs → m.stands key (after_choices m s cs) → n ≤ length cs

-- one of these keys is of a state that is n choices away
pub record HasAway (m : Model) (s : m.State) (keys : List (List ℕ)) (n : ℕ) : Type 0 where
  pub place : ℕ
  pub key : List ℕ
  pub at : slice_get keys place ≡ Some key
  pub away : IsAway m s key n

-- one of these keys is of this state
pub record IsAmong (m : Model) (keys : List (List ℕ)) (s : m.State) : Type 0 where
  pub place : ℕ
  pub key : List ℕ
  pub at : slice_get keys place ≡ Some key
  pub stands : m.stands key s

-- n choices lead from s to a state that has none of these keys
pub record HasOneMore (m : Model) (s : m.State) (keys : List (List ℕ)) (n : ℕ) : Type 0 where
  pub choices : List ℕ
  pub can : AreChoices m choices
  pub count : length choices ≡ n
  pub none : IsAmong m keys (after_choices m s choices) → ⊥

-- by that many choices each state that is counted can be reached
abbrev pub farthest : Extent → ℕ
farthest (Closed depth) = depth
farthest (Within depth) = depth
farthest (Stopped depth) = depth + 1

-- these are the keys of states, each of which can be reached, and all that covered choices lead to are among them
pub record AreCounted (m : Model) (s : m.State) (keys : List (List ℕ)) (verdict : Extent) : Type 0 where
  pub distinct : AreDistinct keys
  pub reached : (j : ℕ) (key : List ℕ) → slice_get keys j ≡ Some key → (n : ℕ)
      × ((n ≤ farthest verdict) × IsAway m s key n)
  pub all : (cs : List ℕ) → AreChoices m cs → IsCovered verdict (length cs) → IsAmong m keys (after_choices m s cs)

-- a search ends closed, before the depth that was asked for, and the deepest state is that deep; or at that depth, and
-- some state is that deep; or before it, with as many states counted as the limit allows, and at least one more
abbrev pub IsEnd : (m : Model) → m.State → List (List ℕ) → ℕ → ℕ → Extent → Type 0
IsEnd m s keys most limit (Closed depth) = (depth < most) × ((length keys ≤ limit) × HasAway m s keys depth)
IsEnd m s keys most limit (Within depth) = (depth ≡ most) × ((length keys ≤ limit) × HasAway m s keys depth)
IsEnd m s keys most limit (Stopped depth) = (depth < most) × ((length keys ≡ limit) × HasOneMore m s keys (depth + 1))

-- what a search says: labels with their ways, how many states there are, and how it ended
pub record IsTold (m : Model) (s : m.State) (most limit : ℕ) (ws : List Witness) (count : ℕ) (end : Extent) : Type 0
  where
    -- each way can be made and shows its label, which isn't empty, and choices as many as it has were covered
    pub shown : (k : ℕ) (w : Witness) → slice_get ws k ≡ Some w → IsShownOn m s w.label w.way
        × ((w.label ≢ []) × IsCovered end (length w.way))
    -- whatever covered choices show has a witness, whose way is no later than they
    pub all : (label cs : List ℕ) → IsShownOn m s label cs → label ≢ [] → IsCovered end (length cs)
        → HasWitness ws label cs
    -- witnesses come in the order of their ways, and no two have one label
    pub order : (j k : ℕ) (v w : Witness) → j < k → slice_get ws j ≡ Some v → slice_get ws k ≡ Some w
        → IsBefore v.way w.way
    pub distinct : AreDistinct (map (λ w. w.label) ws)
    -- the states that are counted, by their keys, and how it ended
    pub keys : List (List ℕ)
    pub count_is : length keys ≡ count
    pub counted : AreCounted m s keys end
    pub ends : IsEnd m s keys most limit end

-- where no state has two keys, all that can be said of a state is the same
abbrev pub SaysOnce : Model → Type 0
SaysOnce m = HasOneKey m → (s : m.State) (most limit count n : ℕ) (ws xs : List Witness) (v w : Extent)
    → IsTold m s most limit ws count v → IsTold m s most limit xs n w → (ws ≡ xs) × ((count ≡ n) × (v ≡ w))
