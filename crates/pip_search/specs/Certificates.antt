-- Certificates: parts of the states that choices lead to, each checked by itself, and what they say together.
use Rattle.std.specs.Prelude.{◌≡◌, ◌≢◌, ℕ, ◌+◌, ◌<◌, ◌≤◌, ◌⊎◌, List, [], ◌∷◌, ◌++◌, length, map, Some, slice_get}
use Rattle.pip_search.specs.Naming.{AreDistinct}
use Rattle.pip_search.specs.Reached.{AreChoices}
use Rattle.pip_search.specs.Summary.{AreCounted, HasOneKey, IsEnd, IsShownOn}
use Rattle.pip_search.specs.Systems.{LeadsOn, Model, after_choices}
use Rattle.pip_search.specs.declared.searching.Extent.TheVariants.{Closed}

-- a key, and a number of choices that lead to a state of it
pub record Stop : Type 0 where
  pub key : List ℕ
  pub depth : ℕ

-- a part: its keys, the keys that it asks of the other parts, and the labels that it shows
pub record Portion : Type 0 where
  pub keys : List Stop
  pub asked : List Stop
  pub labels : List (List ℕ)

-- one of these has this key, and its depth is n or less
pub record HasStop (xs : List Stop) (key : List ℕ) (n : ℕ) : Type 0 where
  pub place : ℕ
  pub stop : Stop
  pub at : slice_get xs place ≡ Some stop
  pub same : stop.key ≡ key
  pub soon : stop.depth ≤ n

-- a label is one of these
pub record HasText (texts : List (List ℕ)) (text : List ℕ) : Type 0 where
  pub place : ℕ
  pub at : slice_get texts place ≡ Some text

-- a choice at a key of a part leads to a key that the part has or asks for, with a depth that is one more or less, and
-- what it shows is among the part's labels, unless that is nothing
pub record IsMet (m : Model) (p : Portion) (x : Stop) (c : ℕ) : Type 0 where
  pub next : List ℕ
  pub shown : List ℕ
  pub leads : LeadsOn m x.key c next shown
  pub met : HasStop p.keys next (x.depth + 1) ⊎ HasStop p.asked next (x.depth + 1)
  pub told : shown ≢ [] → HasText p.labels shown

-- a part is closed, but for what it asks: so it is with each choice at each of its keys
abbrev pub IsClosedPart : Model → Portion → Type 0
IsClosedPart m p = (j c : ℕ) (x : Stop) → slice_get p.keys j ≡ Some x → c < m.choices → IsMet m p x c

-- as many choices as a depth says can be made from s, and lead to a state of the key
pub record IsReachedBy (m : Model) (s : m.State) (x : Stop) : Type 0 where
  pub choices : List ℕ
  pub can : AreChoices m choices
  pub count : length choices ≡ x.depth
  pub stands : m.stands x.key (after_choices m s choices)

-- choices can be made from s, the last of which shows a label
pub record CanShow (m : Model) (s : m.State) (label : List ℕ) : Type 0 where
  pub choices : List ℕ
  pub shown : IsShownOn m s label choices

-- a part has nothing that can't be reached from s, or shown
pub record IsReachedPart (m : Model) (s : m.State) (p : Portion) : Type 0 where
  pub keys : (j : ℕ) (x : Stop) → slice_get p.keys j ≡ Some x → IsReachedBy m s x
  pub labels : (j : ℕ) (label : List ℕ) → slice_get p.labels j ≡ Some label → (label ≢ []) × CanShow m s label

-- some part has this key, and its depth is n or less
pub record IsInSome (ps : List Portion) (key : List ℕ) (n : ℕ) : Type 0 where
  pub place : ℕ
  pub part : Portion
  pub at : slice_get ps place ≡ Some part
  pub has : HasStop part.keys key n

-- some part has this label
pub record IsShownInSome (ps : List Portion) (label : List ℕ) : Type 0 where
  pub place : ℕ
  pub part : Portion
  pub at : slice_get ps place ≡ Some part
  pub has : HasText part.labels label

-- some part has the key at which all begins, and whatever a part asks, some part has
pub record AreMerged (start : List ℕ) (ps : List Portion) : Type 0 where
  pub start_is : IsInSome ps start 0
  pub asked : (j k : ℕ) (p : Portion) (x : Stop) → slice_get ps j ≡ Some p → slice_get p.asked k ≡ Some x
      → IsInSome ps x.key x.depth

-- some part has a key of this state, and its depth is n or less
pub record StandsInSome (m : Model) (ps : List Portion) (s : m.State) (n : ℕ) : Type 0 where
  pub key : List ℕ
  pub stands : m.stands key s
  pub has : IsInSome ps key n

-- parts say all that can happen from s
pub record SayAll (m : Model) (s : m.State) (ps : List Portion) : Type 0 where
  -- whatever choices are made lead to a state of which some part has a key, and its depth is no more than their number
  pub all : (cs : List ℕ) → AreChoices m cs → StandsInSome m ps (after_choices m s cs) (length cs)
  -- and some part has the label that the last of them shows
  pub told : (label cs : List ℕ) → IsShownOn m s label cs → label ≢ [] → IsShownInSome ps label

-- parts are closed, but for what they ask
abbrev pub AreClosedParts : Model → List Portion → Type 0
AreClosedParts m ps = (j : ℕ) (p : Portion) → slice_get ps j ≡ Some p → IsClosedPart m p

-- and nothing is in them that can't be reached from s
abbrev pub AreReachedParts : (m : Model) → m.State → List Portion → Type 0
AreReachedParts m s ps = (j : ℕ) (p : Portion) → slice_get ps j ≡ Some p → IsReachedPart m s p

-- The law on certificates: parts that are closed but for what they ask, of which some part has each, say all that can
-- happen from a state for which the first key stands
abbrev pub CertificatesSayAll : Model → Type 0
CertificatesSayAll m = (start : List ℕ) (ps : List Portion) → AreClosedParts m ps → AreMerged start ps
    → (s : m.State) → m.stands start s → SayAll m s ps

-- the keys of all parts
unfoldable pub all_stops : List Portion → List Stop
all_stops [] = []
all_stops (p ∷ ps) = p.keys ++ all_stops ps

-- and without their depths
abbrev pub all_keys : List Portion → List (List ℕ)
all_keys ps = map (λ x. x.key) (all_stops ps)

-- no key is deeper, and one is as deep
pub record IsDeepest (xs : List Stop) (depth : ℕ) : Type 0 where
  pub within : (j : ℕ) (x : Stop) → slice_get xs j ≡ Some x → x.depth ≤ depth
  pub place : ℕ
  pub stop : Stop
  pub at : slice_get xs place ≡ Some stop
  pub depth_is : stop.depth ≡ depth

-- what parts count: each state that can be reached, once, and how deep the deepest is, as a search that ends closed
pub record CountAll (m : Model) (s : m.State) (ps : List Portion) (depth : ℕ) : Type 0 where
  pub counted : AreCounted m s (all_keys ps) (Closed depth)
  pub ends : (most limit : ℕ) → depth < most → length (all_keys ps) ≤ limit → IsEnd m s (all_keys ps) most limit
      (Closed depth)

-- The law on exact certificates: where no state has two keys, no key comes twice, and each was reached, parts count
abbrev pub CertificatesCountAll : Model → Type 0
CertificatesCountAll m = HasOneKey m → (start : List ℕ) (ps : List Portion) (depth : ℕ) → AreClosedParts m ps
    → AreMerged start ps → AreDistinct (all_keys ps) → IsDeepest (all_stops ps) depth
    → (s : m.State) → m.stands start s → AreReachedParts m s ps → CountAll m s ps depth
