-- A part of a certificate while it is checked.
use Rattle.std.specs.Prelude.{◌≡◌, ℕ, ◌<◌, ◌⊎◌, Bool, List, [], ◌∷◌, ◌++◌, length, map, min, Some, slice_get}
use Rattle.pip_search.specs.Certificates.{IsMet, IsReachedBy, IsReachedPart, Portion, Stop}
use Rattle.pip_search.specs.Keys.{labels}
use Rattle.pip_search.specs.Naming.{AreNamed}
use Rattle.pip_search.specs.Packing.{packed_key, unpacked_key}
use Rattle.pip_search.specs.Portions.{AreAllMoves, AreLed, Move, walk_on, walk_rows, with_move}
use Rattle.pip_search.specs.Systems.{LeadsOn, Model}
use Rattle.pip_search.specs.declared.parts.Part.{Part}
use Rattle.pip_search.specs.declared.stops.Reached.{Reached}

-- a key and its depth, where the key is kept as bytes
abbrev pub stop_of : Reached → Stop
stop_of x = record { key = unpacked_key x.key.items; depth = x.depth }

-- and so of each
abbrev pub stops : List Reached → List Stop
stops xs = map stop_of xs

-- what a part says
abbrev pub portion_of : Part → Portion
portion_of p = record { keys = stops p.keys.items; asked = stops p.asked.items; labels = labels p.found.items }

-- a key with its depth
abbrev pub stop_at : List ℕ → ℕ → Stop
stop_at key depth = record { key = key; depth = depth }

-- keys stay, or there is one more
abbrev pub AddsAtMostOne : List Stop → List Stop → Stop → Type 0
AddsAtMostOne xs ys x = (ys ≡ xs) ⊎ (ys ≡ xs ++ x ∷ [])

-- these are the words of the key at place i
abbrev pub AreWordsAt : List Stop → ℕ → List ℕ → Type 0
AreWordsAt xs i words = (x : Stop) → slice_get xs i ≡ Some x → x.key ≡ words

-- as many choices as the depth says lead from each state of the first key to one of this key
abbrev pub IsReachedFrom : Model → List ℕ → Stop → Type 0
IsReachedFrom m start x = (s : m.State) → m.stands start s → IsReachedBy m s x

-- the choices at the keys before i were made, and the first c at key i; all was reached from the first key, and labels
-- are found by their hashes
pub record IsGrowing (m : Model) (start : List ℕ) (p : Part) (i c : ℕ) : Type 0 where
  pub before : (j d : ℕ) (x : Stop) → j < i → slice_get (stops p.keys.items) j ≡ Some x → d < m.choices
      → IsMet m (portion_of p) x d
  pub here : (d : ℕ) (x : Stop) → d < c → slice_get (stops p.keys.items) i ≡ Some x → IsMet m (portion_of p) x d
  pub reached : (s : m.State) → m.stands start s → IsReachedPart m s (portion_of p)
  pub named : AreNamed (labels p.found.items) p.labels

-- keys are kept as the bytes of their words
abbrev pub ArePacked : List Reached → Type 0
ArePacked xs =
    (j : ℕ) (x : Reached) → slice_get xs j ≡ Some x → packed_key (unpacked_key x.key.items) ≡ x.key.items

-- a choice at a key was made, by its mark
pub record HasMoved (m : Model) (x : Stop) (choice : ℕ) (own : Bool) (p q : Portion) : Type 0 where
  pub move : Move
  pub leads : LeadsOn m x.key choice move.next move.shown
  pub is : q ≡ with_move p x own move

-- all choices at the keys before i were made, by the marks before a place
pub record IsWalked (m : Model) (marks : List ℕ) (from : Stop) (p : Portion) (i at : ℕ) : Type 0 where
  pub rows : List (List Move)
  pub are : AreAllMoves m marks from rows
  pub count : length rows ≡ i
  pub is : p ≡ (walk_rows marks from rows).portion
  pub place : at ≡ min (walk_rows marks from rows).used (length marks)

-- and the first c at key i
pub record IsWalkedOn (m : Model) (marks : List ℕ) (from : Stop) (p : Portion) (i c at : ℕ) : Type 0 where
  pub rows : List (List Move)
  pub are : AreAllMoves m marks from rows
  pub count : length rows ≡ i
  pub stop : Stop
  pub here : slice_get (walk_rows marks from rows).portion.keys i ≡ Some stop
  pub row : List Move
  pub led : AreLed m stop.key row
  pub made : length row ≡ c
  pub stays : slice_get p.keys i ≡ Some stop
  pub is : p ≡ (walk_on marks stop (walk_rows marks from rows) row).portion
  pub place : at ≡ min (walk_on marks stop (walk_rows marks from rows) row).used (length marks)
