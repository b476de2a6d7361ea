-- What parts ask, compared with what they have: the lists of all parts, each in one order.
use Rattle.std.specs.Prelude.{◌≡◌, ℕ, List, Some, slice_get}
use Rattle.pip_search.specs.Certificates.{AreMerged, HasStop, IsInSome, Portion, Stop}

-- one of these is that one
pub record HasThis (xs : List Stop) (x : Stop) : Type 0 where
  pub place : ℕ
  pub at : slice_get xs place ≡ Some x

-- whatever is asked is among the keys, with a depth that is no greater
abbrev pub AreAnswered : List Stop → List Stop → Type 0
AreAnswered keys asked = (j : ℕ) (x : Stop) → slice_get asked j ≡ Some x → HasStop keys x.key x.depth

-- keys that parts have, and all that they ask: of the one list none is made up, and of the other none is left out
pub record AreListed (ps : List Portion) (keys asked : List Stop) : Type 0 where
  pub keys_are : (j : ℕ) (x : Stop) → slice_get keys j ≡ Some x → IsInSome ps x.key x.depth
  pub asked_are : (j k : ℕ) (p : Portion) (x : Stop) → slice_get ps j ≡ Some p → slice_get p.asked k ≡ Some x
      → HasThis asked x

-- The law on merging: where the keys have the first one, and all that is asked, some part has what each part asks
abbrev pub ListsMerge : Type 0
ListsMerge = (start : List ℕ) (ps : List Portion) (keys asked : List Stop) → AreListed ps keys asked
    → HasStop keys start 0 → AreAnswered keys asked → AreMerged start ps
