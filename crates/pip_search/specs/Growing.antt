-- Visits and labels, one more at a time.
use Rattle.std.specs.Prelude.{◌≡◌, ℕ, ◌≤◌, List, [], ◌∷◌, ◌++◌, ◌⊎◌, ◌≢◌, length, Some, slice_get}
use Rattle.pip_search.specs.Keys.{Keyed, key_bytes}
use Rattle.pip_search.specs.Naming.{IsAbsent}
use Rattle.pip_search.specs.Packing.{packed_key, unpacked_key}
use Rattle.pip_search.specs.declared.found.Found.{Found}

-- the visit at a place has this key, as bytes
pub record HasKeyAt (vs : List Keyed) (j : ℕ) (key : List ℕ) : Type 0 where
  pub visit : Keyed
  pub at : slice_get vs j ≡ Some visit
  pub same : visit.key ≡ key

-- some visit has this key
pub record HasKey (vs : List Keyed) (key : List ℕ) : Type 0 where
  pub place : ℕ
  pub at : HasKeyAt vs place key

-- some visit has the key of these words, which are read off it
pub record WasVisited (vs : List Keyed) (words : List ℕ) : Type 0 where
  pub has : HasKey vs (packed_key words)
  pub back : unpacked_key (packed_key words) ≡ words

-- a new visit, after the others
pub record AddsVisit (vs ws : List Keyed) (key : List ℕ) (parent choice depth run : ℕ) : Type 0 where
  pub visit : Keyed
  pub whole : ws ≡ vs ++ visit ∷ []
  pub key_is : visit.key ≡ key
  pub parent_is : visit.parent ≡ parent
  pub choice_is : visit.choice ≡ choice
  pub depth_is : visit.depth ≡ depth
  pub run_is : visit.run ≡ run

-- the visits stay, and one has this key
pub record HasKeyAlready (vs ws : List Keyed) (key : List ℕ) : Type 0 where
  pub same : ws ≡ vs
  pub has : HasKey vs key

-- a state was visited: before, or now, and then after the others
abbrev pub Grew : List Keyed → List Keyed → List ℕ → ℕ → ℕ → ℕ → ℕ → Type 0
Grew vs ws key parent choice depth run = HasKeyAlready vs ws key ⊎ AddsVisit vs ws key parent choice depth run

-- there is no room: there are that many visits, and none has this key
pub record IsFull (vs : List Keyed) (key : List ℕ) (limit : ℕ) : Type 0 where
  pub count : limit ≤ length vs
  pub absent : IsAbsent (key_bytes vs) key

-- the label at a place is this one
pub record HasLabelAt (fs : List Found) (j : ℕ) (label : List ℕ) : Type 0 where
  pub found : Found
  pub at : slice_get fs j ≡ Some found
  pub same : found.label.items ≡ label

-- a label is among those found
pub record HasLabel (fs : List Found) (label : List ℕ) : Type 0 where
  pub place : ℕ
  pub at : HasLabelAt fs place label

-- a new label, after the others
pub record AddsLabel (fs gs : List Found) (label : List ℕ) (at choice depth : ℕ) : Type 0 where
  pub found : Found
  pub whole : gs ≡ fs ++ found ∷ []
  pub label_is : found.label.items ≡ label
  pub some : label ≢ []
  pub at_is : found.at ≡ at
  pub choice_is : found.choice ≡ choice
  pub depth_is : found.depth ≡ depth

-- the labels stay: there is none to tell, or it was told
pub record KeepsLabels (fs gs : List Found) (label : List ℕ) : Type 0 where
  pub same : gs ≡ fs
  pub has : (label ≡ []) ⊎ HasLabel fs label

-- a label was told: before, or now, and then after the others
abbrev pub Told : List Found → List Found → List ℕ → ℕ → ℕ → ℕ → Type 0
Told fs gs label at choice depth = KeepsLabels fs gs label ⊎ AddsLabel fs gs label at choice depth
