-- That a label comes, wherever choices lead, where the choices that are made are fair. Choices may have classes: number
-- c of a list is the class of choice c, and 0 where it has none.
use Rattle.std.specs.Prelude.{◌≡◌, ◌≢◌, ℕ, zero, suc, ◌*◌, ◌/◌, ◌%◌, ◌<◌, ◌≤◌, ◌⊎◌, List, [], ◌∷◌, ◌++◌, length, Some}
use Rattle.std.specs.Prelude.{◌+◌, reverse, slice_get, slice_index}
use Rattle.pip_search.specs.Again.{IsEdge, ShowsAt, ShowsOther}
use Rattle.pip_search.specs.Keys.{Keyed, key_of}
use Rattle.pip_search.specs.Reached.{AreChoices}
use Rattle.pip_search.specs.Summary.{IsShownOn}
use Rattle.pip_search.specs.Systems.{Model, after_choices}
use Rattle.pip_search.specs.Ways.{way_to}
use Rattle.pip_search.specs.declared.coming.Coming.{Coming}
use Rattle.pip_search.specs.declared.coming.Coming.TheVariants.{Avoided, Within}
use Rattle.pip_search.specs.declared.visits.Visit.{Visit}

-- ---- what is said

-- one of these choices is of this class
pub record HasOneOf (classes cs : List ℕ) (class : ℕ) : Type 0 where
  pub place : ℕ
  pub choice : ℕ
  pub at : slice_get cs place ≡ Some choice
  pub class_is : slice_index classes choice ≡ class

-- and so of each class
abbrev pub HasEach : List ℕ → List ℕ → Type 0
HasEach classes cs = (c : ℕ) → 0 < slice_index classes c → HasOneOf classes cs (slice_index classes c)

-- each class has a window, a number n: among any n of these choices in a row is one of the class
abbrev pub AreFair : List ℕ → (ℕ → ℕ) → List ℕ → Type 0
AreFair classes windows cs = (c : ℕ) (later some first : List ℕ) → 0 < slice_index classes c
    → cs ≡ later ++ (some ++ first) → length some ≡ windows (slice_index classes c)
    → HasOneOf classes some (slice_index classes c)

-- the sum of these counts, each times the window of its class, from class k on
abbrev pub in_windows : (ℕ → ℕ) → ℕ → List ℕ → ℕ
in_windows windows k [] = 0
in_windows windows k (n ∷ ns) = windows k * n + in_windows windows (suc k) ns

-- the first of these choices, n at most, show a label by the last of them
pub record IsShownSoon (m : Model) (s : m.State) (label cs : List ℕ) (n : ℕ) : Type 0 where
  pub later : List ℕ
  pub first : List ℕ
  pub whole : cs ≡ later ++ first
  pub shown : IsShownOn m s label first
  pub soon : length first ≤ n

-- wherever choices lead, whatever choices are made next, fair by some windows: if there are as many as the sum of
-- these counts times the windows of the classes, class 0 too, they show the label
abbrev pub MustCome : (m : Model) → List ℕ → m.State → List ℕ → List ℕ → Type 0
MustCome m classes s label counts = (before cs : List ℕ) (windows : ℕ → ℕ) → AreChoices m before → AreChoices m cs
    → ((k : ℕ) → 0 < windows k) → AreFair classes windows cs → in_windows windows 0 counts ≤ length cs
    → IsShownSoon m (after_choices m s before) label cs (in_windows windows 0 counts)

-- none of these choices shows the label
abbrev pub IsHidden : (m : Model) → m.State → List ℕ → List ℕ → Type 0
IsHidden m s label [] = Unit {0}
IsHidden m s label (c ∷ cs) = (m.label (after_choices m s cs) c ≢ label) × IsHidden m s label cs

-- choices, that many times over
abbrev pub times_over : ℕ → List ℕ → List ℕ
times_over zero cs = []
times_over (suc n) cs = cs ++ times_over n cs

-- after a way a loop of choices, which has each class, can be made over and over, and never shows the label
pub record IsAvoided (m : Model) (classes : List ℕ) (s : m.State) (label way loop : List ℕ) : Type 0 where
  pub can : AreChoices m way
  pub on : AreChoices m loop
  pub some : 0 < length loop
  pub each : HasEach classes loop
  pub never : (n : ℕ) → IsHidden m (after_choices m s way) label (times_over n loop)

-- ---- how it is found

-- the class that is helpful at visit j: that of a choice
abbrev pub helpful : List ℕ → List ℕ → ℕ → ℕ
helpful classes helpers j = slice_index classes (slice_index helpers j)

-- the rank of visit j in column k
abbrev pub rank_at : List ℕ → ℕ → ℕ → ℕ → ℕ
rank_at ranks columns j k = slice_index ranks (j * columns + k)

-- visit j has a rank in the column of its helpful class
pub record HasRank (classes ranks helpers : List ℕ) (columns j : ℕ) : Type 0 where
  pub inside : helpful classes helpers j < columns
  pub some : 0 < rank_at ranks columns j (helpful classes helpers j)

-- no rank of visit t is above that of visit j
abbrev pub NoneRises : List ℕ → ℕ → ℕ → ℕ → Type 0
NoneRises ranks columns j t = (k : ℕ) → k < columns → rank_at ranks columns t k ≤ rank_at ranks columns j k

-- from visit j to visit t the helpful class stays the same, by a choice of another class
pub record IsLevel (classes helpers : List ℕ) (j c t : ℕ) : Type 0 where
  pub same : helpful classes helpers t ≡ helpful classes helpers j
  pub some : 0 < helpful classes helpers j
  pub other : slice_index classes c ≢ helpful classes helpers j

-- no rank rises, and that of the helpful class falls, or it is so
pub record GoesDown (classes ranks helpers : List ℕ) (columns j c t : ℕ) : Type 0 where
  pub below : NoneRises ranks columns j t
  pub down : (rank_at ranks columns t (helpful classes helpers j) < rank_at ranks columns j (helpful classes helpers j))
      ⊎ IsLevel classes helpers j c t

-- a choice in the states of a key shows the label, or leads to visit t
abbrev pub IsCutEdge : Model → List Keyed → List ℕ → ℕ → List ℕ → ℕ → Type 0
IsCutEdge m vs key c label t = ((t ≡ 0xffffffff) × ShowsAt m key c label) ⊎
    (IsEdge m vs key c t × ShowsOther m key c label)

-- so of each choice of visits, `width` of each
abbrev pub AreCutEdges : Model → List Keyed → List ℕ → ℕ → List ℕ → Type 0
AreCutEdges m vs label width targets = (e : ℕ) (u : Keyed) → e < length targets → slice_get vs (e / width) ≡ Some u
    → IsCutEdge m vs (key_of u) (e % width) label (slice_index targets e)

-- a choice that is cut shows the label, or it goes down
pub record PassesRanks (classes ranks helpers : List ℕ) (columns width : ℕ) (targets : List ℕ) (e : ℕ) : Type 0 where
  pub ready : HasRank classes ranks helpers columns (e / width)
  pub down : (slice_index targets e ≡ 0xffffffff)
      ⊎ GoesDown classes ranks helpers columns (e / width) (e % width) (slice_index targets e)

-- each choice of each visit shows the label, or leads down
pub record IsFalling (m : Model) (vs : List Keyed) (label classes ranks helpers : List ℕ)
    (columns j c : ℕ) (u : Keyed) :
    Type 0 where
  pub ready : HasRank classes ranks helpers columns j
  pub down : ShowsAt m (key_of u) c label
      ⊎ ((t : ℕ) × (IsEdge m vs (key_of u) c t × GoesDown classes ranks helpers columns j c t))

-- and so of all choices of all visits
abbrev pub AreFalling : Model → List Keyed → List ℕ → List ℕ → List ℕ → List ℕ → ℕ → Type 0
AreFalling m vs label classes ranks helpers columns = (j c : ℕ) (u : Keyed) → slice_get vs j ≡ Some u → c < m.choices
    → IsFalling m vs label classes ranks helpers columns j c u

-- choices, the last of which stands first, lead from visit j to visit k, and none is cut
abbrev pub IsWalk : List ℕ → ℕ → ℕ → List ℕ → ℕ → Type 0
IsWalk targets width j [] k = k ≡ j
IsWalk targets width j (c ∷ cs) k = (i : ℕ) × (IsWalk targets width j cs i
    × ((c < width) × ((i * width + c < length targets)
    × ((slice_index targets (i * width + c) ≡ k) × (k ≢ 0xffffffff)))))

-- what is said of a label that a search from s asks for, by its visits
abbrev pub ComingHolds : (m : Model) → List ℕ → m.State → List ℕ → List Visit → Coming → Type 0
ComingHolds m classes s label vs (Within counts) = MustCome m classes s label counts.items
ComingHolds m classes s label vs (Avoided place choices) = (place < length vs)
    × IsAvoided m classes s label (way_to vs place) (reverse choices.items)

-- The law on labels that come: no loop avoids them
abbrev pub ComingIsNotAvoided : Model → Type 0
ComingIsNotAvoided m = (classes : List ℕ) (s : m.State) (label way loop counts : List ℕ)
    → MustCome m classes s label counts → IsAvoided m classes s label way loop → ⊥
