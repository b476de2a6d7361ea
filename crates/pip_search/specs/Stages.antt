-- Places that are left, stage by stage: those go from which no choice of some class can be made any more among the
-- places that are left (Emerson and Lei).
use Rattle.std.specs.Prelude.{◌≡◌, ℕ, zero, suc, ◌+◌, ◌*◌, ◌<◌, ◌≤◌, ◌⊎◌, List, [], ◌∷◌, ◌++◌, length, Some}
use Rattle.std.specs.Prelude.{Bool, if◌then◌else◌, ◌==◌, reverse, slice_get, slice_index, take}
use Rattle.std.specs.Prelude.{◌≢◌, true, false}
use Rattle.pip_search.specs.Comes.{HasEach, HasOneOf, IsWalk, PassesRanks, rank_at}
use Rattle.pip_search.specs.declared.coming.Coming.{Coming}
use Rattle.pip_search.specs.declared.coming.Coming.TheVariants as C
use Rattle.pip_search.specs.declared.stages.Settled.{Settled}
use Rattle.pip_search.specs.declared.stages.Settled.TheVariants.{Looped, Ranked}

-- where choice c of place j leads
abbrev pub to_of : List ℕ → ℕ → ℕ → ℕ → ℕ
to_of targets width j c = slice_index targets (j * width + c)

-- each choice is cut, or leads to one of the places
abbrev pub LeadInside : List ℕ → ℕ → Type 0
LeadInside targets count = (e : ℕ) → e < length targets
    → (slice_index targets e ≡ 0xffffffff) ⊎ (slice_index targets e < count)

-- a place is left: it has no stage yet
pub record HasNoStage (stages : List ℕ) (j : ℕ) : Type 0 where
  pub inside : j < length stages
  pub none : slice_index stages j ≡ 0

-- a choice serves a goal, which is a choice, too: it is of its class, or the goal has none
abbrev pub Serves : List ℕ → ℕ → ℕ → Type 0
Serves classes goal c = (slice_index classes goal ≡ 0) ⊎ (slice_index classes c ≡ slice_index classes goal)

-- a place has an order below d
pub record IsNearer (orders : List ℕ) (d k : ℕ) : Type 0 where
  pub some : 0 < slice_index orders k
  pub lower : slice_index orders k < d

-- choice c of place j leads to a place that is left, and serves a goal, or that place is nearer to it
pub record IsStep (targets classes stages : List ℕ) (width goal : ℕ) (orders : List ℕ) (d j c : ℕ) : Type 0 where
  pub low : c < width
  pub to : HasNoStage stages (to_of targets width j c)
  pub nearer : Serves classes goal c ⊎ IsNearer orders d (to_of targets width j c)

-- a place has such a choice
pub record HasStep (targets classes stages : List ℕ) (width goal : ℕ) (orders : List ℕ) (d j : ℕ) : Type 0 where
  pub choice : ℕ
  pub is : IsStep targets classes stages width goal orders d j choice

-- each place with an order has a choice that leads nearer to the goal
abbrev pub OrdersLead : List ℕ → List ℕ → List ℕ → ℕ → ℕ → List ℕ → Type 0
OrdersLead targets classes stages width goal orders = (j : ℕ) → 0 < slice_index orders j
    → HasStep targets classes stages width goal orders (slice_index orders j) j

-- no choice leads to an order from a place that is left and has none
abbrev pub AreDone : List ℕ → List ℕ → List ℕ → ℕ → ℕ → List ℕ → ℕ → ℕ → Type 0
AreDone targets classes stages width goal orders d count = (j : ℕ) → j < count → HasNoStage stages j
    → slice_index orders j ≡ 0 → (c : ℕ) → IsStep targets classes stages width goal orders d j c → ⊥

-- all places that are left have an order
pub record AllHaveOrders (targets classes stages : List ℕ) (width goal : ℕ) (orders : List ℕ) : Type 0 where
  pub ordered : OrdersLead targets classes stages width goal orders
  pub all : (j : ℕ) → HasNoStage stages j → 0 < slice_index orders j

-- how many words are 0
unfoldable pub zeros_in : List ℕ → ℕ
zeros_in [] = 0
zeros_in (x ∷ xs) = if x == 0 then suc (zeros_in xs) else zeros_in xs

-- the class of the goal of a stage, from 1 on
abbrev pub class_of : List ℕ → List ℕ → ℕ → ℕ
class_of classes goals zero = 0
class_of classes goals (suc s) = slice_index classes (slice_index goals s)

-- place k is of the stage of place j, and choice c isn't of its class, which is one
pub record IsOwn (classes goals stages : List ℕ) (j c k : ℕ) : Type 0 where
  pub same : slice_index stages k ≡ slice_index stages j
  pub some : 0 < class_of classes goals (slice_index stages j)
  pub other : slice_index classes c ≢ class_of classes goals (slice_index stages j)

-- choice c leads from place j to place k of an earlier stage, or of its own
pub record LeadsBack (classes goals stages : List ℕ) (j c k : ℕ) : Type 0 where
  pub gone : 0 < slice_index stages k
  pub back : (slice_index stages k < slice_index stages j) ⊎ IsOwn classes goals stages j c k

-- so do all choices of the places that have stages, but for those that are cut
pub record AreStaged (targets classes stages goals : List ℕ) (width count : ℕ) : Type 0 where
  pub count_is : length stages ≡ count
  pub few : length goals + zeros_in stages ≤ count
  pub within : (j : ℕ) → slice_index stages j ≤ length goals
  pub back : (j c : ℕ) → 0 < slice_index stages j → c < width
      → (to_of targets width j c ≡ 0xffffffff) ⊎ LeadsBack classes goals stages j c (to_of targets width j c)

-- orders that are whole: no place is left that lacks one and has a choice that leads nearer to the goal
pub record AreWhole (targets classes stages : List ℕ) (width goal : ℕ) (orders : List ℕ) : Type 0 where
  pub bound : ℕ
  pub below : (j : ℕ) → slice_index orders j < bound
  pub done : AreDone targets classes stages width goal orders bound (length stages)

-- a place that is left and has no order gets this stage, and any other keeps its own
abbrev pub IsRetired : List ℕ → List ℕ → ℕ → List ℕ → ℕ → Type 0
IsRetired old orders stage new j = (HasNoStage old j × ((slice_index orders j ≡ 0) × (slice_index new j ≡ stage)))
    ⊎ ((slice_index new j ≡ slice_index old j) × (HasNoStage old j → 0 < slice_index orders j))

-- places from one to another were swept: those that have a choice which leads nearer got this order, if some did
pub record IsSwept (targets classes stages : List ℕ) (width goal order from end : ℕ) (old new : List ℕ) (some : Bool) :
    Type 0 where
  pub count : length new ≡ length old
  pub ordered : OrdersLead targets classes stages width goal new
  pub below : (j : ℕ) → slice_index new j < order + 1
  pub most : zeros_in new ≤ zeros_in old
  pub less : some ≡ true → zeros_in new < zeros_in old
  pub same : some ≡ false → new ≡ old
  pub done : some ≡ false → (j : ℕ) → from ≤ j → j < end → HasNoStage stages j → slice_index new j ≡ 0 → (c : ℕ)
      → IsStep targets classes stages width goal new order j c → ⊥

-- places from one to another that are left and have no order got this stage, if some did
pub record AreRetired (orders : List ℕ) (stage from end : ℕ) (old new : List ℕ) (some : Bool) : Type 0 where
  pub count : length new ≡ length old
  pub each : (j : ℕ) → from ≤ j → j < end → IsRetired old orders stage new j
  pub before : (j : ℕ) → j < from → slice_index new j ≡ slice_index old j
  pub rest : (j : ℕ) → end ≤ j → slice_index new j ≡ slice_index old j
  pub most : zeros_in new ≤ zeros_in old
  pub less : some ≡ true → zeros_in new < zeros_in old
  pub same : some ≡ false → new ≡ old
  pub none : some ≡ false → (j : ℕ) → from ≤ j → j < end → HasNoStage old j → 0 < slice_index orders j

-- how many of the first stages have a goal of a class
abbrev pub stages_with : List ℕ → List ℕ → ℕ → ℕ → ℕ
stages_with classes goals column zero = 0
stages_with classes goals column (suc s) =
    (if slice_index classes (slice_index goals s) == column then 1 else 0) + stages_with classes goals column s

-- choices were added, and lead from place j to place k
pub record IsGoing (targets : List ℕ) (width j k : ℕ) (old new : List ℕ) : Type 0 where
  pub more : List ℕ
  pub whole : new ≡ old ++ more
  pub walk : IsWalk targets width j (reverse more) k

-- choices lead from place j to place k, by at least one that serves a goal
pub record IsServed (targets classes : List ℕ) (width goal j k : ℕ) (cs : List ℕ) : Type 0 where
  pub walk : IsWalk targets width j (reverse cs) k
  pub some : 0 < length cs
  pub serves : 0 < slice_index classes goal → HasOneOf classes cs (slice_index classes goal)

-- more choices were added, and lead so
pub record Serve (targets classes : List ℕ) (width goal j k : ℕ) (old new : List ℕ) : Type 0 where
  pub more : List ℕ
  pub whole : new ≡ old ++ more
  pub served : IsServed targets classes width goal j k more

-- choices lead from place j to place k, and serve the goals below n
pub record IsRound (targets classes : List ℕ) (width n j k : ℕ) (cs : List ℕ) : Type 0 where
  pub walk : IsWalk targets width j (reverse cs) k
  pub some : 0 < n → 0 < length cs
  pub each : (goal : ℕ) → goal < n → 0 < slice_index classes goal → HasOneOf classes cs (slice_index classes goal)

-- more choices were added, and lead so
pub record GoRound (targets classes : List ℕ) (width n j k : ℕ) (old new : List ℕ) : Type 0 where
  pub more : List ℕ
  pub whole : new ≡ old ++ more
  pub round : IsRound targets classes width n j k more

-- a round from place j to place k began after some of these choices: one less than a mark
pub record IsBegun (targets classes : List ℕ) (width mark j k : ℕ) (cs : List ℕ) : Type 0 where
  pub before : List ℕ
  pub mark_is : mark ≡ length before + 1
  pub since : GoRound targets classes width width j k before cs

-- choices lead from a place, one of `count`, back to it, and have each class
pub record IsFairLoop (targets classes : List ℕ) (width count j : ℕ) (cs : List ℕ) : Type 0 where
  pub inside : j < count
  pub walk : IsWalk targets width j (reverse cs) j
  pub some : 0 < length cs
  pub each : HasEach classes cs

-- all choices of all places pass by ranks, or a loop is fair
abbrev pub IsRankedOrLooped : List ℕ → List ℕ → ℕ → ℕ → ℕ → Settled → Type 0
IsRankedOrLooped targets classes columns width count (Ranked ranks helpers) = (e : ℕ) → e < length targets
    → PassesRanks classes ranks.items helpers.items columns width targets e
IsRankedOrLooped targets classes columns width count (Looped place choices) =
    IsFairLoop targets classes width count place choices.items

-- what is said of ranks or of a loop
abbrev pub IsSaidBy : ℕ → Settled → Coming → Type 0
IsSaidBy columns (Ranked ranks helpers) (C.Within counts) = (length counts.items ≡ columns)
    × ((j d : ℕ) → d < columns → rank_at ranks.items columns j d ≤ slice_index counts.items d)
IsSaidBy columns (Ranked ranks helpers) (C.Avoided place choices) = ⊥
IsSaidBy columns (Looped place choices) (C.Within counts) = ⊥
IsSaidBy columns (Looped place choices) (C.Avoided at over) = (at ≡ place) × (over ≡ choices)
