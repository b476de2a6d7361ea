-- What a whole guest leaves alone, and what it depends on. A guest is a partition p other than the root with its
-- subtree, on all processors on which these run.
use Rattle.std.specs.Prelude.{◌≡◌, ◌≢◌, ℕ, ◌&&◌, ◌↔◌, ◌⊎◌, Bool, true, false, cond, List, [], ◌∷◌, length, Option, Some}
use Rattle.std.specs.Prelude.{None}
use Rattle.std.specs.List.{AllByRecursion}
use Rattle.pip_base.specs.declared.outcome.Outcome.{Outcome}
use Rattle.pip_base.specs.declared.outcome.Outcome.TheVariants as O
use Rattle.pip_base.specs.declared.types.Access.{Access}
use Rattle.pip_base.specs.declared.types.Size.{Size}
use Rattle.pip_model.specs.Events.{Event, IsEvent}
use Rattle.pip_model.specs.Events as E
use Rattle.pip_model.specs.Happens.{after, call_named, event}
use Rattle.pip_model.specs.declared.call_name.CallName.TheVariants.{Yields}
use Rattle.pip_model.specs.Lists.{In, has}
use Rattle.pip_model.specs.Local.{AgreeBelow, IsAside, IsButForMask, IsOutside, actor, cpu_of}
use Rattle.pip_model.specs.Reach.{reach}
use Rattle.pip_model.specs.Tree.{Tree, Node, ancestry, names_of, node, nodes, row_pages}
use Rattle.pip_model.specs.Worlds.{IsSoundWorld, World, done, runs_on}
use Rattle.pip_model.specs.declared.processors.Occupant.{Occupant}

-- ---- which events are a guest's own, and stay inside

-- an event that the partition on its processor makes: any but a raise and a poll
abbrev pub is_own : Event → Bool
is_own (E.Load cpu va size) = true
is_own (E.Store cpu va size word) = true
is_own (E.Fetch cpu) = true
is_own (E.Trap cpu k a b) = true
is_own (E.Call cpu number a) = true
is_own (E.Raise j) = false
is_own (E.Poll cpu) = false
is_own (E.SetContext cpu c) = true

-- such an event, where a partition of p's subtree runs on the processor. The subtree is that of the moment
abbrev pub is_of_guest : ℕ → World → Event → Bool
is_of_guest p w e = is_own e && has (ancestry w.tree (actor w e)) p

-- r, which makes the event, is p, and yields to its parent. A refusal shows whether the parent runs and what it handles
abbrev pub AsksParent : ℕ → ℕ → Event → Type 0
AsksParent p r (E.Call cpu number a) = (call_named number ≡ Yields) × (r ≡ p) × (a.x0 ≡ 0)
AsksParent p r (E.Load cpu va size) = ⊥
AsksParent p r (E.Store cpu va size word) = ⊥
AsksParent p r (E.Fetch cpu) = ⊥
AsksParent p r (E.Trap cpu k a b) = ⊥
AsksParent p r (E.Raise j) = ⊥
AsksParent p r (E.Poll cpu) = ⊥
AsksParent p r (E.SetContext cpu c) = ⊥

-- after this outcome a partition of p's subtree runs on the processor
abbrev pub StaysBelow : Tree → ℕ → Outcome → Type 0
StaysBelow t p (O.Word w) = Unit {0}
StaysBelow t p O.Done = Unit {0}
StaysBelow t p (O.Reply s v) = Unit {0}
StaysBelow t p (O.Switched from to k) = In p (ancestry t to)
StaysBelow t p (O.Parked from k) = ⊥
StaysBelow t p O.Idle = ⊥

-- an event of the guest p stays inside: an access that is answered, or whose fault a partition of the subtree takes; a
-- trap that one takes; a call that is replied to; a yield to a partition of the subtree; a context that is set
pub record IsInside (p : ℕ) (w : World) (e : Event) : Type 0 where
  pub own : is_own e ≡ true
  pub below : In p (ancestry w.tree (actor w e))
  pub stays : StaysBelow w.tree p (event w e).outcome
  pub asks : AsksParent p (actor w e) e → ⊥

-- ---- what is left alone

-- what an event of the guest p on the processor `here` leaves alone: all nodes outside the subtree; p's own node but
-- for the mask; the words of pages that p has in no row; the other processors, and how many there are; what partitions
-- aside reach
pub record LeavesAside (p here : ℕ) (w v : World) : Type 0 where
  pub outside : (x : Node) → IsOutside w.tree p x ↔ IsOutside v.tree p x
  pub own : IsButForMask (node w.tree p) (node v.tree p)
  pub words : (g : ℕ) → (In g (row_pages (node w.tree p)) → ⊥) → v.tree.words g ≡ w.tree.words g
  pub cpus : (i : ℕ) → i ≢ here → runs_on v i ≡ runs_on w i
  pub count : length v.cpus ≡ length w.cpus
  pub reach : (q va : ℕ) (access : Access) (size : Size) → IsAside w.tree p q
      → reach v.tree q va access size ≡ reach w.tree q va access size

-- an event of a guest leaves these alone whatever comes of it, even where control leaves the guest
abbrev pub GuestsLeaveOthersAlone : Type 0
GuestsLeaveOthersAlone = (w : World) (p : ℕ) (e : Event) → IsSoundWorld w → IsEvent e → p ≢ w.tree.root.name
    → is_own e ≡ true → In p (ancestry w.tree (actor w e))
    → LeavesAside p (cpu_of e) w (event w e).world

-- ---- what it depends on

-- the guest p is the same in two worlds: its subtree, the words of its pages, and which of its partitions runs on which
-- processor, with its context
pub record IsSameGuest (p : ℕ) (w v : World) : Type 0 where
  pub below : AgreeBelow p w v
  pub runs : (i : ℕ) (r : Occupant) → In p (ancestry w.tree r.name) → runs_on w i ≡ Some r → runs_on v i ≡ Some r
  pub runs_back : (i : ℕ) (r : Occupant) → In p (ancestry v.tree r.name) → runs_on v i ≡ Some r → runs_on w i ≡ Some r

-- the event has one outcome in both worlds, stays inside in v, too, and the guest is the same again
pub record IsSameInside (p : ℕ) (e : Event) (w v : World) : Type 0 where
  pub outcome : (event w e).outcome ≡ (event v e).outcome
  pub inside : IsInside p v e
  pub guest : IsSameGuest p (event w e).world (event v e).world

-- that is so of every event that stays inside, in any two worlds in which the guest is the same
abbrev pub GuestsDependOnThemselves : Type 0
GuestsDependOnThemselves = (w v : World) (p : ℕ) (e : Event) → IsSoundWorld w → IsSoundWorld v → IsEvent e
    → p ≢ w.tree.root.name → IsSameGuest p w v → IsInside p w e
    → IsSameInside p e w v

-- ---- leaving

-- an access or a trap: what a handler may take
abbrev pub can_fault : Event → Bool
can_fault (E.Load cpu va size) = true
can_fault (E.Store cpu va size word) = true
can_fault (E.Fetch cpu) = true
can_fault (E.Trap cpu k a b) = true
can_fault (E.Call cpu number a) = false
can_fault (E.Raise j) = false
can_fault (E.Poll cpu) = false
can_fault (E.SetContext cpu c) = false

-- after this outcome no partition of p's subtree runs on the processor
abbrev pub Leaves : Tree → ℕ → Outcome → Type 0
Leaves t p (O.Word w) = ⊥
Leaves t p O.Done = ⊥
Leaves t p (O.Reply s v) = ⊥
Leaves t p (O.Switched from to k) = In p (ancestry t to) → ⊥
Leaves t p (O.Parked from k) = Unit {0}
Leaves t p O.Idle = ⊥

-- a fault or a trap of the guest p leaves: no partition of the subtree takes it
pub record IsLeaving (p : ℕ) (w : World) (e : Event) : Type 0 where
  pub faults : can_fault e ≡ true
  pub below : In p (ancestry w.tree (actor w e))
  pub leaves : Leaves w.tree p (event w e).outcome

-- it leaves in v, too, and the guest is the same again. Who takes it, if anyone, may differ
pub record IsSameLeaving (p : ℕ) (e : Event) (w v : World) : Type 0 where
  pub leaving : IsLeaving p v e
  pub guest : IsSameGuest p (event w e).world (event v e).world

-- that is so of every event that leaves, in any two worlds in which the guest is the same
abbrev pub GuestsAreLeftAlike : Type 0
GuestsAreLeftAlike = (w v : World) (p : ℕ) (e : Event) → IsSoundWorld w → IsSoundWorld v → IsEvent e
    → p ≢ w.tree.root.name → IsSameGuest p w v → IsLeaving p w e
    → IsSameLeaving p e w v

-- ---- events of others

-- a poll changes nothing, and a partition runs there
abbrev pub PollsInVain : World → ℕ → Type 0
PollsInVain w cpu = event w (E.Poll cpu) ≡ done w

-- nothing runs on the processor of the event, or a partition aside
abbrev pub IsElsewhereBy : ℕ → World → Event → Type 0
IsElsewhereBy p w e = (runs_on w (cpu_of e) ≡ None) ⊎ IsAside w.tree p (actor w e)

-- an event of others, whatever comes of it: by a partition aside, on a processor that runs nothing, a line that is
-- raised, or a poll in vain, whichever partition runs there
abbrev pub IsElsewhere : ℕ → World → Event → Type 0
IsElsewhere p w (E.Load cpu va size) = IsElsewhereBy p w (E.Load cpu va size)
IsElsewhere p w (E.Store cpu va size word) = IsElsewhereBy p w (E.Store cpu va size word)
IsElsewhere p w (E.Fetch cpu) = IsElsewhereBy p w (E.Fetch cpu)
IsElsewhere p w (E.Trap cpu k a b) = IsElsewhereBy p w (E.Trap cpu k a b)
IsElsewhere p w (E.Call cpu number a) = IsElsewhereBy p w (E.Call cpu number a)
IsElsewhere p w (E.Raise j) = Unit {0}
IsElsewhere p w (E.Poll cpu) = PollsInVain w cpu ⊎ IsElsewhereBy p w (E.Poll cpu)
IsElsewhere p w (E.SetContext cpu c) = IsElsewhereBy p w (E.SetContext cpu c)

-- an event that is not the guest's, and leaves the guest the same
pub record IsApart (p : ℕ) (w : World) (e : Event) : Type 0 where
  pub others : is_of_guest p w e ≡ false
  pub same : IsSameGuest p w (event w e).world

-- every event of others does so
abbrev pub OthersLeaveGuestsAlone : Type 0
OthersLeaveGuestsAlone = (w : World) (p : ℕ) (e : Event) → IsSoundWorld w → IsEvent e → In p (names_of (nodes w.tree))
    → p ≢ w.tree.root.name → IsElsewhere p w e → IsApart p w e

-- ---- over lists

-- an event of the guest that the laws speak of: it stays inside, or it leaves
abbrev pub StaysOrLeaves : ℕ → World → Event → Type 0
StaysOrLeaves p w e = IsInside p w e ⊎ IsLeaving p w e

-- every event of a guest does, or it is a yield of p to its parent
abbrev pub EventsAreKnown : Type 0
EventsAreKnown = (w : World) (p : ℕ) (e : Event) → IsSoundWorld w → p ≢ w.tree.root.name → is_own e ≡ true
    → In p (ancestry w.tree (actor w e)) → StaysOrLeaves p w e ⊎ AsksParent p (actor w e) e

-- what the guest p learns of an outcome: nothing where control leaves it, else all
abbrev pub guest_learns : Tree → ℕ → Outcome → Option Outcome
guest_learns t p (O.Word w) = Some (O.Word w)
guest_learns t p O.Done = Some O.Done
guest_learns t p (O.Reply s v) = Some (O.Reply s v)
guest_learns t p (O.Switched from to k) = cond (has (ancestry t to) p) (Some (O.Switched from to k)) None
guest_learns t p (O.Parked from k) = None
guest_learns t p O.Idle = None

-- what it learns of an event
abbrev pub learns : ℕ → World → Event → Option Outcome
learns p w e = guest_learns w.tree p (event w e).outcome

-- what it learns of all events of a list
abbrev pub learns_all : ℕ → World → List Event → List (Option Outcome)
learns_all p w [] = []
learns_all p w (e ∷ es) = learns p w e ∷ learns_all p (event w e).world es

-- the guest's events of a list, and what it learns of these
abbrev pub only_guest : ℕ → World → List Event → List Event
only_guest p w [] = []
only_guest p w (e ∷ es) =
    cond (is_of_guest p w e) (e ∷ only_guest p (event w e).world es) (only_guest p (event w e).world es)

-- what the guest learns of its own events, when all events of the list happen
abbrev pub learns_own : ℕ → World → List Event → List (Option Outcome)
learns_own p w [] = []
learns_own p w (e ∷ es) =
    cond (is_of_guest p w e) (learns p w e ∷ learns_own p (event w e).world es) (learns_own p (event w e).world es)

-- each event of a list stays inside or leaves, or it leaves the guest the same. Events of partitions above may be among
-- the last
abbrev pub AreOwnOrApart : ℕ → World → List Event → Type 0
AreOwnOrApart p w [] = Unit {0}
AreOwnOrApart p w (e ∷ es) = (StaysOrLeaves p w e ⊎ IsApart p w e) × AreOwnOrApart p (event w e).world es

-- leave all others out: the guest learns the same, and is the same in the end
abbrev pub OthersDoNotMatterToGuests : Type 0
OthersDoNotMatterToGuests = (w : World) (p : ℕ) (es : List Event) → IsSoundWorld w → In p (names_of (nodes w.tree))
    → p ≢ w.tree.root.name → AllByRecursion IsEvent es → AreOwnOrApart p w es
    → (learns_own p w es ≡ learns_all p w (only_guest p w es))
    × IsSameGuest p (after w es) (after w (only_guest p w es))

-- ---- two guests side by side

-- all events of a list stay inside or leave
abbrev pub AllStayOrLeave : ℕ → World → List Event → Type 0
AllStayOrLeave p w [] = Unit {0}
AllStayOrLeave p w (e ∷ es) = StaysOrLeaves p w e × AllStayOrLeave p (event w e).world es

-- es is xs and ys, each in its order, one among the other
pub data Among : List Event → List Event → List Event → Type 0 where
  none : Among [] [] []
  left : {es xs ys : List Event} (e : Event) → Among es xs ys → Among (e ∷ es) (e ∷ xs) ys
  right : {es xs ys : List Event} (e : Event) → Among es xs ys → Among (e ∷ es) xs (e ∷ ys)

-- of the list es the guest learns what it learns of xs alone, and is in the end as after xs alone
pub record IsAsAlone (p : ℕ) (w : World) (es xs : List Event) : Type 0 where
  pub answers : learns_own p w es ≡ learns_all p w xs
  pub guest : IsSameGuest p (after w es) (after w xs)

-- two guests, neither above the other, whose events stay inside or leave where each runs alone: however these come one
-- among the other, each learns what it learns alone, and is in the end as alone
abbrev pub GuestsRunAsAlone : Type 0
GuestsRunAsAlone = (w : World) (p q : ℕ) (es xs ys : List Event) → IsSoundWorld w → In p (names_of (nodes w.tree))
    → IsAside w.tree p q → AllByRecursion IsEvent es
    → Among es xs ys → AllStayOrLeave p w xs → AllStayOrLeave q w ys → IsAsAlone p w es xs × IsAsAlone q w es ys
