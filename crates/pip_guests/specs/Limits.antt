-- Why what stays inside, and what is no matter of a guest, is no more than it is: definitions that let one more thing
-- in, each of which makes a law false.
use Rattle.std.specs.Prelude.{◌≡◌, ◌≢◌, ℕ, ◌⊎◌, true}
use Rattle.pip_base.specs.declared.outcome.Outcome.{Outcome}
use Rattle.pip_base.specs.declared.outcome.Outcome.TheVariants as O
use Rattle.pip_base.specs.declared.types.Size.{Size}
use Rattle.pip_model.specs.Answers.{Five}
use Rattle.pip_model.specs.Events.{Event, IsEvent}
use Rattle.pip_model.specs.Events as E
use Rattle.pip_model.specs.Happens.{call_named, event}
use Rattle.pip_model.specs.Lists.{In}
use Rattle.pip_model.specs.Local.{actor}
use Rattle.pip_model.specs.Reach.{Place}
use Rattle.pip_model.specs.Switching.{node_name, target_node, yield_place}
use Rattle.pip_model.specs.Tree.{ancestry, names_of, node, nodes, row_pages}
use Rattle.pip_model.specs.Worlds.{IsSoundWorld, World}
use Rattle.pip_model.specs.declared.call_name.CallName.TheVariants.{OnMemory, Yields}
use Rattle.pip_model.specs.declared.call_name.MemoryCall.{MemoryCall}
use Rattle.pip_guests.specs.Ancestors.{SavesApart}
use Rattle.pip_guests.specs.Guests.{AsksParent, IsSameGuest, StaysBelow, is_own}

-- in two worlds in which the guest is the same an event of this kind has one outcome. This holds of IsInside itself
abbrev pub OutcomesDepend : (ℕ → World → Event → Type 0) → Type 0
OutcomesDepend Kind = (w v : World) (p : ℕ) (e : Event) → IsSoundWorld w → IsSoundWorld v → IsEvent e
    → p ≢ w.tree.root.name → IsSameGuest p w v → Kind p w e → (event w e).outcome ≡ (event v e).outcome

-- ---- a parked partition counted as staying

-- an outcome is a parked partition
abbrev pub IsParked : Outcome → Type 0
IsParked (O.Parked from k) = Unit {0}
IsParked (O.Word w) = ⊥
IsParked O.Done = ⊥
IsParked (O.Reply s v) = ⊥
IsParked (O.Switched from to k) = ⊥
IsParked O.Idle = ⊥

-- an event of the guest p stays inside, or parks a partition of its subtree
pub record IsInsideOrParked (p : ℕ) (w : World) (e : Event) : Type 0 where
  pub own : is_own e ≡ true
  pub below : In p (ancestry w.tree (actor w e))
  pub stays : StaysBelow w.tree p (event w e).outcome ⊎ IsParked (event w e).outcome
  pub asks : AsksParent p (actor w e) e → ⊥

-- a trap of the guest is parked while the root runs elsewhere, and taken by the root where it doesn't
abbrev pub ParkedIsNotInside : Type 0
ParkedIsNotInside = OutcomesDepend IsInsideOrParked → ⊥

-- ---- p's own yield to its parent let in

-- an event of the guest p stays inside, and may be a yield to its parent that is refused
pub record IsInsideOrAsks (p : ℕ) (w : World) (e : Event) : Type 0 where
  pub own : is_own e ≡ true
  pub below : In p (ancestry w.tree (actor w e))
  pub stays : StaysBelow w.tree p (event w e).outcome

-- it is refused while the parent runs elsewhere, and accepted where it doesn't
abbrev pub AsksIsNotInside : Type 0
AsksIsNotInside = OutcomesDepend IsInsideOrAsks → ⊥

-- ---- any poll counted as one of others

-- every poll leaves every guest the same, whether or not it takes a line
abbrev pub PollsLeaveGuestsAlone : Type 0
PollsLeaveGuestsAlone = (w : World) (p cpu : ℕ) → IsSoundWorld w → In p (names_of (nodes w.tree)) → p ≢ w.tree.root.name
    → IsSameGuest p w (event w (E.Poll cpu)).world

-- one that takes a line takes the processor away from the guest
abbrev pub PollsAreNotApart : Type 0
PollsAreNotApart = PollsLeaveGuestsAlone → ⊥

-- ---- what partitions above do, with a premise less

-- each such event of a partition that is not of the guest leaves the guest the same. This holds of IsNoMatter itself
abbrev pub AncestorsLeaveAlone : (ℕ → World → Event → Type 0) → Type 0
AncestorsLeaveAlone Kind = (w : World) (p : ℕ) (e : Event) → IsSoundWorld w → IsEvent e
    → In p (names_of (nodes w.tree)) → p ≢ w.tree.root.name → In (actor w e) (names_of (nodes w.tree))
    → (In p (ancestry w.tree (actor w e)) → ⊥) → Kind p w e → IsSameGuest p w (event w e).world

-- a call on memory, whichever child it names
pub record IsCallOnMemory (p : ℕ) (w : World) (e : Event) : Type 0 where
  pub cpu : ℕ
  pub number : ℕ
  pub arguments : Five
  pub call : MemoryCall
  pub is : e ≡ E.Call cpu number arguments
  pub named : call_named number ≡ OnMemory call

-- one that names the guest itself ends it
abbrev pub CallsMatter : Type 0
CallsMatter = AncestorsLeaveAlone IsCallOnMemory → ⊥

-- a yield that saves the yielder in no page of the guest, whatever its target is
pub record IsYieldAnywhere (p : ℕ) (w : World) (e : Event) : Type 0 where
  pub cpu : ℕ
  pub number : ℕ
  pub arguments : Five
  pub is : e ≡ E.Call cpu number arguments
  pub named : call_named number ≡ Yields
  pub saved : (g i : ℕ) → yield_place w.tree (actor w e) arguments.x2 ≡ Place g i → In g (row_pages (node w.tree p)) → ⊥

-- one whose target is the guest runs it
abbrev pub TargetsMatter : Type 0
TargetsMatter = AncestorsLeaveAlone IsYieldAnywhere → ⊥

-- a yield elsewhere, wherever the yielder is saved
pub record IsYieldElsewhere (p : ℕ) (w : World) (e : Event) : Type 0 where
  pub cpu : ℕ
  pub number : ℕ
  pub arguments : Five
  pub is : e ≡ E.Call cpu number arguments
  pub named : call_named number ≡ Yields
  pub target : In p (ancestry w.tree (node_name (target_node w.tree (actor w e) arguments.x0))) → ⊥

-- one that saves it in a page of the guest writes there
abbrev pub PlacesMatter : Type 0
PlacesMatter = AncestorsLeaveAlone IsYieldElsewhere → ⊥

-- a store, wherever it goes, by a partition whose faults are saved in no page of the guest
pub record IsStoreAnywhere (p : ℕ) (w : World) (e : Event) : Type 0 where
  pub cpu : ℕ
  pub va : ℕ
  pub size : Size
  pub value : ℕ
  pub is : e ≡ E.Store cpu va size value
  pub saved : SavesApart p w (actor w e)

-- one to a page of the guest writes there
abbrev pub StoresMatter : Type 0
StoresMatter = AncestorsLeaveAlone IsStoreAnywhere → ⊥

-- a load, wherever its fault is saved
pub record IsLoadAnywhere (p : ℕ) (w : World) (e : Event) : Type 0 where
  pub cpu : ℕ
  pub va : ℕ
  pub size : Size
  pub is : e ≡ E.Load cpu va size

-- one whose fault is saved in a page of the guest writes there
abbrev pub FaultsMatter : Type 0
FaultsMatter = AncestorsLeaveAlone IsLoadAnywhere → ⊥
