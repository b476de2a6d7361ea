-- The premises of the laws of guests for machines, each form's as a record: machines that took the events, all that the
-- form asks of these, and what it then says.
use Rattle.std.specs.Prelude.{◌≡◌, ◌≢◌, ℕ, true, List}
use Rattle.std.specs.List.{AllByRecursion}
use Rattle.pip_base.specs.declared.outcome.Outcome.{Outcome}
use Rattle.pip_base.specs.declared.types.Plan.{Plan}
use Rattle.pip_model.specs.Acts.{events_made}
use Rattle.pip_model.specs.Events.{Event, IsEvent}
use Rattle.pip_model.specs.Lists.{In}
use Rattle.pip_model.specs.Local.{IsAside, actor, cpu_of}
use Rattle.pip_model.specs.Tree.{ancestry, names_of, nodes}
use Rattle.pip_model.specs.Worlds.{World}
use Rattle.pip_switch.specs.Isolation.{Takes, TakesAll}
use Rattle.pip_switch.specs.Standing.{StandsAs, State}
use Rattle.pip_guests.specs.Ancestors.{IsNoMatter}
use Rattle.pip_guests.specs.Guests.{AllStayOrLeave, Among, AreOwnOrApart, IsElsewhere, IsInside, IsLeaving, IsSameGuest}
use Rattle.pip_guests.specs.Guests.{Leaves, LeavesAside, is_own, only_guest}
use Rattle.pip_guests.specs.Inputs.{RunAlike}
use Rattle.pip_guests.specs.Machines.{StandAlike, told_all, told_own}
use Rattle.pip_guests.specs.Programs.{Slot, StepsOnInputs, all_steps, own_turns}

-- ---- machines

-- a machine took these events, whatever it answered
abbrev pub TookAll : State → List Event → State → Type 0
TookAll p es q = (os : List Outcome) × TakesAll p es os q

-- a machine that stood for a world took the events of a list
pub record Took (w : World) (es : List Event) : Type 0 where
  pub first : State
  pub last : State
  pub outcomes : List Outcome
  pub stands : StandsAs first w
  pub takes : TakesAll first es outcomes last

-- it took one event
pub record TookOne (w : World) (e : Event) : Type 0 where
  pub first : State
  pub last : State
  pub outcome : Outcome
  pub stands : StandsAs first w
  pub takes : Takes first e outcome last

-- ---- one event

-- MachinesLeaveOtherGuestsAlone
pub record MeetsOthers (w : World) (e : Event) (p : ℕ) : Type 0 where
  pub machine : TookOne w e
  pub is : IsEvent e
  pub own : is_own e ≡ true
  pub not_root : p ≢ w.tree.root.name
  pub below : In p (ancestry w.tree (actor w e))
  pub so : (v : World) × StandsAs machine.last v × LeavesAside p (cpu_of e) w v

-- MachinesDependOnGuests
pub record MeetsDepends (w v : World) (e : Event) (p : ℕ) : Type 0 where
  pub left : TookOne w e
  pub right : TookOne v e
  pub is : IsEvent e
  pub not_root : p ≢ w.tree.root.name
  pub same : IsSameGuest p w v
  pub inside : IsInside p w e
  pub so : (left.outcome ≡ right.outcome) × StandAlike p left.last right.last

-- MachinesAreLeftAlike
pub record MeetsLeft (w v : World) (e : Event) (p : ℕ) : Type 0 where
  pub left : TookOne w e
  pub right : TookOne v e
  pub is : IsEvent e
  pub not_root : p ≢ w.tree.root.name
  pub same : IsSameGuest p w v
  pub leaving : IsLeaving p w e
  pub so : Leaves v.tree p right.outcome × StandAlike p left.last right.last

-- MachinesLeaveGuestsAlone
pub record MeetsApart (w : World) (e : Event) (p : ℕ) : Type 0 where
  pub machine : TookOne w e
  pub is : IsEvent e
  pub there : In p (names_of (nodes w.tree))
  pub not_root : p ≢ w.tree.root.name
  pub elsewhere : IsElsewhere p w e
  pub so : (v : World) × StandsAs machine.last v × IsSameGuest p w v

-- AncestorsOnMachines
pub record MeetsAncestors (w : World) (e : Event) (p : ℕ) : Type 0 where
  pub machine : TookOne w e
  pub is : IsEvent e
  pub there : In p (names_of (nodes w.tree))
  pub not_root : p ≢ w.tree.root.name
  pub runs : In (actor w e) (names_of (nodes w.tree))
  pub outside : In p (ancestry w.tree (actor w e)) → ⊥
  pub no_matter : IsNoMatter p w e
  pub so : (v : World) × StandsAs machine.last v × IsSameGuest p w v

-- ---- lists of events

-- MachinesKeepGuestsApart
pub record MeetsLists (w : World) (es : List Event) (p : ℕ) : Type 0 where
  pub all : Took w es
  pub few : Took w (only_guest p w es)
  pub there : In p (names_of (nodes w.tree))
  pub not_root : p ≢ w.tree.root.name
  pub are : AllByRecursion IsEvent es
  pub fit : AreOwnOrApart p w es
  pub so : (told_own p w es all.outcomes ≡ told_all p w (only_guest p w es) few.outcomes)
      × StandAlike p all.last few.last

-- MachinesRunGuestsAsAlone
pub record MeetsAlone (w : World) (es xs ys : List Event) (p q : ℕ) : Type 0 where
  pub both : Took w es
  pub one : Took w xs
  pub other : Took w ys
  pub there : In p (names_of (nodes w.tree))
  pub aside : IsAside w.tree p q
  pub are : AllByRecursion IsEvent es
  pub among : Among es xs ys
  pub stay : AllStayOrLeave p w xs
  pub others_stay : AllStayOrLeave q w ys
  pub so : (told_own p w es both.outcomes ≡ told_all p w xs one.outcomes) × StandAlike p both.last one.last
      × (told_own q w es both.outcomes ≡ told_all q w ys other.outcomes) × StandAlike q both.last other.last

-- MachinesDependOnInputs
pub record MeetsInputs (w v : World) (es fs : List Event) (p : ℕ) : Type 0 where
  pub left : Took w es
  pub right : Took v fs
  pub there : In p (names_of (nodes w.tree))
  pub not_root : p ≢ w.tree.root.name
  pub same : IsSameGuest p w v
  pub are : AllByRecursion IsEvent es
  pub are_there : AllByRecursion IsEvent fs
  pub alike : RunAlike p w es v fs
  pub so : (told_own p w es left.outcomes ≡ told_own p v fs right.outcomes) × StandAlike p left.last right.last

-- MachinesRunOnInputs
pub record MeetsSteps (w v : World) (plans plans2 : List Plan) (ss rs : List Slot) (p : ℕ) : Type 0 where
  pub left : Took w (events_made (all_steps plans w ss))
  pub right : Took v (events_made (all_steps plans2 v rs))
  pub there : In p (names_of (nodes w.tree))
  pub not_root : p ≢ w.tree.root.name
  pub same : IsSameGuest p w v
  pub inputs : StepsOnInputs p w plans ss v plans2 rs
  pub so : (own_turns plans p w ss ≡ own_turns plans2 p v rs) × StandAlike p left.last right.last
