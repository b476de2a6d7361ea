-- The laws of whole guests, said of machines: of the states that contracts see. An event takes a machine from one state
-- to another as each method of Port promises.
use Rattle.std.specs.Prelude.{◌≡◌, ◌≢◌, ℕ, true, cond, List, [], ◌∷◌, Option}
use Rattle.std.specs.List.{AllByRecursion}
use Rattle.pip_base.specs.declared.outcome.Outcome.{Outcome}
use Rattle.pip_base.specs.declared.types.Plan.{Plan}
use Rattle.pip_model.specs.Acts.{events_made}
use Rattle.pip_model.specs.Events.{Event, IsEvent}
use Rattle.pip_model.specs.Happens.{event}
use Rattle.pip_model.specs.Lists.{In}
use Rattle.pip_model.specs.Local.{IsAside, actor, cpu_of}
use Rattle.pip_model.specs.Tree.{ancestry, names_of, nodes}
use Rattle.pip_model.specs.Worlds.{World}
use Rattle.pip_switch.specs.Isolation.{Takes, TakesAll}
use Rattle.pip_switch.specs.Standing.{StandsAs, State}
use Rattle.pip_guests.specs.Guests.{AllStayOrLeave, Among, AreOwnOrApart, IsElsewhere, IsInside, IsLeaving, IsSameGuest}
use Rattle.pip_guests.specs.Guests.{Leaves, LeavesAside, is_of_guest, is_own, guest_learns, only_guest}
use Rattle.pip_guests.specs.Inputs.{RunAlike}
use Rattle.pip_guests.specs.Programs.{Slot, StepsOnInputs, all_steps, own_turns}

-- an event of a guest leaves alone what it is not to change, whatever comes of it
abbrev pub MachinesLeaveOtherGuestsAlone : Type 0
MachinesLeaveOtherGuestsAlone = (m n : State) (e : Event) (o : Outcome) (p : ℕ) → Takes m e o n → IsEvent e
    → is_own e ≡ true → (w : World) → StandsAs m w → p ≢ w.tree.root.name → In p (ancestry w.tree (actor w e))
    → (v : World) × StandsAs n v × LeavesAside p (cpu_of e) w v

-- two machines that stand for worlds in which the guest is the same
pub record StandAlike (p : ℕ) (m n : State) : Type 0 where
  pub left : World
  pub right : World
  pub stands_left : StandsAs m left
  pub stands_right : StandsAs n right
  pub guest : IsSameGuest p left right

-- two machines in which a guest is the same answer an event that stays inside alike, and it is the same again
abbrev pub MachinesDependOnGuests : Type 0
MachinesDependOnGuests = (m n m2 n2 : State) (e : Event) (o o2 : Outcome) (p : ℕ) → Takes m e o n → Takes m2 e o2 n2
    → IsEvent e → (w w2 : World) → StandsAs m w → StandsAs m2 w2 → p ≢ w.tree.root.name → IsSameGuest p w w2
    → IsInside p w e
    → (o ≡ o2) × StandAlike p n n2

-- an event that leaves the guest in one leaves it in the other, and it is the same again
abbrev pub MachinesAreLeftAlike : Type 0
MachinesAreLeftAlike = (m n m2 n2 : State) (e : Event) (o o2 : Outcome) (p : ℕ) → Takes m e o n → Takes m2 e o2 n2
    → IsEvent e → (w w2 : World) → StandsAs m w → StandsAs m2 w2 → p ≢ w.tree.root.name → IsSameGuest p w w2
    → IsLeaving p w e
    → Leaves w2.tree p o2 × StandAlike p n n2

-- an event of others leaves a guest the same
abbrev pub MachinesLeaveGuestsAlone : Type 0
MachinesLeaveGuestsAlone = (m n : State) (e : Event) (o : Outcome) (p : ℕ) → Takes m e o n → IsEvent e → (w : World)
    → StandsAs m w → In p (names_of (nodes w.tree)) → p ≢ w.tree.root.name → IsElsewhere p w e
    → (v : World) × StandsAs n v × IsSameGuest p w v

-- what the guest learns of the answers to all events of a list
abbrev pub told_all : ℕ → World → List Event → List Outcome → List (Option Outcome)
told_all p w [] os = []
told_all p w (e ∷ es) [] = []
told_all p w (e ∷ es) (o ∷ os) = guest_learns w.tree p o ∷ told_all p (event w e).world es os

-- what the guest learns of the answers to its own events of a list
abbrev pub told_own : ℕ → World → List Event → List Outcome → List (Option Outcome)
told_own p w [] os = []
told_own p w (e ∷ es) [] = []
told_own p w (e ∷ es) (o ∷ os) = cond (is_of_guest p w e) (guest_learns w.tree p o ∷ told_own p (event w e).world es os)
    (told_own p (event w e).world es os)

-- one machine takes all events, another, which begins as the first does, those of the guest alone
abbrev pub MachinesKeepGuestsApart : Type 0
MachinesKeepGuestsApart = (w : World) (p : ℕ) (es : List Event) (m n m2 n2 : State) (os os2 : List Outcome)
    → StandsAs m w → StandsAs m2 w → TakesAll m es os n → TakesAll m2 (only_guest p w es) os2 n2
    → In p (names_of (nodes w.tree)) → p ≢ w.tree.root.name → AllByRecursion IsEvent es → AreOwnOrApart p w es
    → (told_own p w es os ≡ told_all p w (only_guest p w es) os2) × StandAlike p n n2

-- one machine takes the events of two guests, two others those of one guest each
abbrev pub MachinesRunGuestsAsAlone : Type 0
MachinesRunGuestsAsAlone = (w : World) (p q : ℕ) (es xs ys : List Event)
    (m n m1 n1 m2 n2 : State) (os os1 os2 : List Outcome) → StandsAs m w → StandsAs m1 w → StandsAs m2 w
    → TakesAll m es os n → TakesAll m1 xs os1 n1 → TakesAll m2 ys os2 n2 → In p (names_of (nodes w.tree))
    → IsAside w.tree p q → AllByRecursion IsEvent es
    → Among es xs ys → AllStayOrLeave p w xs → AllStayOrLeave q w ys
    → (told_own p w es os ≡ told_all p w xs os1) × StandAlike p n n1 × (told_own q w es os ≡ told_all q w ys os2)
    × StandAlike q n n2

-- two machines take lists in which the guest has the same events and inputs
abbrev pub MachinesDependOnInputs : Type 0
MachinesDependOnInputs = (w v : World) (p : ℕ) (es fs : List Event) (m n m2 n2 : State) (os os2 : List Outcome)
    → StandsAs m w → StandsAs m2 v → TakesAll m es os n → TakesAll m2 fs os2 n2
    → In p (names_of (nodes w.tree)) → p ≢ w.tree.root.name → IsSameGuest p w v → AllByRecursion IsEvent es
    → AllByRecursion IsEvent fs → RunAlike p w es v fs
    → (told_own p w es os ≡ told_own p v fs os2) × StandAlike p n n2

-- two machines take the steps of two runs in which the guest has the same turns and inputs
abbrev pub MachinesRunOnInputs : Type 0
MachinesRunOnInputs = (w v : World) (p : ℕ) (plans plans2 : List Plan) (ss rs : List Slot) (m n m2 n2 : State)
    (os os2 : List Outcome) → StandsAs m w → StandsAs m2 v → TakesAll m (events_made (all_steps plans w ss)) os n
    → TakesAll m2 (events_made (all_steps plans2 v rs)) os2 n2 → In p (names_of (nodes w.tree))
    → p ≢ w.tree.root.name → IsSameGuest p w v → StepsOnInputs p w plans ss v plans2 rs
    → (own_turns plans p w ss ≡ own_turns plans2 p v rs) × StandAlike p n n2
