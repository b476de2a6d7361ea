-- Guests that run programs: turns of processors, one after another. As long as no interrupt line is taken two guests
-- side by side have the turns, and write the lines of the trace, that each has alone.
use Rattle.std.specs.Prelude.{◌≡◌, ◌≢◌, ℕ, zero, suc, ◌+◌, ◌<◌, ◌⊎◌, false, cond, List, [], ◌∷◌, ◌++◌, drop, length}
use Rattle.std.specs.Prelude.{map, Some}
use Rattle.std.specs.List.{AllByRecursion}
use Rattle.pip_base.specs.declared.types.Plan.{Plan}
use Rattle.pip_model.specs.Acts.{Act, Makes, Writes, after_acts, events_made, text_of}
use Rattle.pip_model.specs.Events.{Event, IsEvent}
use Rattle.pip_model.specs.Events as E
use Rattle.pip_model.specs.Happens.{event}
use Rattle.pip_model.specs.Lists.{In, has}
use Rattle.pip_model.specs.Local.{IsAside, actor}
use Rattle.pip_model.specs.Run.{raises, schedule, steps}
use Rattle.pip_model.specs.Tree.{ancestry, names_of, nodes}
use Rattle.pip_model.specs.Turn.{fetch_acts, head, turn}
use Rattle.pip_model.specs.Worlds.{IsSoundWorld, World, runs_on}
use Rattle.pip_model.specs.declared.processors.Occupant.{Occupant}
use Rattle.pip_guests.specs.Guests.{AllStayOrLeave, IsApart, IsInside, IsSameGuest, PollsInVain}
use Rattle.pip_guests.specs.Inputs.{IsInput, RunAlike}

-- ---- one turn

-- all events of a list stay inside
abbrev pub AllStayInside : ℕ → World → List Event → Type 0
AllStayInside p w [] = Unit {0}
AllStayInside p w (e ∷ es) = IsInside p w e × AllStayInside p (event w e).world es

-- a partition of p's subtree has the turn of a processor at a step, and all its events, after the poll, stay inside
pub record IsInsideTurn (p : ℕ) (w : World) (cpu step : ℕ) : Type 0 where
  pub below : In p (ancestry w.tree (actor w (E.Poll cpu)))
  pub inside : AllStayInside p w (events_made (fetch_acts w step cpu))

-- the turn is one and the same in both worlds, event by event and line by line, stays inside in v, too, and leaves the
-- guest the same
pub record IsSameTurn (p cpu step : ℕ) (w v : World) : Type 0 where
  pub acts : turn w cpu step ≡ turn v cpu step
  pub inside : IsInsideTurn p v cpu step
  pub guest : IsSameGuest p (after_acts w (turn w cpu step)) (after_acts v (turn v cpu step))

-- that is so of every such turn whose poll is in vain, in any two worlds in which the guest is the same
abbrev pub TurnsDependOnGuests : Type 0
TurnsDependOnGuests = (w v : World) (p cpu step : ℕ) → IsSoundWorld w → IsSoundWorld v → p ≢ w.tree.root.name
    → IsSameGuest p w v → PollsInVain w cpu → PollsInVain v cpu → IsInsideTurn p w cpu step
    → IsSameTurn p cpu step w v

-- a partition of p's subtree has the turn, and all its events, after the poll, stay inside or leave
pub record IsGuestTurn (p : ℕ) (w : World) (cpu step : ℕ) : Type 0 where
  pub below : In p (ancestry w.tree (actor w (E.Poll cpu)))
  pub fits : AllStayOrLeave p w (events_made (fetch_acts w step cpu))

-- the turn has the same events in both worlds, is one of the guest in v, too, and leaves the guest the same. The line
-- of what leaves names the partition that took it, which may differ
pub record HasSameEvents (p cpu step : ℕ) (w v : World) : Type 0 where
  pub events : events_made (turn w cpu step) ≡ events_made (turn v cpu step)
  pub there : IsGuestTurn p v cpu step
  pub guest : IsSameGuest p (after_acts w (turn w cpu step)) (after_acts v (turn v cpu step))

-- that is so of every such turn whose poll is in vain, in any two worlds in which the guest is the same
abbrev pub TurnsLeaveAlike : Type 0
TurnsLeaveAlike = (w v : World) (p cpu step : ℕ) → IsSoundWorld w → IsSoundWorld v → p ≢ w.tree.root.name
    → IsSameGuest p w v → PollsInVain w cpu → PollsInVain v cpu → IsGuestTurn p w cpu step
    → HasSameEvents p cpu step w v

-- where no line is pending every poll is in vain
abbrev pub QuietPolls : Type 0
QuietPolls = (w : World) (cpu : ℕ) (r : Occupant) → runs_on w cpu ≡ Some r → w.tree.root.pending ≡ []
    → PollsInVain w cpu

-- ---- turns one after another

-- which processor has the turn of a step
pub record Slot : Type 0 where
  pub step : ℕ
  pub cpu : ℕ

-- the turn of a slot
abbrev pub turn_of : World → Slot → List Act
turn_of w s = turn w s.cpu s.step

-- the turns of several slots, one after another
abbrev pub turns : World → List Slot → List Act
turns w [] = []
turns w (s ∷ ss) = turn_of w s ++ turns (after_acts w (turn_of w s)) ss

-- all of them are turns of the guest p that stay inside
abbrev pub AreInsideTurns : ℕ → World → List Slot → Type 0
AreInsideTurns p w [] = Unit {0}
AreInsideTurns p w (s ∷ ss) = IsInsideTurn p w s.cpu s.step × AreInsideTurns p (after_acts w (turn_of w s)) ss

-- an act whose line lacks its head, which is the step and the processor
abbrev pub without_head : Slot → Act → Act
without_head s (Makes e) = Makes e
without_head s (Writes line) = Writes (drop (length (head s.step s.cpu)) line)

-- turns one after another, with such lines
abbrev pub bare_turns : World → List Slot → List Act
bare_turns w [] = []
bare_turns w (s ∷ ss) = map (without_head s) (turn_of w s) ++ bare_turns (after_acts w (turn_of w s)) ss

-- at other steps the same processors have the same turns, with the same lines but for the step
abbrev pub StepsDoNotMatter : Type 0
StepsDoNotMatter = (w : World) (ss rs : List Slot) → map (λ s. s.cpu) ss ≡ map (λ s. s.cpu) rs
    → bare_turns w ss ≡ bare_turns w rs

-- ---- the steps of a run

-- the world in which a step's processor has its turn: the lines that are due are raised
abbrev pub ready : List Plan → World → Slot → World
ready plans w s = after_acts w (raises plans s.step)

-- the world after a step: the lines that are due are raised, and the processor has its turn
abbrev pub next_world : List Plan → World → Slot → World
next_world plans w s = after_acts (ready plans w s) (turn_of (ready plans w s) s)

-- the steps of slots, one after another: the lines that are due are raised, and the processor has its turn
abbrev pub all_steps : List Plan → World → List Slot → List Act
all_steps plans w [] = []
all_steps plans w (s ∷ ss) =
    (raises plans s.step ++ turn_of (ready plans w s) s) ++ all_steps plans (next_world plans w s) ss

-- the slots of a run: n steps from step t on, of c processors. Its steps are those of these slots
abbrev pub run_slots : ℕ → ℕ → ℕ → ℕ → List Slot
run_slots seed c zero t = []
run_slots seed c (suc n) t = record { step = t; cpu = schedule seed c t } ∷ run_slots seed c n (t + 1)

-- the steps of a run are those of its slots
abbrev pub RunsAreSteps : Type 0
RunsAreSteps = (w : World) (plans : List Plan) (seed c n t : ℕ)
    → steps w plans seed c n t ≡ all_steps plans w (run_slots seed c n t)

-- and after m steps it goes on with those of the world that these lead to
abbrev pub RunsGoOn : Type 0
RunsGoOn = (w : World) (plans : List Plan) (seed c m n t : ℕ) → steps w plans seed c (m + n) t
    ≡ steps w plans seed c m t ++ steps (after_acts w (steps w plans seed c m t)) plans seed c n (t + m)

-- the turns that a partition of p's subtree has among them
abbrev pub own_turns : List Plan → ℕ → World → List Slot → List Act
own_turns plans p w [] = []
own_turns plans p w (s ∷ ss) =
    cond (has (ancestry (ready plans w s).tree (actor (ready plans w s) (E.Poll s.cpu))) p) (turn_of (ready plans w s) s
    ++ own_turns plans p (next_world plans w s) ss) (own_turns plans p (next_world plans w s) ss)

-- no line is taken: each poll is in vain
abbrev pub NoneTaken : List Plan → World → List Slot → Type 0
NoneTaken plans w [] = Unit {0}
NoneTaken plans w (s ∷ ss) = PollsInVain (ready plans w s) s.cpu × NoneTaken plans (next_world plans w s) ss

-- no line comes: none is due at these steps
abbrev pub NoneDue : List Plan → List Slot → Type 0
NoneDue plans [] = Unit {0}
NoneDue plans (s ∷ ss) = (raises plans s.step ≡ []) × NoneDue plans ss

-- in the steps of the slots ss the guest has the turns, and so writes the lines, that it has in those of the slots xs
-- alone without any lines raised, and is in the end as there
pub record IsRunAsAlone (plans : List Plan) (p : ℕ) (w : World) (ss xs : List Slot) : Type 0 where
  pub acts : own_turns plans p w ss ≡ turns w xs
  pub text : text_of (own_turns plans p w ss) ≡ text_of (turns w xs)
  pub guest : IsSameGuest p (after_acts w (all_steps plans w ss)) (after_acts w (turns w xs))

-- ---- others left out

-- all events of a list are others', and leave the guest the same
abbrev pub AllStayApart : ℕ → World → List Event → Type 0
AllStayApart p w [] = Unit {0}
AllStayApart p w (e ∷ es) = IsEvent e × IsApart p w e × AllStayApart p (event w e).world es

-- a turn is the guest's, with a poll in vain, and stays inside; or another's, and leaves the guest the same
abbrev pub IsOwnOrApartTurn : ℕ → World → Slot → Type 0
IsOwnOrApartTurn p w s = PollsInVain w s.cpu × IsInsideTurn p w s.cpu s.step
    ⊎ (has (ancestry w.tree (actor w (E.Poll s.cpu))) p ≡ false) × AllStayApart p w (events_made (turn_of w s))

-- each step has such a turn
abbrev pub AreOwnOrApartTurns : List Plan → ℕ → World → List Slot → Type 0
AreOwnOrApartTurns plans p w [] = Unit {0}
AreOwnOrApartTurns plans p w (s ∷ ss) =
    IsOwnOrApartTurn p (ready plans w s) s × AreOwnOrApartTurns plans p (next_world plans w s) ss

-- the slots of the guest's turns
abbrev pub own_slots : List Plan → ℕ → World → List Slot → List Slot
own_slots plans p w [] = []
own_slots plans p w (s ∷ ss) = cond (has (ancestry (ready plans w s).tree (actor (ready plans w s) (E.Poll s.cpu))) p)
    (s ∷ own_slots plans p (next_world plans w s) ss) (own_slots plans p (next_world plans w s) ss)

-- leave all turns of others out, and the lines: the guest runs as in its own turns alone. Lines below 16 are raised,
-- and others, be it the root, have turns on further processors; but no poll of the guest's takes a line
abbrev pub OtherTurnsDoNotMatter : Type 0
OtherTurnsDoNotMatter = (plans : List Plan) (p : ℕ) (w : World) (ss : List Slot) → IsSoundWorld w
    → In p (names_of (nodes w.tree)) → p ≢ w.tree.root.name → w.tree.root.pending ≡ []
    → AllByRecursion (λ x. x.line < 16) plans → AreOwnOrApartTurns plans p w ss
    → IsRunAsAlone plans p w ss (own_slots plans p w ss)

-- ---- two guests side by side

-- ss is xs and ys, each in its order, one among the other
pub data AmongSlots : List Slot → List Slot → List Slot → Type 0 where
  none : AmongSlots [] [] []
  left : {ss xs ys : List Slot} (s : Slot) → AmongSlots ss xs ys → AmongSlots (s ∷ ss) (s ∷ xs) ys
  right : {ss xs ys : List Slot} (s : Slot) → AmongSlots ss xs ys → AmongSlots (s ∷ ss) xs (s ∷ ys)

-- two guests, neither above the other, whose turns stay inside where each runs alone, from a world in which no line is
-- pending
pub record AreTwoGuests (p q : ℕ) (w : World) (ss xs ys : List Slot) : Type 0 where
  pub sound : IsSoundWorld w
  pub name : In p (names_of (nodes w.tree))
  pub aside : IsAside w.tree p q
  pub pending : w.tree.root.pending ≡ []
  pub among : AmongSlots ss xs ys
  pub first : AreInsideTurns p w xs
  pub second : AreInsideTurns q w ys

-- if no line comes each of them runs as alone
abbrev pub ProgramsRunAsAlone : Type 0
ProgramsRunAsAlone = (plans : List Plan) (p q : ℕ) (w : World) (ss xs ys : List Slot) → AreTwoGuests p q w ss xs ys
    → NoneDue plans ss
    → IsRunAsAlone plans p w ss xs × IsRunAsAlone plans q w ss ys

-- and also if lines come, but none is taken
abbrev pub LinesDoNotMatter : Type 0
LinesDoNotMatter = (plans : List Plan) (p q : ℕ) (w : World) (ss xs ys : List Slot) → AreTwoGuests p q w ss xs ys
    → AllByRecursion (λ x. x.line < 16) plans → NoneTaken plans w ss
    → IsRunAsAlone plans p w ss xs × IsRunAsAlone plans q w ss ys

-- ---- a guest with inputs

-- what comes next in a run: a turn of the guest, or an event of another
pub data Item : Type 0 where
  Turn : Slot → Item
  Other : Event → Item

-- what they do, one after another
abbrev pub acts_of : World → List Item → List Act
acts_of w [] = []
acts_of w (Turn s ∷ is) = turn_of w s ++ acts_of (after_acts w (turn_of w s)) is
acts_of w (Other e ∷ is) = Makes e ∷ acts_of (event w e).world is

-- the turns among them
abbrev pub turns_among : World → List Item → List Act
turns_among w [] = []
turns_among w (Turn s ∷ is) = turn_of w s ++ turns_among (after_acts w (turn_of w s)) is
turns_among w (Other e ∷ is) = turns_among (event w e).world is

-- a turn that is the same in two worlds, line by line, so that what leaves is taken by the same partition in both. The
-- guest learns the same of its events, among which are inputs, and is there after it
pub record IsAlikeTurn (p : ℕ) (w v : World) (s : Slot) : Type 0 where
  pub acts : turn_of w s ≡ turn_of v s
  pub events : RunAlike p w (events_made (turn_of w s)) v (events_made (turn_of v s))
  pub name : In p (names_of (nodes (after_acts w (turn_of w s)).tree))

-- two runs, from w and from v, in which the guest has turns of the same slots, which stay inside and whose polls are in
-- vain, or are alike though a line comes, or something leaves or asks the parent; and with these the same inputs.
-- Between them each run has events of others that leave the guest as it was
pub data RunOnInputs (p : ℕ) : World → List Item → World → List Item → Type 0 where
  ended : {w v : World} → RunOnInputs p w [] v []
  own : {w v : World} {is js : List Item} (s : Slot) → IsInsideTurn p w s.cpu s.step → PollsInVain w s.cpu
      → PollsInVain v s.cpu → RunOnInputs p (after_acts w (turn_of w s)) is (after_acts v (turn_of v s)) js
      → RunOnInputs p w (Turn s ∷ is) v (Turn s ∷ js)
  alike : {w v : World} {is js : List Item} (s : Slot) → IsAlikeTurn p w v s
      → RunOnInputs p (after_acts w (turn_of w s)) is (after_acts v (turn_of v s)) js
      → RunOnInputs p w (Turn s ∷ is) v (Turn s ∷ js)
  input : {w v : World} {is js : List Item} (e f : Event) → IsEvent e → IsEvent f → IsInput p e f w v
      → RunOnInputs p (event w e).world is (event v f).world js → RunOnInputs p w (Other e ∷ is) v (Other f ∷ js)
  first : {w v : World} {is js : List Item} (e : Event) → IsEvent e → IsApart p w e
      → RunOnInputs p (event w e).world is v js → RunOnInputs p w (Other e ∷ is) v js
  second : {w v : World} {is js : List Item} (f : Event) → IsEvent f → IsApart p v f
      → RunOnInputs p w is (event v f).world js → RunOnInputs p w is v (Other f ∷ js)

-- in two such runs a guest's turns are the same, and so are the lines that it writes: they are determined by its
-- program, by its inputs, and by the slots that it gets
abbrev pub ProgramsDependOnInputs : Type 0
ProgramsDependOnInputs = (w v : World) (p : ℕ) (is js : List Item) → IsSoundWorld w → IsSoundWorld v
    → In p (names_of (nodes w.tree)) → p ≢ w.tree.root.name → IsSameGuest p w v → RunOnInputs p w is v js
    → (turns_among w is ≡ turns_among v js) × IsSameGuest p (after_acts w (acts_of w is)) (after_acts v (acts_of v js))

-- ---- the steps of a run as such items

-- events of others, each as an item
abbrev pub as_others : List Event → List Item
as_others es = map Other es

-- a step as items: the lines that are due, and the turn, as one if it is the guest's, else event by event
abbrev pub items_of_step : List Plan → ℕ → World → Slot → List Item
items_of_step plans p w s = as_others (events_made (raises plans s.step)) ++
    cond (has (ancestry (ready plans w s).tree (actor (ready plans w s) (E.Poll s.cpu))) p) (Turn s ∷ [])
    (as_others (events_made (turn_of (ready plans w s) s)))

-- the steps of slots as items
abbrev pub items_of : List Plan → ℕ → World → List Slot → List Item
items_of plans p w [] = []
items_of plans p w (s ∷ ss) = items_of_step plans p w s ++ items_of plans p (next_world plans w s) ss

-- these items have the guest's turns among the steps, and lead where the steps lead
abbrev pub StepsAreItems : Type 0
StepsAreItems = (plans : List Plan) (p : ℕ) (w : World) (ss : List Slot)
    → (turns_among w (items_of plans p w ss) ≡ own_turns plans p w ss)
    × (after_acts w (acts_of w (items_of plans p w ss)) ≡ after_acts w (all_steps plans w ss))

-- in the steps of two runs, of these slots and plans and of those, the guest has the same turns and inputs
abbrev pub StepsOnInputs : ℕ → World → List Plan → List Slot → World → List Plan → List Slot → Type 0
StepsOnInputs p w plans ss v plans2 rs = RunOnInputs p w (items_of plans p w ss) v (items_of plans2 p v rs)

-- then its turns and lines are the same in both, and it is the same in the end
abbrev pub StepsDependOnInputs : Type 0
StepsDependOnInputs = (w v : World) (p : ℕ) (plans plans2 : List Plan) (ss rs : List Slot) → IsSoundWorld w
    → IsSoundWorld v → In p (names_of (nodes w.tree)) → p ≢ w.tree.root.name → IsSameGuest p w v
    → StepsOnInputs p w plans ss v plans2 rs
    → (own_turns plans p w ss ≡ own_turns plans2 p v rs)
    × IsSameGuest p (after_acts w (all_steps plans w ss)) (after_acts v (all_steps plans2 v rs))
