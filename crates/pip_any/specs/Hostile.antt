-- A search with a menu, and a world in which the partitions of the menu run programs of their own.
use Rattle.std.specs.Prelude.{◌≡◌, ℕ, ◌+◌, ◌*◌, ◌<◌, ◌≤◌, ◌⊎◌, Bool, true, false, List, []}
use Rattle.std.specs.Prelude.{◌∷◌, length, Some, None, slice_get}
use Rattle.pip_base.specs.declared.outcome.Outcome.{Outcome}
use Rattle.pip_base.specs.declared.outcome.Outcome.TheVariants as O
use Rattle.pip_every.specs.Menus.{Menu, deed_event, is_hostile, is_its, menu_after, menu_label, name_on, usual_choices}
use Rattle.pip_every.specs.Moments.{Moment}
use Rattle.pip_every.specs.declared.menus.Deed.{Deed}
use Rattle.pip_every.specs.declared.menus.Deed.TheVariants as D
use Rattle.pip_every.specs.declared.menus.May.{May}
use Rattle.pip_base.specs.declared.types.Access.TheVariants.{Load, Store, Fetch}
use Rattle.pip_base.specs.declared.types.Size.{Size}
use Rattle.pip_base.specs.declared.types.Size.TheVariants.{Word}
use Rattle.pip_model.specs.Acts.{after_acts, events_made, text_of}
use Rattle.pip_model.specs.Answers.{Five, first_met, five_of}
use Rattle.pip_model.specs.Deliver.{nearest_taker}
use Rattle.pip_model.specs.Lists.{In}
use Rattle.pip_model.specs.Reach.{Fault, Faulted, Place, reach}
use Rattle.pip_model.specs.declared.call_name.CallName.TheVariants.{Masks, Yields}
use Rattle.pip_model.specs.declared.processors.Occupant.{Occupant}
use Rattle.pip_guests.specs.Exits.{IsConfined, IsExit}
use Rattle.pip_model.specs.Events.{Event}
use Rattle.pip_model.specs.Events as E
use Rattle.pip_model.specs.Happens.{call_named, event, fault_number, fault_vector, what_happens, written_over}
use Rattle.pip_model.specs.Tree.{word_of}
use Rattle.pip_model.specs.Turn.{fetch_acts, turn}
use Rattle.pip_model.specs.Worlds.{World, done, runs_on}
use Rattle.pip_model.specs.Switching.{target_node, yield_place, yield_refusals}
use Rattle.pip_guests.specs.Outside.{Alike, Lands, ReadsOutside}
use Rattle.pip_guests.specs.Turns.{TurnReadsOutside}
use Rattle.pip_guests.specs.Unseen.{Answers, IsUnseen}

-- a poll changes nothing, and a partition runs there
abbrev pub FindsNoLine : World → ℕ → Type 0
FindsNoLine w cpu = event w (E.Poll cpu) ≡ done w

-- ---- what a program does

-- all events of a list, each at its moment, stay inside
abbrev pub AllUnseen : List ℕ → (ℕ → ℕ → ℕ → ℕ) → World → List Event → Type 0
AllUnseen own look w [] = Unit {0}
AllUnseen own look w (e ∷ es) = IsUnseen own look w e × AllUnseen own look (event w e).world es

-- a deed can stand for an event, since its line is of the same kind: a call for a call of this number, another for an
-- access or a trap
abbrev pub StandsForEvent : Deed → Event → Type 0
StandsForEvent (D.Call number args) (E.Call cpu n a) = n ≡ number
StandsForEvent (D.Load va y) (E.Load cpu a z) = Unit {0}
StandsForEvent (D.Load va y) (E.Store cpu a z x) = Unit {0}
StandsForEvent (D.Load va y) (E.Fetch cpu) = Unit {0}
StandsForEvent (D.Load va y) (E.Trap cpu k a b) = Unit {0}
StandsForEvent (D.StoreWord va x) (E.Load cpu a z) = Unit {0}
StandsForEvent (D.StoreWord va x) (E.Store cpu a z y) = Unit {0}
StandsForEvent (D.StoreWord va x) (E.Fetch cpu) = Unit {0}
StandsForEvent (D.StoreWord va x) (E.Trap cpu k a b) = Unit {0}
StandsForEvent (D.StoreByte va x) (E.Load cpu a z) = Unit {0}
StandsForEvent (D.StoreByte va x) (E.Store cpu a z y) = Unit {0}
StandsForEvent (D.StoreByte va x) (E.Fetch cpu) = Unit {0}
StandsForEvent (D.StoreByte va x) (E.Trap cpu k a b) = Unit {0}
StandsForEvent (D.Trap v x y) (E.Load cpu a z) = Unit {0}
StandsForEvent (D.Trap v x y) (E.Store cpu a z w) = Unit {0}
StandsForEvent (D.Trap v x y) (E.Fetch cpu) = Unit {0}
StandsForEvent (D.Trap v x y) (E.Trap cpu k a b) = Unit {0}
StandsForEvent _ _ = ⊥

-- an outcome is no word
abbrev pub IsNoWord : Outcome → Type 0
IsNoWord (O.Word x) = ⊥
IsNoWord O.Done = Unit {0}
IsNoWord (O.Reply s v) = Unit {0}
IsNoWord (O.Switched p q k) = Unit {0}
IsNoWord (O.Parked p k) = Unit {0}
IsNoWord O.Idle = Unit {0}

-- an event is on a menu: a deed of what runs there has the same outcome, and leads to a world that looks alike
pub record IsOnMenu (own : List ℕ) (look : ℕ → ℕ → ℕ → ℕ) (g : Menu) (w : World) (cpu : ℕ) (e : Event) : Type 0 where
  pub place : ℕ
  pub may : May
  pub at : slice_get g.may place ≡ Some may
  pub its : is_its w.tree.root.name (name_on w cpu) may ≡ true
  pub stands : StandsForEvent may.deed e
  pub outcome : (event w e).outcome ≡ (event w (deed_event cpu may.deed)).outcome
  pub alike : Alike own look (event w e).world (event w (deed_event cpu may.deed)).world
  pub word : IsNoWord (event w e).outcome

-- each event of a list stays inside, or is on the menu
abbrev pub KeepsToMenu : List ℕ → (ℕ → ℕ → ℕ → ℕ) → Menu → World → ℕ → List Event → Type 0
KeepsToMenu own look g w cpu [] = Unit {0}
KeepsToMenu own look g w cpu (e ∷ es) = (IsUnseen own look w e ⊎ IsOnMenu own look g w cpu e)
    × KeepsToMenu own look g (event w e).world cpu es

-- so it is with a turn, if its poll finds no line
abbrev pub TurnKeepsToMenu : List ℕ → (ℕ → ℕ → ℕ → ℕ) → Menu → World → ℕ → Type 0
TurnKeepsToMenu own look g w cpu =
    FindsNoLine w cpu → KeepsToMenu own look g w cpu (events_made (fetch_acts w 0 cpu))

-- a turn stays inside: its poll finds no line, and nobody sees its events
pub record TurnStaysInside (own : List ℕ) (look : ℕ → ℕ → ℕ → ℕ) (w : World) (cpu : ℕ) : Type 0 where
  pub vain : FindsNoLine w cpu
  pub unseen : AllUnseen own look w (events_made (fetch_acts w 0 cpu))

-- ---- what a search has to find at each of its moments

-- what runs on a processor is hostile
abbrev pub RunsHostile : Menu → World → ℕ → Type 0
RunsHostile g w cpu = is_hostile w.tree.root.name (name_on w cpu) g.may ≡ true

-- a deed is a load that is answered where it is done
abbrev pub DeedAnswers : World → ℕ → Deed → Type 0
DeedAnswers w cpu (D.Load va z) =
    (r : Occupant) × (runs_on w cpu ≡ Some r) × Answers (reach w.tree r.name va Load z)
DeedAnswers w cpu (D.StoreWord va x) = ⊥
DeedAnswers w cpu (D.StoreByte va x) = ⊥
DeedAnswers w cpu (D.Trap v x y) = ⊥
DeedAnswers w cpu (D.Call number args) = ⊥

-- no turn of a partition outside reads anything of words but what is seen, nor does a poll where a hostile one runs;
-- nor do its deeds, but for loads that are answered
pub record LooksAway (own : List ℕ) (look : ℕ → ℕ → ℕ → ℕ) (g : Menu) (w : World) (cpu : ℕ) : Type 0 where
  pub turn : is_hostile w.tree.root.name (name_on w cpu) g.may ≡ false → TurnReadsOutside own look w cpu 0
  pub poll : RunsHostile g w cpu → ReadsOutside own look w (E.Poll cpu)
  pub deeds : RunsHostile g w cpu → FindsNoLine w cpu → (place : ℕ) (d : May) → slice_get g.may place ≡ Some d
      → is_its w.tree.root.name (name_on w cpu) d ≡ true → (DeedAnswers w cpu d.deed → ⊥)
      → ReadsOutside own look w (deed_event cpu d.deed)

-- ---- the law

-- a choice at a moment that looks like w: it leads to one that looks like the world after the turn, and counts as a
-- turn. It shows what the turn shows, unless the turn stays inside
pub record HasChoice (own : List ℕ) (look : ℕ → ℕ → ℕ → ℕ) (g : Menu) (w : World) (cpu : ℕ) (m : Moment) : Type 0 where
  pub choice : ℕ
  pub can : choice < usual_choices g + g.scope.cpus * length g.may
  pub counts : (g.scope.from ≤ (menu_after g m choice).turns) ⊎ (m.turns < (menu_after g m choice).turns)
  pub same : (menu_label g m choice ≡ text_of (turn w cpu 0)) ⊎ TurnStaysInside own look w cpu
  pub alike : Alike own look (after_acts w (turn w cpu 0)) (menu_after g m choice).world

-- each turn has one, if that of a hostile partition keeps to the menu
abbrev pub TurnsHaveChoices : Type 0
TurnsHaveChoices = (own : List ℕ) (look : ℕ → ℕ → ℕ → ℕ) (g : Menu) (w : World) (cpu : ℕ) (m : Moment)
    → Alike own look w m.world
    → cpu < g.scope.cpus → LooksAway own look g m.world cpu
    → (RunsHostile g m.world cpu → TurnKeepsToMenu own look g w cpu) → HasChoice own look g w cpu m

-- ---- which events are on a menu: a trap of its vector and words; one that no partition takes, with any words; an
-- access that faults, for a trap of its fault, address and kind; a call with its arguments

-- the menu has this deed, of what runs there
pub record HasDeed (g : Menu) (w : World) (cpu : ℕ) (d : Deed) : Type 0 where
  pub place : ℕ
  pub may : May
  pub at : slice_get g.may place ≡ Some may
  pub its : is_its w.tree.root.name (name_on w cpu) may ≡ true
  pub deed : may.deed ≡ d

-- a trap, where the menu has it
abbrev pub TrapsAreOnMenu : Type 0
TrapsAreOnMenu =
    (own : List ℕ) (look : ℕ → ℕ → ℕ → ℕ) (g : Menu) (w : World) (cpu k a b : ℕ) → HasDeed g w cpu (D.Trap k a b)
    → IsOnMenu own look g w cpu (E.Trap cpu k a b)

-- a trap that no partition takes, where the menu has its vector with any words
abbrev pub UntakenAreOnMenu : Type 0
UntakenAreOnMenu = (own : List ℕ) (look : ℕ → ℕ → ℕ → ℕ) (g : Menu) (w : World) (cpu k a b c d : ℕ) (r : Occupant)
    → runs_on w cpu ≡ Some r
    → nearest_taker w r.name k ≡ None → HasDeed g w cpu (D.Trap k c d) → IsOnMenu own look g w cpu (E.Trap cpu k a b)

-- a load that faults, where the trap is on the menu that does the same
abbrev pub LoadFaultsAreOnMenu : Type 0
LoadFaultsAreOnMenu = (own : List ℕ) (look : ℕ → ℕ → ℕ → ℕ) (g : Menu) (w : World) (cpu va : ℕ) (z : Size)
    (r : Occupant) (f : Fault)
    → runs_on w cpu ≡ Some r → reach w.tree r.name va Load z ≡ Faulted f
    → IsOnMenu own look g w cpu (E.Trap cpu (fault_vector f) va (16 * 0 + fault_number f))
    → IsOnMenu own look g w cpu (E.Load cpu va z)

-- such a store
abbrev pub StoreFaultsAreOnMenu : Type 0
StoreFaultsAreOnMenu = (own : List ℕ) (look : ℕ → ℕ → ℕ → ℕ) (g : Menu) (w : World) (cpu va : ℕ) (z : Size) (x : ℕ)
    (r : Occupant) (f : Fault)
    → runs_on w cpu ≡ Some r → reach w.tree r.name va Store z ≡ Faulted f
    → IsOnMenu own look g w cpu (E.Trap cpu (fault_vector f) va (16 * 1 + fault_number f))
    → IsOnMenu own look g w cpu (E.Store cpu va z x)

-- such a fetch
abbrev pub FetchFaultsAreOnMenu : Type 0
FetchFaultsAreOnMenu = (own : List ℕ) (look : ℕ → ℕ → ℕ → ℕ) (g : Menu) (w : World) (cpu : ℕ) (r : Occupant)
    (f : Fault) → runs_on w cpu ≡ Some r
    → reach w.tree r.name r.ctx.pc Fetch Word ≡ Faulted f
    → IsOnMenu own look g w cpu (E.Trap cpu (fault_vector f) r.ctx.pc (16 * 2 + fault_number f))
    → IsOnMenu own look g w cpu (E.Fetch cpu)

-- a call, where the menu has one of its number that does the same
abbrev pub CallsAreOnMenu : Type 0
CallsAreOnMenu = (own : List ℕ) (look : ℕ → ℕ → ℕ → ℕ) (g : Menu) (w : World) (cpu n : ℕ) (args : List ℕ) (a : Five)
    → what_happens w (E.Call cpu n a) ≡ what_happens w (E.Call cpu n (five_of args))
    → IsNoWord (event w (E.Call cpu n a)).outcome → HasDeed g w cpu (D.Call n args)
    → IsOnMenu own look g w cpu (E.Call cpu n a)

-- of a yield three arguments count
abbrev pub YieldsReadThree : Type 0
YieldsReadThree = (w : World) (cpu n : ℕ) (a b : Five) → call_named n ≡ Yields → a.x0 ≡ b.x0 → a.x1 ≡ b.x1
    → a.x2 ≡ b.x2 → what_happens w (E.Call cpu n a) ≡ what_happens w (E.Call cpu n b)

-- of vcli and vsti none
abbrev pub MasksReadNone : Type 0
MasksReadNone = (w : World) (cpu n : ℕ) (a b : Five) (m : Bool) → call_named n ≡ Masks m
    → what_happens w (E.Call cpu n a) ≡ what_happens w (E.Call cpu n b)

-- an accepted yield that saves to words of which nothing is seen, or nowhere, is on the menu where the same yield is
-- that saves nothing
abbrev pub YieldsAreOnMenu : Type 0
YieldsAreOnMenu = (own : List ℕ) (look : ℕ → ℕ → ℕ → ℕ) (g : Menu) (w : World) (cpu n : ℕ) (a : Five) (r : Occupant)
    → call_named n ≡ Yields → runs_on w cpu
    ≡ Some r → first_met (yield_refusals w r.name a (target_node w.tree r.name a.x0))
    ≡ None → Lands look (yield_place w.tree r.name a.x2)
    → HasDeed g w cpu (D.Call n (a.x0 ∷ a.x1 ∷ 256 ∷ 0 ∷ 0 ∷ [])) → IsOnMenu own look g w cpu (E.Call cpu n a)

-- a store that is answered, where the menu has a store to that word, by which it looks as after this one
abbrev pub StoresAreOnMenu : Type 0
StoresAreOnMenu = (own : List ℕ) (look : ℕ → ℕ → ℕ → ℕ) (g : Menu) (w : World) (cpu va : ℕ) (z : Size) (x a y : ℕ)
    (r : Occupant) (h i : ℕ) → runs_on w cpu ≡ Some r → reach w.tree r.name va Store z ≡ Place h i
    → reach w.tree r.name a Store Word ≡ Place h i
    → look h i (written_over va z x (word_of (w.tree.words h) i)) ≡ look h i y
    → HasDeed g w cpu (D.StoreWord a y) → IsOnMenu own look g w cpu (E.Store cpu va z x)

-- ---- partitions that are confined

-- of the events of a list those by which a partition of these exits are on the menu
abbrev pub ExitsAreOnMenu : List ℕ → (ℕ → ℕ → ℕ → ℕ) → Menu → World → ℕ → List Event → Type 0
ExitsAreOnMenu own look g w cpu [] = Unit {0}
ExitsAreOnMenu own look g w cpu (e ∷ es) = ((r : Occupant) → runs_on w cpu ≡ Some r → In r.name own
    → IsExit look w r.name e
    → IsOnMenu own look g w cpu e) × ExitsAreOnMenu own look g (event w e).world cpu es

-- so it is with a turn, if its poll finds no line
abbrev pub TurnExitsByMenu : List ℕ → (ℕ → ℕ → ℕ → ℕ) → Menu → World → ℕ → Type 0
TurnExitsByMenu own look g w cpu =
    FindsNoLine w cpu → ExitsAreOnMenu own look g w cpu (events_made (fetch_acts w 0 cpu))

-- then a turn of one that is confined keeps to the menu
abbrev pub ConfinedKeepsToMenu : Type 0
ConfinedKeepsToMenu = (own : List ℕ) (look : ℕ → ℕ → ℕ → ℕ) (g : Menu) (w : World) (cpu : ℕ) (r : Occupant)
    → runs_on w cpu ≡ Some r
    → In r.name own → IsConfined w.tree r.name → TurnExitsByMenu own look g w cpu
    → TurnKeepsToMenu own look g w cpu
