-- What searches of all guests of a world found, each alone; and what it says of all of them together.
use Rattle.std.specs.Prelude.{◌≡◌, ◌≢◌, ℕ, ◌+◌, ◌<◌, ◌&&◌, ◌==◌, Bool, true, false, not, List, [], ◌∷◌, ◌++◌, length}
use Rattle.std.specs.Prelude.{map}
use Rattle.std.specs.Prelude.{Option, Some, is_none, slice_get}
use Rattle.std.specs.List.{AllByRecursion, list_any}
use Rattle.pip_base.specs.Memory.{IsMemory, Memory}
use Rattle.pip_base.specs.declared.types.Plan.{Plan}
use Rattle.pip_model.specs.Acts.{after_acts, text_of}
use Rattle.pip_model.specs.Lists.{In}
use Rattle.pip_model.specs.Run.{steps}
use Rattle.pip_model.specs.Turn.{turn}
use Rattle.pip_model.specs.Worlds.{IsSoundWorld, World}
use Rattle.pip_guests.specs.Programs.{IsRunAsAlone, Slot, all_steps, next_world, ready, run_slots}
use Rattle.pip_search.specs.Summary.{IsTold, Witness}
use Rattle.pip_search.specs.declared.searching.Extent.{Extent}
use Rattle.pip_search.specs.declared.searching.Extent.TheVariants.{Closed, Stopped, Within}
use Rattle.pip_apart.specs.Alone.{guest_model, mark}
use Rattle.pip_apart.specs.Company.{AreGuests, IsOfGuests, TakesNoLine, slots_of}
use Rattle.pip_apart.specs.Tops.{first_taken, processors_of, root_on, tops}

-- what a search of one guest found: its top and its processors, the lines with their ways, how many states there are,
-- and how the search ended
pub record GuestAlone : Type 0 where
  pub top : ℕ
  pub cpus : List ℕ
  pub lines : List Witness
  pub count : ℕ
  pub end : Extent

-- it is what such a search finds, with ways of at most that many turns, and no more states than the limit
pub record IsFoundAt (first : Memory) (w : World) (most limit : ℕ) (g : GuestAlone) : Type 0 where
  pub cpus : g.cpus ≡ processors_of w g.top
  pub told : IsTold (guest_model first (length w.cpus) g.top g.cpus) w most limit g.lines g.count g.end

-- all guests of a world were searched, each alone. Keys compare with some frames
pub record AreFound (w : World) (most limit : ℕ) (gs : List GuestAlone) : Type 0 where
  pub first : Memory
  pub shape : IsMemory first
  pub tops_are : map (λ g. g.top) gs ≡ tops w
  pub each : AllByRecursion (IsFoundAt first w most limit) gs

-- the search closed
abbrev pub has_closed : Extent → Bool
has_closed (Closed depth) = true
has_closed (Within depth) = false
has_closed (Stopped depth) = false

-- a label begins with the mark of a turn that leaves
abbrev pub is_marked : List ℕ → Bool
is_marked [] = false
is_marked (c ∷ cs) = c == mark

-- a search that ended so and found these lines closed, and found no turn that leaves
abbrev pub stays : Extent → List Witness → Bool
stays end lines = has_closed end && not (list_any (λ x. is_marked x.label) lines)

-- each guest stays inside
abbrev pub all_stay : List GuestAlone → Bool
all_stay [] = true
all_stay (g ∷ gs) = stays g.end g.lines && all_stay gs

-- what is known of a world: what its guests do alone, on which processor the root runs, and a line that it might take
pub record Known : Type 0 where
  pub guests : List GuestAlone
  pub root : Option ℕ
  pub line : Option ℕ

-- it is found by searches of the guests of this world, which is sound
pub record IsKnownAt (w : World) (most limit : ℕ) (k : Known) : Type 0 where
  pub sound : IsSoundWorld w
  pub found : AreFound w most limit k.guests
  pub root_is : k.root ≡ root_on w
  pub line_is : k.line ≡ first_taken w.tree

-- so the guests hold in company: each stays inside, the root runs nowhere, and takes no line
abbrev pub hold_apart : Known → Bool
hold_apart k = all_stay k.guests && (is_none k.root && is_none k.line)

-- a line was found by the search of one of these guests
pub record IsLineOf (gs : List GuestAlone) (line : List ℕ) : Type 0 where
  pub place : ℕ
  pub guest : GuestAlone
  pub guest_at : slice_get gs place ≡ Some guest
  pub number : ℕ
  pub witness : Witness
  pub at : slice_get guest.lines number ≡ Some witness
  pub same : witness.label ≡ line

-- then whatever turns processors have from there on, in whatever order and with whatever lines raised: what each shows
-- one of these searches has found
abbrev pub KnownLinesSuffice : Type 0
KnownLinesSuffice = (w : World) (most limit : ℕ) (k : Known) (plans : List Plan) (ss : List Slot) (s : Slot)
    → IsKnownAt w most limit k → hold_apart k ≡ true → AllByRecursion (λ x. x.line < 16) plans
    → text_of (turn (ready plans (after_acts w (all_steps plans w ss)) s) s.cpu 0) ≢ []
    → IsLineOf k.guests (text_of (turn (ready plans (after_acts w (all_steps plans w ss)) s) s.cpu 0))

-- the tops of a world are guests in a company: none is above another, each stays inside where it runs alone, the root
-- takes no line, and whatever slots there are, each is of one of them, or of a processor that runs nothing
pub record AreInCompany (w : World) : Type 0 where
  pub guests : AreGuests w (tops w)
  pub lines : TakesNoLine w (tops w)
  pub slots : (ss : List Slot) → AllByRecursion (IsOfGuests w (tops w)) ss

-- so it is where the guests hold
abbrev pub KnownAreInCompany : Type 0
KnownAreInCompany =
    (w : World) (most limit : ℕ) (k : Known) → IsKnownAt w most limit k → hold_apart k ≡ true → AreInCompany w

-- and then each guest does exactly what it does alone, whatever turns processors have from there on, in whatever order
-- and with whatever lines raised
abbrev pub KnownGuestsHold : Type 0
KnownGuestsHold = (w : World) (most limit : ℕ) (k : Known) (plans : List Plan) (ss : List Slot)
    → IsKnownAt w most limit k → hold_apart k ≡ true → AllByRecursion (λ x. x.line < 16) plans → (p : ℕ)
    → In p (tops w) → IsRunAsAlone plans p w ss (slots_of w p ss)

-- each step of slots shows nothing, or a line of which P holds
abbrev pub ShowOnly : (List ℕ → Type 0) → List Plan → World → List Slot → Type 0
ShowOnly P plans w [] = Unit {0}
ShowOnly P plans w (s ∷ ss) =
    (text_of (turn (ready plans w s) s.cpu 0) ≢ [] → P (text_of (turn (ready plans w s) s.cpu 0)))
    × ShowOnly P plans (next_world plans w s) ss

-- so it is of all steps of any slots
abbrev pub SlotsShowKnown : Type 0
SlotsShowKnown = (w : World) (most limit : ℕ) (k : Known) (plans : List Plan) (ss : List Slot)
    → IsKnownAt w most limit k → hold_apart k ≡ true → AllByRecursion (λ x. x.line < 16) plans
    → ShowOnly (IsLineOf k.guests) plans w ss

-- a run of m steps comes to a world whose guests hold in company: it goes on with steps of which each shows nothing, or
-- a line that is known, and in which each guest does exactly what it does alone
pub record GoesOnKnown (w : World) (plans : List Plan) (seed c m n : ℕ) (k : Known) : Type 0 where
  pub acts : steps w plans seed c (m + n) 0 ≡ steps w plans seed c m 0
      ++ all_steps plans (after_acts w (steps w plans seed c m 0)) (run_slots seed c n m)
  pub show : ShowOnly (IsLineOf k.guests) plans (after_acts w (steps w plans seed c m 0)) (run_slots seed c n m)
  pub alone : (p : ℕ) → In p (tops (after_acts w (steps w plans seed c m 0)))
      → IsRunAsAlone plans p (after_acts w (steps w plans seed c m 0)) (run_slots seed c n m)
      (slots_of (after_acts w (steps w plans seed c m 0)) p (run_slots seed c n m))

-- that is so where that world is known
abbrev pub RunsShowKnown : Type 0
RunsShowKnown = (w : World) (plans : List Plan) (seed c m n most limit : ℕ) (k : Known)
    → IsKnownAt (after_acts w (steps w plans seed c m 0)) most limit k → hold_apart k ≡ true
    → AllByRecursion (λ x. x.line < 16) plans → GoesOnKnown w plans seed c m n k

-- what is known of a world is determined, whatever frames the keys compare with
abbrev pub KnownOnce : Type 0
KnownOnce = (w : World) (most limit : ℕ) (j k : Known) → IsKnownAt w most limit j → IsKnownAt w most limit k → j ≡ k
