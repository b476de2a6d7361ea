-- The law of slots, said of machines: of the states that contracts see, and of what a sink took.
use Rattle.std.specs.Prelude.{◌≡◌, ℕ, ◌<◌, List, Some, slice_get}
use Rattle.std.specs.List.{AllByRecursion, concat}
use Rattle.pip_cpu.specs.Made.{Made}
use Rattle.pip_io.specs.Taken.{Appends, Taken}
use Rattle.pip_model.specs.Images.{Image}
use Rattle.pip_model.specs.Run.{image_world}
use Rattle.pip_model.specs.Sound.{IsWord}
use Rattle.pip_model.specs.Worlds.{World}
use Rattle.pip_switch.specs.Standing.{StandsAs, State}
use Rattle.pip_guests.specs.Guests.{IsSameGuest}
use Rattle.pip_native.specs.Watching.{fresh, ready_world}
use Rattle.pip_slots.specs.Images.{AgreeOnChild, HasRooms}
use Rattle.pip_slots.specs.declared.time_slot.TimeSlot.{TimeSlot}
use Rattle.pip_slots.specs.Slots.{IsBetweenSlots, IsRootsChild, slot_run, slot_texts}

-- a machine ran a plan from step t on, and all its lines were written: what `acts` of run_slots says at Ok
abbrev pub RunsPlan : State → State → Taken → Taken → List TimeSlot → ℕ → Type 0
RunsPlan m n old new ss t = (w : World) → StandsAs m w → Made (StandsAs n) old new w (slot_run w ss t)

-- two machines are at the beginning of a slot, and p, the root's child at an address, is the same in both
pub record AreWithChild (d p : ℕ) (m n : State) : Type 0 where
  pub left : World
  pub right : World
  pub stands_left : StandsAs m left
  pub stands_right : StandsAs n right
  pub between_left : IsBetweenSlots left
  pub between_right : IsBetweenSlots right
  pub child : IsRootsChild left d p
  pub guest : IsSameGuest p left right

-- both ran a plan: each wrote the texts of its slots, those of the child are the same, byte by byte, and so is the
-- child afterwards
pub record AreSeparate (d p : ℕ) (m n m2 n2 : State) (old new old2 new2 : Taken) (ss : List TimeSlot) (t : ℕ)
    (both : AreWithChild d p m m2) : Type 0 where
  pub wrote : Appends old new (concat (slot_texts both.left ss t))
  pub wrote_there : Appends old2 new2 (concat (slot_texts both.right ss t))
  pub texts : (j : ℕ) (s : TimeSlot) → slice_get ss j ≡ Some s → s.child ≡ d
      → slice_get (slot_texts both.left ss t) j ≡ slice_get (slot_texts both.right ss t) j
  pub next : AreWithChild d p n n2

-- that is so of any two machines that run one plan
abbrev pub MachinesSeparate : Type 0
MachinesSeparate = (d p : ℕ) (m n m2 n2 : State) (old new old2 new2 : Taken) (ss : List TimeSlot) (t : ℕ)
    → (both : AreWithChild d p m m2) → AllByRecursion (λ s. IsWord s.child) ss → RunsPlan m n old new ss t
    → RunsPlan m2 n2 old2 new2 ss t → AreSeparate d p m n m2 n2 old new old2 new2 ss t both

-- two machines whose children were built of images that have child k in common begin so
abbrev pub MachinesBegin : Type 0
MachinesBegin = (a b : Image) (n k : ℕ) (m m2 : State) → k < n → HasRooms n a → HasRooms n b → AgreeOnChild n k a b
    → StandsAs m (ready_world (image_world a) n) → StandsAs m2 (ready_world (image_world b) n)
    → (p : ℕ) × AreWithChild (fresh n k 0) p m m2
