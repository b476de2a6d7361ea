-- Why slots are needed: what a child learns in a native run, where a monitor runs the children as long as nothing
-- interrupts them, depends on the other children.
use Rattle.std.specs.Prelude.{◌≡◌, ℕ, ◌<◌, List, Option, Some, slice_get}
use Rattle.pip_base.specs.declared.outcome.Outcome.{Outcome}
use Rattle.pip_model.specs.Acts.{events_made}
use Rattle.pip_model.specs.Images.{Image}
use Rattle.pip_model.specs.Run.{image_world}
use Rattle.pip_guests.specs.Guests.{learns_own}
use Rattle.pip_native.specs.Watching.{fresh, native_steps, ready_world}
use Rattle.pip_slots.specs.Images.{AgreeOnChild, HasRooms}
use Rattle.pip_slots.specs.Slots.{IsRootsChild}

-- what the guest p learns of its own events in a native run of n children
abbrev pub native_learns : Image → ℕ → ℕ → ℕ → List (Option Outcome)
native_learns a n p count = learns_own p (ready_world (image_world a) n) (events_made (native_steps a n count))

-- the law of images without slots: two images that have child k in common, and the same plans of lines. As far as the
-- child comes in both, it learns the same of each of its events
abbrev pub NativeSeparates : Type 0
NativeSeparates = (a b : Image) (n k p count j : ℕ) (x y : Option Outcome) → k < n → HasRooms n a → HasRooms n b
    → AgreeOnChild n k a b → a.plans ≡ b.plans → IsRootsChild (ready_world (image_world a) n) (fresh n k 0) p
    → slice_get (native_learns a n p count) j ≡ Some x → slice_get (native_learns b n p count) j ≡ Some y → x ≡ y

-- it is false: where a line interrupts the child depends on its sibling's turns, and the child finds the place in its
-- own block
abbrev pub NativeIsNotSeparate : Type 0
NativeIsNotSeparate = NativeSeparates → ⊥
