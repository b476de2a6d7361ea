-- How children have the slots of a round.
use Rattle.std.specs.Prelude.{ℕ, ◌*◌, ◌^◌, ◌<◌}
use Rattle.std.specs.List.{AllByRecursion}
use Rattle.arrayvec.specs.ArrayVec.{ArrayVec}
use Rattle.pip_children.specs.Children.{Schedule}
use Rattle.pip_slots.specs.Images.{placed, round_steps}
use Rattle.pip_slots.specs.Slots.{rounds, slot_run}
use Rattle.pip_slots.specs.declared.time_slot.RoundSlot.{RoundSlot}

-- in this many rounds
abbrev pub slotted : ArrayVec RoundSlot → ℕ → Schedule
slotted round c = record {
  steps = λ n. c * round_steps round.items;
  acts = λ plans ds w. slot_run w (rounds (placed round.items ds) c) 0;
}

-- the number of their steps is a word, and each slot is that of one of n children
pub record IsBounded (round : ArrayVec RoundSlot) (c n : ℕ) : Type 0 where
  pub steps : c * round_steps round.items < 2 ^ 32
  pub children : AllByRecursion (λ x. x.child < n) round.items
