-- That what `slots` writes of a child is a matter of that child alone: two inputs that agree on the child have the same
-- bytes in its slots.
use Rattle.std.specs.List.{concat}
use Rattle.std.specs.Prelude.{◌≡◌, ℕ, ◌+◌, ◌*◌, ◌≤◌, ◌<◌, List, ◌++◌, length, take, Ok, Some, slice_get}
use Rattle.arrayvec.specs.ArrayVec.{ArrayVec}
use Rattle.pip_asm.specs.Laws.{AreBytes}
use Rattle.pip_model.specs.Images.{Image, image}
use Rattle.pip_model.specs.Run.{end_line, trace_image_line}
use Rattle.pip_slots.specs.Images.{AgreeOnChild, round_plan, round_steps}
use Rattle.pip_slots.specs.Slots.{plan_steps}
use Rattle.pip_slots.specs.declared.time_slot.RoundSlot.{RoundSlot}
use Rattle.pip_slots.specs.declared.time_slot.TimeSlot.{TimeSlot}
use Rattle.pip_native.specs.Watching.{addresses, built_from, fresh}
use Rattle.pip_lab_commands.specs.Dues.{slots_due}
use Rattle.pip_command_contracts.specs.EndsBy.{Response}
use Rattle.pip_search_commands.specs.RunLaw.{AreLinesOf}

-- a text of n children with that many rounds of slots, cut into what its slots write: after the image line and the
-- lines of the children the texts of all slots, in which each line is of a step of its slot, and then the last line
pub record AreSlotTexts (i : Image) (n : ℕ) (round : List RoundSlot) (c : ℕ) (texts : List (List ℕ)) (text : List ℕ)
    : Type 0 where
  pub count : length texts ≡ length (round_plan n round c)
  pub whole : text ≡ trace_image_line i.frames i.cpus (length i.plans) (length i.pages)
      ++ (built_from 0 (addresses n n) ++ (concat texts ++ end_line (c * round_steps round)))
  pub lines : (j : ℕ) (s : TimeSlot) (slot : List ℕ) → slice_get (round_plan n round c) j ≡ Some s
      → slice_get texts j ≡ Some slot
      → AreLinesOf (λ label. Unit {0}) (plan_steps (take j (round_plan n round c))) (s.turns + 2) slot

-- two answers are such texts, and what the slots of child k write is the same in both
pub record AreSameForChild (a b : Image) (n k : ℕ) (round : List RoundSlot) (c : ℕ) (v u : Response) : Type 0 where
  pub text : List ℕ
  pub other : List ℕ
  pub text_is : v.last ≡ Some text
  pub other_is : u.last ≡ Some other
  pub texts : List (List ℕ)
  pub others : List (List ℕ)
  pub are : AreSlotTexts a n round c texts text
  pub others_are : AreSlotTexts b n round c others other
  pub same : (j : ℕ) (s : TimeSlot) → slice_get (round_plan n round c) j ≡ Some s → s.child ≡ fresh n k 0
      → slice_get texts j ≡ slice_get others j

-- of two inputs that have child k in common `slots` writes the same for it, whatever they have for the other children
abbrev pub ChildrenAreSeparate : Type 0
ChildrenAreSeparate = (input other : List ℕ) (a b : Image) (n k c : ℕ) (round : ArrayVec RoundSlot) (v u : Response)
    → AreBytes input → AreBytes other → image input ≡ Ok a → image other ≡ Ok b → k < n → n ≤ 8
    → AgreeOnChild n k a b → (slots_due n c round).answer input v → (slots_due n c round).answer other u
    → v.status ≡ 0 → u.status ≡ 0 → AreSameForChild a b n k round.items c v u
