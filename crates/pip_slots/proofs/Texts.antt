-- The texts of all slots are what a plan writes.
use Rattle.std.proofs.Common.{◌≡◌, ℕ, List, [], ◌∷◌, length, refl}
use Rattle.std.specs.List.{concat}
use Rattle.pip_model.specs.Acts.{text_of}
use Rattle.pip_model.specs.Worlds.{World}
use Rattle.pip_model.proofs.OnLists.Acts.{text-append}
use Rattle.pip_slots.specs.declared.time_slot.TimeSlot.{TimeSlot}
use Rattle.pip_slots.specs.Slots.{after_slot, next_step, slot_acts, slot_run, slot_texts}

pub texts_joined : (w : World) (ss : List TimeSlot) (t : ℕ) → concat (slot_texts w ss t) ≡ text_of (slot_run w ss t)
texts_joined w [] t = refl
texts_joined w (s ∷ ss) t =
    rw (
      texts_joined (after_slot w s t) ss (next_step s t),
      ← text-append (slot_acts w s t)
          (slot_run (after_slot w s t) ss (next_step s t)),
    )

pub texts_count : (w : World) (ss : List TimeSlot) (t : ℕ) → length (slot_texts w ss t) ≡ length ss
texts_count w [] t = refl
texts_count w (s ∷ ss) t = rw (texts_count (after_slot w s t) ss (next_step s t))
