-- The slots that words write, one after another.
use Rattle.std.proofs.Common.{◌≡◌, ℕ, List, [], ◌∷◌, ◌++◌, Option, Some, None, refl, sym, ap, ◌∙◌, append_assoc}
use Rattle.std.proofs.Common.{append-nil}
use Rattle.pip_lab_commands.specs.Words.{cons_slot, slot_in, slots_in}
use Rattle.pip_slots.specs.declared.time_slot.RoundSlot.{RoundSlot}

-- some slots, and then others, if there are
abbrev pub onto : List RoundSlot → Option (List RoundSlot) → Option (List RoundSlot)
onto xs None = None
onto xs (Some ys) = Some (xs ++ ys)

pub onto_first : (ys : Option (List RoundSlot)) → onto [] ys ≡ ys
onto_first None = refl
onto_first (Some ys) = refl

one_more : (xs : List RoundSlot) (x : RoundSlot) (ys : Option (List RoundSlot))
    → onto xs (cons_slot (Some x) ys) ≡ onto (xs ++ x ∷ []) ys
one_more xs x None = refl
one_more xs x (Some ys) = ap Some (sym (append_assoc xs (x ∷ []) ys))
