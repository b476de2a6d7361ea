-- What is due before a part follows from what is due after it.
use Rattle.std.proofs.Common.{◌≡◌, ◌≢◌, ℕ, true, false, List, [], ◌∷◌, ◌++◌, Some, None, Ok, Err, refl, sym, ap, ◌∙◌}
use Rattle.std.proofs.Common.{append_assoc}
use Rattle.pip_io.specs.Due.{LeadsAfter}
use Rattle.pip_image.specs.Feeding.{IsFaultAt, is_short}
use Rattle.pip_image.specs.Reading.{EndsAtMost, no_more_parts}
use Rattle.pip_model.specs.Images.{Part, PartsRead, part_before}
use Rattle.pip_model.specs.declared.image.ImageError.{ImageError}
use Rattle.pip_model.specs.declared.image.ImageError.TheVariants as F
use Rattle.pip_asm.specs.Dues.{IsAtPart, IsFixed, IsDisassembled, outcome, parts_due}
use Rattle.pip_asm.specs.Writing.{parts_text}
use Rattle.pip_asm.specs.declared.dis.disassembler.DisError.TheVariants.{Image}
use Rattle.pip_asm.proofs.Written.{parts_append}

module _ (t u : List ℕ → PartsRead) (bytes : List ℕ) (p : Part)
    (is : (rest : List ℕ) → t (bytes ++ rest) ≡ part_before p (u rest)) where
  pub part_leads : LeadsAfter (parts_due t) (parts_due u) bytes (parts_text (p ∷ []))
  part_leads = record {
    answer = λ more front last v h. record {
      is = rw (is more) h.is;
      text = rw (is more, h.text) (sym (parts_append (p ∷ []) (u more).parts));
      none = h.none;
      own = h.own;
    };
    enough = λ more v h. record {
      fault = h.fault;
      first = rw (is more) h.first;
      fixed = λ rest. rw (append_assoc bytes more rest, is (more ++ rest), is more, h.fixed rest) refl;
    };
    so_far = λ more said h. (rw (is more) h.0, rw (is more, h.1) (sym (parts_append (p ∷ []) (u more).parts)));
    midway = λ more front last h. record {
      done = p ∷ h.done;
      part = h.part;
      next = h.next;
      told = λ rest. rw (append_assoc bytes more rest, is (more ++ rest), h.told rest) refl;
      before = rw h.before (sym (parts_append (p ∷ []) h.done));
      own = h.own;
    };
  }

  -- its text is being written
  pub part_midway : IsAtPart t bytes [] (parts_text (p ∷ []))
  part_midway = record { done = []; part = p; next = u; told = is; before = refl; own = refl }
