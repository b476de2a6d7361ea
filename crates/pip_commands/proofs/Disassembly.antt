-- What is due of `dis`, by what is due of its machine.
use Rattle.std.proofs.Common.{false, ◌≡◌, ◌≢◌, ℕ, inl, inr, Option, None, Some, List, refl}
use Rattle.pip_asm.specs.Dues.{IsFixed, parts_due}
use Rattle.pip_io.specs.Ends.{IsAnswer}
use Rattle.pip_model.specs.Images.{image_parts}
use Rattle.pip_model.specs.declared.image.ImageError.{ImageError}
use Rattle.pip_model.specs.declared.image.ImageError.TheVariants as F
use Rattle.pip_command_contracts.specs.EndsBy.{IsAnswered}
use Rattle.pip_command_contracts.specs.Faults.{image_line}
use Rattle.pip_command_contracts.specs.ImageDues.{IsFaulty}
use Rattle.pip_commands.specs.Dues.{dis_due}
use Rattle.pip_commands.proofs.Driven.{Serves}

pub dis_serves : Serves dis_due (parts_due image_parts) false
dis_serves = record {
  so_far = λ bytes text h. h;
  midway = λ bytes front last h. h;
  last = λ bytes front last left v h some. elim some [
    | inl some ↦ absurd (some h.is.none)
    | inr is ↦ absurd (cc is)
  ];
  within = λ bytes. tt;
  reads = λ code u. cc;
}

-- each fault that isn't a failed read has its line
pub has_line : (e : ImageError) → e ≢ F.Read → (line : List ℕ) × (image_line e ≡ Some line)
has_line F.Read own = absurd (own refl)
has_line (F.Magic at) own = (_, refl)
has_line (F.OldVersion at) own = (_, refl)
has_line (F.Frames at) own = (_, refl)
has_line (F.Cpus at) own = (_, refl)
has_line (F.Plan at) own = (_, refl)
has_line (F.Page at) own = (_, refl)
has_line (F.Twice at) own = (_, refl)
has_line (F.Short at) own = (_, refl)
has_line (F.Long at) own = (_, refl)

faulty : (bytes : List ℕ) → IsFixed image_parts bytes → IsFaulty bytes
faulty bytes h = record { fault = h.fault; first = h.first; fixed = h.fixed }

module _ (bytes front last : List ℕ) (left : Option (List ℕ)) where
  pub whole_due : IsAnswer (parts_due image_parts) bytes front last left None
      → IsAnswered dis_due bytes (record { status = 0; front = front; last = None; world = None }) left
  whole_due h = record {
    is = rw (h.is.is, h.is.text) refl;
    decided = elim h.decided [
      | inl enough ↦ absurd (cc (enough.first, h.is.is))
      | inr end ↦ inr (end, tt)
    ];
  }

  pub fault_due : (e : ImageError) (line : List ℕ) → image_line e ≡ Some line
      → IsAnswer (parts_due image_parts) bytes front last left (Some e)
      → IsAnswered dis_due bytes (record { status = 2; front = front; last = Some line; world = None }) left
  fault_due e line named h = record {
    is = rw (h.is.is, h.is.text, named) refl;
    decided = elim h.decided [
      | inl enough ↦ inl (faulty bytes enough)
      | inr end ↦ inr (end, tt)
    ];
  }
