-- Faults of images, and the lines that name them.
use Rattle.std.proofs.Common.{◌≡◌, ℕ, ◌⊎◌, inl, inr, Option, None, Some, List}
use Rattle.std.proofs.Common.{[], Err, refl, sym, ap, ◌∙◌, append-nil}
use Rattle.std.specs.Io.KnownBytes.{IsAtEnd}
use Rattle.pip_image.specs.Reading.{IsFault, by_read, parts_then, only_fault}
use Rattle.pip_image.proofs.Steps.{after_fault}
use Rattle.pip_model.specs.Images.{Part, image, image_parts, image_or_fault}
use Rattle.pip_model.specs.declared.image.ImageError.{ImageError}
use Rattle.pip_model.specs.declared.image.ImageError.TheVariants as F
use Rattle.pip_command_contracts.specs.Faults.{image_line}
use Rattle.pip_command_contracts.specs.ImageDues.{IsFaulty}

-- a failed read has no line, and each other fault has one
pub by_line : (e : ImageError) (A B : Type 0) → by_read e A B
    → (A × (image_line e ≡ None)) ⊎ (B × ((line : List ℕ) × (image_line e ≡ Some line)))
by_line (F.Magic at) A B h = inr (h, (_, refl))
by_line (F.OldVersion at) A B h = inr (h, (_, refl))
by_line (F.Frames at) A B h = inr (h, (_, refl))
by_line (F.Cpus at) A B h = inr (h, (_, refl))
by_line (F.Plan at) A B h = inr (h, (_, refl))
by_line (F.Page at) A B h = inr (h, (_, refl))
by_line (F.Twice at) A B h = inr (h, (_, refl))
by_line (F.Short at) A B h = inr (h, (_, refl))
by_line (F.Long at) A B h = inr (h, (_, refl))
by_line F.Read A B h = inl (h, refl)

-- what these bytes are, where a fault comes after some parts
pub faulty : (parts : List Part) (bytes : List ℕ) (left : Option (List ℕ)) (e : ImageError)
    → IsFault image_parts parts bytes left e → image_parts bytes ≡ parts_then parts (only_fault e)
faulty parts bytes left e (inl all) = ap image_parts (sym (append-nil bytes)) ∙ all []
faulty parts bytes left e (inr here) = here.0

-- a fault after some parts is decided, or the input ends with it
pub is_faulty : (parts : List Part) (bytes : List ℕ) (left : Option (List ℕ)) (e : ImageError)
    → IsFault image_parts parts bytes left e → IsFaulty bytes ⊎ IsAtEnd left
is_faulty parts bytes left e is =
    let told = faulty parts bytes left e is in elim is [
      | inl all ↦ inl (record {
        fault = e;
        first = ap (λ t. t.fault) told ∙ after_fault parts (only_fault e);
        fixed = λ rest. all rest ∙ sym told;
      })
      | inr here ↦ inr here.1
    ]

-- and makes no image
pub no_image : (parts : List Part) (bytes : List ℕ) (left : Option (List ℕ)) (e : ImageError)
    → IsFault image_parts parts bytes left e → image bytes ≡ Err e
no_image parts bytes left e is =
    ap (image_or_fault (image_parts bytes).parts) (ap (λ t. t.fault) (faulty parts bytes left e is) ∙ after_fault parts
    (only_fault e))
