-- Where a command waits: at first nothing was read.
use Rattle.std.specs.Prelude.{◌≡◌, refl, ℕ, List, [], Option}
use Rattle.std.proofs.Common.{ap, sym, subst}
use Rattle.std.specs.Io.KnownBytes.{Consumes}
use Rattle.std.proofs.KnownBytes.{Consumes-nil}
use Rattle.pip_image.specs.Pacing.{IsFaultless}
use Rattle.pip_image.specs.Reading.{EndsAtMost, only_fault}
use Rattle.pip_io.proofs.Taken.{Appends-nil}
use Rattle.pip_model.specs.Images.{Image, fields_of, image_parts}
use Rattle.pip_model.specs.declared.image.ImageError.TheVariants as F
use Rattle.pip_command_contracts.specs.EndsBy.{Due, IsWithin, Response}
use Rattle.pip_command_contracts.specs.ImageDues.{image_due, searching_due}
use Rattle.pip_command_contracts.specs.Pacing.{Waits}
use Rattle.pip_command_contracts.specs.Streams.{Streams}

-- no byte is an image that is too short
pub nothing_told : image_parts [] ≡ only_fault (F.Short 0)
unfolding fields_of
nothing_told = refl

pub no_fault : IsFaultless image_parts []
no_fault = subst EndsAtMost (sym (ap (λ t. t.fault) nothing_told)) tt

module _ (a : Streams) (none : a.written.buffered ≡ []) where
  -- after bytes for which no text is due
  pub waits_after : (d : Due) (bytes : List ℕ) (left : Option (List ℕ)) → Consumes a.left left bytes
      → d.so_far bytes [] → IsWithin d.limit bytes
      → Waits d a (record { left = left; written = a.written; reads = a.reads; writes = a.writes })
  waits_after d bytes left read due limit = record {
    bytes = bytes;
    read = read;
    so_far = record { text = []; due = due; limit = limit; wrote = Appends-nil a.written };
    out = none;
    reads = refl;
    writes = refl;
  }

  pub waits_first : (d : Due) → d.so_far [] [] → IsWithin d.limit [] → Waits d a a
  waits_first d due limit = waits_after d [] a.left (Consumes-nil a.left) due limit

  pub found_waits : (P : Image → Response → Type 0) → Waits (searching_due P) a a
  found_waits P = waits_first (searching_due P) (no_fault, refl) tt
