-- What is due of a command that reads nothing, and of one that reads an image.
use Rattle.std.specs.Prelude.{◌≡◌, ℕ, ◌⊎◌, true, false, List, [], ◌∷◌, ◌++◌, length, map}
use Rattle.std.specs.Prelude.{Option, Some, None, Result, Ok, Err, option_map}
use Rattle.std.specs.Io.KnownBytes.{IsAtEnd}
use Rattle.pip_base.specs.declared.types.Plan.{Plan}
use Rattle.pip_image.specs.Reading.{EndsAtMost, IsFaultWithin, parts_then}
use Rattle.pip_model.specs.Images.{Fields, Head, Image, Line, image, image_parts}
use Rattle.pip_model.specs.Images.{page_parts}
use Rattle.pip_model.specs.declared.image.ImageError.{ImageError}
use Rattle.pip_command_contracts.specs.EndsBy.{Due, Response, plainly}
use Rattle.pip_command_contracts.specs.Faults.{image_line}

-- one answer to any input, of which nothing is read; memory is asked for at the start, if it is at all
abbrev pub without_reading : Response → Type 0 → Due
without_reading v memory = record {
  answer = λ input w. w ≡ v;
  enough = λ bytes. Unit {0};
  so_far = λ bytes text. ⊥;
  midway = λ bytes front last. ⊥;
  asks = λ bytes left. memory;
  limit = None;
  unread = λ status. true;
}

-- these bytes are the fields and all plans of an image: whatever follows them is told as its pages
pub record IsHeaderText (bytes : List ℕ) : Type 0 where
  pub fields : Fields
  pub plans : List Plan
  pub all : fields.plans ≡ length plans
  pub at : ℕ
  pub told : (rest : List ℕ) → image_parts (bytes ++ rest)
      ≡ parts_then (Head fields ∷ map Line plans) (page_parts fields.frames [] at fields.pages rest)

-- these bytes have a fault, whatever follows them
pub record IsFaulty (bytes : List ℕ) : Type 0 where
  pub fault : ImageError
  pub first : (image_parts bytes).fault ≡ Some fault
  pub fixed : (rest : List ℕ) → image_parts (bytes ++ rest) ≡ image_parts bytes

-- a command on an image stops at the first fault, and writes nothing before
abbrev pub image_due : (List ℕ → Response → Type 0) → (List ℕ → Option (List ℕ) → Type 0) → Due
image_due answer asks = record {
  answer = answer;
  enough = IsFaulty;
  so_far = λ bytes text. EndsAtMost (image_parts bytes).fault × (text ≡ []);
  midway = λ bytes front last. ⊥;
  asks = asks;
  limit = None;
  unread = λ status. false;
}

-- these bytes are an image and what comes after it
pub record BeginsImage (bytes : List ℕ) : Type 0 where
  pub front : List ℕ
  pub after : List ℕ
  pub all : bytes ≡ front ++ after
  pub parsed : Image
  pub good : image front ≡ Ok parsed

-- the image itself has a fault, which the line names
pub record IsFaultAnswer (bytes : List ℕ) (v : Response) : Type 0 where
  pub fault : ImageError
  pub first : image bytes ≡ Err fault
  pub inside : IsFaultWithin fault
  pub named : option_map (λ line. plainly 2 line None) (image_line fault) ≡ Some v

-- these bytes are an image, and the input ends with them
abbrev pub IsWholeImage : List ℕ → Option (List ℕ) → Type 0
IsWholeImage bytes left = IsAtEnd left × ((i : Image) × (image bytes ≡ Ok i))

-- this answer to an image, or the line that names the first fault
abbrev pub IsImageAnswer : (Image → Response → Type 0) → Result Image ImageError → Response → Type 0
IsImageAnswer P (Ok i) v = P i v
IsImageAnswer P (Err e) v = option_map (λ line. plainly 2 line None) (image_line e) ≡ Some v

-- what searches an image writes nothing before all was found. It asks for memory after the header, and again when the
-- whole image was read
abbrev pub searching_due : (Image → Response → Type 0) → Due
searching_due P = image_due (λ input v. IsImageAnswer P (image input) v)
    (λ bytes left. IsHeaderText bytes ⊎ IsWholeImage bytes left)
