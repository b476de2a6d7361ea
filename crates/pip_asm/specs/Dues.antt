-- What is due of an image that is disassembled, or of what is left of it.
use Rattle.std.specs.Prelude.{◌≡◌, ◌≢◌, ℕ, List, [], ◌∷◌, ◌++◌, Option, Some, None, Result, Ok, Err}
use Rattle.pip_io.specs.Due.{DueOf}
use Rattle.pip_io.specs.declared.driver.FailedStream.{FailedStream}
use Rattle.pip_io.specs.declared.driver.FailedStream.TheVariants as S
use Rattle.pip_image.specs.Reading.{EndsAtMost, parts_then}
use Rattle.pip_model.specs.Images.{Part, PartsRead}
use Rattle.pip_model.specs.declared.image.ImageError.{ImageError}
use Rattle.pip_model.specs.declared.image.ImageError.TheVariants as F
use Rattle.pip_asm.specs.Writing.{parts_text}
use Rattle.pip_asm.specs.declared.dis.disassembler.DisError.{DisError}
use Rattle.pip_asm.specs.declared.dis.disassembler.DisError.TheVariants.{Image, Write}

-- these bytes have this fault, if they have one, and this is the text of the parts before it
pub record IsDisassembled (tell : List ℕ → PartsRead) (bytes front last : List ℕ)
    (fault : Option ImageError) : Type 0 where
  pub is : (tell bytes).fault ≡ fault
  pub text : front ≡ parts_text (tell bytes).parts
  pub none : last ≡ []
  pub own : fault ≢ Some F.Read

-- these bytes have a fault, whatever follows them
pub record IsFixed (tell : List ℕ → PartsRead) (bytes : List ℕ) : Type 0 where
  pub fault : ImageError
  pub first : (tell bytes).fault ≡ Some fault
  pub fixed : (rest : List ℕ) → tell (bytes ++ rest) ≡ tell bytes

-- these bytes are some parts and one more, whatever follows them. The front is the text of those, the last that
-- of the one
pub record IsAtPart (tell : List ℕ → PartsRead) (bytes front last : List ℕ) : Type 0 where
  pub done : List Part
  pub part : Part
  pub next : List ℕ → PartsRead
  pub told : (rest : List ℕ) → tell (bytes ++ rest) ≡ parts_then (done ++ part ∷ []) (next rest)
  pub before : front ≡ parts_text done
  pub own : last ≡ parts_text (part ∷ [])

-- the text of each part is out before more is read; it ends at the first fault, or with the image
abbrev pub parts_due : (List ℕ → PartsRead) → DueOf (Option ImageError)
parts_due tell = record {
  answer = IsDisassembled tell;
  enough = λ bytes fault. IsFixed tell bytes;
  so_far = λ bytes text. EndsAtMost (tell bytes).fault × (text ≡ parts_text (tell bytes).parts);
  midway = IsAtPart tell;
}

-- how a disassembly ended, or what failed
abbrev pub outcome : {U : Type 0} → Result U DisError → Result (Option ImageError) FailedStream
outcome (Ok u) = Ok None
outcome (Err (Image F.Read)) = Err S.Read
outcome (Err (Image e)) = Ok (Some e)
outcome (Err Write) = Err S.Write
