-- What is due of the command that checks a part of a certificate.
use Rattle.std.specs.Prelude.{◌≡◌, ℕ, ◌+◌, ◌*◌, ◌⊎◌, false, if◌then◌else◌, List, [], ◌++◌, flat_map, length, Option}
use Rattle.std.specs.Prelude.{Some, None, Result, Ok, Err}
use Rattle.pip_base.specs.Memory.{Memory}
use Rattle.pip_command_contracts.specs.EndsBy.{Due, Response, plainly}
use Rattle.pip_command_contracts.specs.ImageDues.{BeginsImage, IsFaultAnswer, IsFaulty, IsHeaderText}
use Rattle.pip_every.specs.Keys.{IsKeyOf, model_of}
use Rattle.pip_every.specs.Moments.{Moment, Scope, moment_at}
use Rattle.pip_image.specs.Reading.{EndsAtMost, IsFaultWithin}
use Rattle.pip_model.specs.Booted.{IsBooted}
use Rattle.pip_model.specs.Images.{Image, image_parts, image_word}
use Rattle.pip_model.specs.Run.{image_world}
use Rattle.pip_model.specs.Text.{line_text}
use Rattle.pip_certificates.specs.MergeLaw.{BeginsAtStart, IsSmallPart, ToldPart, lines_of_part}
use Rattle.pip_search.specs.Certificates.{IsClosedPart, IsReachedPart}
use Rattle.pip_search.specs.Portions.{IsPortionOf}
use Rattle.pip_search.specs.Systems.{Model}
use Rattle.pip_command_contracts.specs.Planned.{lines_planned}
use Rattle.pip_certificates.specs.PartAbout.{about_part, words_with}
use Rattle.pip_certificates.specs.PartExact.{booted_fault, booted_from, has_marks, marks_fault}
use Rattle.pip_certificates.specs.PartReading.{HasNoFault}
use Rattle.pip_certificates.specs.PartText.{PartSaid, bad_part_line, part_said}
use Rattle.pip_certificates.specs.declared.faults.PartFault.{PartFault}
use Rattle.pip_certificates.specs.declared.reading.BaseWord.{BaseWord}
use Rattle.pip_certificates.specs.declared.reading.Limits.{Limits}

-- ---- the system of states of an image

-- what can happen to an image: no line comes before that many turns
abbrev pub part_scope : Image → ℕ → Scope
part_scope i from = record { cpus = i.cpus; lines = lines_planned i.plans; from = from }

-- the first moment of an image
abbrev pub image_moment : Image → Moment
image_moment i = moment_at (image_world i)

-- the system of states of an image, whose keys are compared with these words
abbrev pub part_model : Image → ℕ → Memory → Model
part_model i from words = model_of words (part_scope i from)

-- ---- a part of it

-- a part of an image whose frames have booted so: its keys are compared with the booted words, but for those of the
-- base. It is closed, but for what it asks; it has nothing that can't be reached or shown; with no way it has the first
-- key; and it says what it is of
pub record IsPartBooted (i : Image) (from : ℕ) (base : List BaseWord) (t : ToldPart) (first : Memory) : Type 0 where
  pub closed : IsClosedPart (part_model i from (words_with first base)) t.portion
  pub reached : IsReachedPart (part_model i from (words_with first base)) (image_moment i) t.portion
  pub begins : (start : List ℕ) → IsKeyOf (words_with first base) (part_scope i from) start (image_moment i)
      → BeginsAtStart start t
  pub small : IsSmallPart t
  pub about : t.about ≡ about_part i from first (words_with first base)

-- a part of an image
abbrev pub IsPartOf : Image → ℕ → List BaseWord → ToldPart → Type 0
IsPartOf i from base t =
    (first : Memory) × IsBooted i.frames (image_word i.frames i.pages) first × IsPartBooted i from base t first

-- the text of a part: its lines, each with its newline
abbrev pub lines_text : ToldPart → List ℕ
lines_text t = flat_map line_text (lines_of_part t)

-- ---- answers

-- how many frames there are, and how many choices can be made
abbrev pub part_limits : Image → Limits
part_limits i = record { frames = i.frames; choices = i.cpus + length i.plans }

-- how many bytes an image has
abbrev pub image_size : Image → ℕ
image_size i = 24 + 12 * length i.plans + 4100 * length i.pages

-- what the bytes after an image say
abbrev pub after_said : Image → List ℕ → Result PartSaid PartFault
after_said i bytes = part_said (part_limits i) (image_size i) bytes

-- the line that names a fault
abbrev pub fault_response : PartFault → Response
fault_response fault = plainly 2 (bad_part_line fault) None

-- the lines of a part, if there is a mark for each of its choices
abbrev pub part_response : Image → PartSaid → ToldPart → Response
part_response i said t = if has_marks (i.cpus + length i.plans) said t.portion then plainly 0 (lines_text t) None
    else fault_response (marks_fault (image_size i) said)

-- it is the part that the way and the marks say, from the key of the first moment on
abbrev pub IsPartSaid : Image → ℕ → PartSaid → Memory → ToldPart → Type 0
IsPartSaid i from said first t = (start : List ℕ)
    × (IsKeyOf (words_with first said.base) (part_scope i from) start (image_moment i)
    × IsPortionOf (part_model i from (words_with first said.base)) start said.way said.marks t.portion)

-- what is answered to a part of an image whose frames have booted so
pub record IsPartText (i : Image) (from : ℕ) (said : PartSaid) (first : Memory) (v : Response) : Type 0 where
  pub told : ToldPart
  pub is : IsPartBooted i from said.base told first
  pub said_is : IsPartSaid i from said first told
  pub way : told.way ≡ length said.way
  pub text : v ≡ part_response i said told

-- but where a word of its base is the booted one
abbrev pub IsPartJudged : Image → ℕ → PartSaid → Memory → Option ℕ → Response → Type 0
IsPartJudged i from said first (Some k) v = v ≡ fault_response (booted_fault (image_size i) k)
IsPartJudged i from said first None v = IsPartText i from said first v

-- that, or the line that names the first fault of the text
abbrev pub IsPartAnswer : ℕ → Image → Result PartSaid PartFault → Response → Type 0
IsPartAnswer from i (Ok said) v = (first : Memory) × (IsBooted i.frames (image_word i.frames i.pages) first
    × IsPartJudged i from said first (booted_from first 0 said.base) v)
IsPartAnswer from i (Err fault) v = v ≡ fault_response fault

-- an image is followed by a part, or has a fault
abbrev pub IsCheckedInput : ℕ → List ℕ → Response → Type 0
IsCheckedInput from input v = IsFaultAnswer input v
    ⊎ ((b : BeginsImage input) × IsPartAnswer from b.parsed (after_said b.parsed b.after) v)

-- after an image comes a fault, whatever follows these bytes
pub record HasBadPart (bytes : List ℕ) : Type 0 where
  pub begins : BeginsImage bytes
  pub fault : PartFault
  pub fixed : (rest : List ℕ) → after_said begins.parsed (begins.after ++ rest) ≡ Err fault

-- these bytes are an image, and a part after it that only isn't whole
abbrev pub BeginsPart : List ℕ → Type 0
BeginsPart bytes = (b : BeginsImage bytes) × HasNoFault (after_said b.parsed) b.after

-- `part` stops at the first fault, and writes nothing before the part was checked. It asks for memory after the header,
-- and whenever the image was read
abbrev pub part_due : ℕ → Due
part_due from = record {
  answer = IsCheckedInput from;
  enough = λ bytes. ((f : IsFaulty bytes) × IsFaultWithin f.fault) ⊎ HasBadPart bytes;
  so_far = λ bytes text. (EndsAtMost (image_parts bytes).fault ⊎ BeginsPart bytes) × (text ≡ []);
  midway = λ bytes front last. ⊥;
  asks = λ bytes left. IsHeaderText bytes ⊎ BeginsImage bytes;
  limit = None;
  unread = λ status. false;
}
