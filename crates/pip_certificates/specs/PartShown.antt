-- What the command that checks a part comes to, by what the program holds.
use Rattle.std.specs.Prelude.{◌≡◌, ℕ, ◌+◌, ◌*◌, ◌⊎◌, List, ◌++◌, ◌∷◌, [], if◌then◌else◌, length, None, Result}
use Rattle.pip_audit.specs.CoreTexts.{core_words}
use Rattle.pip_command_contracts.specs.EndsBy.{IsOfAnswer, Response, plainly}
use Rattle.pip_command_contracts.specs.Loading.{BeginsFrames}
use Rattle.pip_command_contracts.specs.Streams.{EndsLine}
use Rattle.pip_image.specs.declared.header.Header.{Header}
use Rattle.pip_base.specs.Memory.{Memory}
use Rattle.pip_io.specs.Taken.{Keeps}
use Rattle.pip_io.specs.Histories.{Writing}
use Rattle.pip_model.specs.Images.{Image}
use Rattle.pip_model.specs.Text.{line_text}
use Rattle.pip_certificates.specs.Entries.{key_digits}
use Rattle.pip_certificates.specs.MergeLaw.{IsSmallPart, ToldPart, told_numbers}
use Rattle.pip_search.specs.Certificates.{Stop}
use Rattle.pip_search.specs.Parts.{portion_of}
use Rattle.pip_search.specs.declared.parts.Part.{Part}
use Rattle.pip_certificates.specs.PartDues.{IsPartBooted, IsPartSaid, fault_response, lines_text}
use Rattle.pip_certificates.specs.PartExact.{has_marks, marks_fault}
use Rattle.pip_certificates.specs.declared.checking.Checked.{Checked}
use Rattle.pip_certificates.specs.PartText.{PartSaid, part_said}
use Rattle.pip_certificates.specs.declared.faults.PartFault.{PartFault}
use Rattle.pip_certificates.specs.declared.reading.Limits.{Limits}

-- how many frames there are, and how many choices can be made, by a header
abbrev pub header_limits : Header → Limits
header_limits h = record { frames = h.frames; choices = h.cpus + length h.plans.items }

-- how many bytes an image with this header has
abbrev pub header_size : Header → ℕ
header_size h = 24 + 12 * length h.plans.items + 4100 * h.pages

-- what the bytes after it say
abbrev pub header_said : Header → List ℕ → Result PartSaid PartFault
header_said h bytes = part_said (header_limits h) (header_size h) bytes

-- a part that was checked
abbrev pub told_part : Checked → ToldPart
told_part c = record { portion = portion_of c.part; about = c.about.bytes; way = c.numbers.way }

-- the numbers of a part that was checked are its own
abbrev pub CountsStops : Checked → Type 0
CountsStops c = c.numbers ≡ told_numbers (told_part c)

-- it is the part of the image whose frames these are, as its way and its marks say
pub record IsChecked (i : Image) (from : ℕ) (said : PartSaid) (first : Memory) (c : Checked) : Type 0 where
  pub is : IsPartBooted i from said.base (told_part c) first
  pub said_is : IsPartSaid i from said first (told_part c)

-- so of each image that has begun with these frames
abbrev pub IsCheckedOf : Header → Memory → ℕ → PartSaid → Checked → Type 0
IsCheckedOf h first from said c = (i : Image) → BeginsFrames i h first → IsChecked i from said first c

-- the line of a key, with what comes between its digits and its depth
abbrev pub stop_line : List ℕ → Stop → List ℕ
stop_line kind x = line_text (key_digits x.key ++ kind ++ core_words (x.depth ∷ []))

-- an answer was written, or a part of it, where a write failed; or there was no memory
abbrev pub EndsWithPart : (Response → Type 0) → ℕ → Writing → Writing → Type 0
EndsWithPart P status before after =
    ((n : ℕ) × ((text : List ℕ) × (IsOfAnswer n × (P (plainly n text None) × EndsLine n text status before after))))
    ⊎ ((status ≡ 5) × Keeps before.written after.written)

-- a part with its numbers
pub record IsNumbered (p : Part) (text : List ℕ) (n : ℕ) (c : Checked) : Type 0 where
  pub part : c.part ≡ p
  pub about : c.about.bytes ≡ text
  pub way : c.numbers.way ≡ n
  pub counts : CountsStops c
  pub small : IsSmallPart (told_part c)

-- the lines of a part, if there is a mark for each of its choices, by a header
abbrev pub told_response : Header → PartSaid → ToldPart → Response
told_response h said t = if has_marks (h.cpus + length h.plans.items) said t.portion then plainly 0 (lines_text t) None
    else fault_response (marks_fault (header_size h) said)
