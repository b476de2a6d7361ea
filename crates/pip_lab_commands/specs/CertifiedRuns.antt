-- What parts of an image whose lines could be merged say of runs.
use Rattle.std.specs.Prelude.{◌≡◌, ℕ, true, List, flat_map, Ok}
use Rattle.std.specs.List.{Contains}
use Rattle.std.specs.List.Sorted.{IsPermutation}
use Rattle.pip_asm.specs.Laws.{AreBytes}
use Rattle.pip_base.specs.Memory.{Memory}
use Rattle.pip_base.specs.declared.types.Plan.{Plan}
use Rattle.pip_certificates.specs.CertificateLaw.{AreParts}
use Rattle.pip_certificates.specs.PartDues.{lines_text}
use Rattle.pip_certificates.specs.declared.reading.BaseWord.{BaseWord}
use Rattle.pip_model.specs.Acts.{text_of}
use Rattle.pip_model.specs.Booted.{IsBooted}
use Rattle.pip_model.specs.Grammar.{lines_of}
use Rattle.pip_model.specs.Images.{Image, image, image_word}
use Rattle.pip_certificates.specs.MergeLaw.{ToldPart}
use Rattle.pip_certificates.specs.Merges.{Merging, is_whole, merge_lines, no_merging}
use Rattle.pip_command_contracts.specs.Planned.{lines_planned}
use Rattle.pip_search_commands.specs.RunLaw.{AreLinesOf, ArePlansFrom, steps_from}
use Rattle.pip_every.specs.Texts.{inner}
use Rattle.pip_lab_commands.specs.Words.{from_first}

-- a label was merged
abbrev pub IsMergedLabel : Merging → List ℕ → Type 0
IsMergedLabel g label = Contains g.labels (inner label)

-- where a text has the lines of the texts of parts of an image, in any order, and these could be merged to a whole,
-- each line of a run is one of the labels that were merged: of any number of steps, by any seed, and with any plans of
-- the image's lines that raise none in the first FROM steps
abbrev pub CertificatesNameRuns : Type 0
CertificatesNameRuns = (input : List ℕ) (i : Image) (from : ℕ) (base : List BaseWord) (first : Memory)
    (ts : List ToldPart) (text : List ℕ) (g : Merging) → AreBytes input → image input ≡ Ok i
    → IsBooted i.frames (image_word i.frames i.pages) first → AreParts i from base ts
    → IsPermutation (lines_of (flat_map lines_text ts)) (lines_of text)
    → merge_lines no_merging (lines_of text) ≡ Ok g → is_whole g ≡ true
    → (plans : List Plan) (seed n : ℕ) → ArePlansFrom (lines_planned i.plans) 0 from plans
    → AreLinesOf (IsMergedLabel g) 0 n (text_of (steps_from i from_first plans seed n))
