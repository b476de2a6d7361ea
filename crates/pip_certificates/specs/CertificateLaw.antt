-- What the texts of parts of an image say together, where their lines could be merged.
use Rattle.std.specs.Prelude.{◌≡◌, ◌≤◌, ℕ, true, List, Ok, flat_map, slice_get, Some}
use Rattle.std.specs.List.Sorted.{IsPermutation}
use Rattle.pip_base.specs.Memory.{Memory}
use Rattle.pip_model.specs.Booted.{IsBooted}
use Rattle.pip_model.specs.Grammar.{lines_of}
use Rattle.pip_model.specs.Images.{Image, image_word}
use Rattle.pip_certificates.specs.MergeLaw.{MergeSays, ToldPart}
use Rattle.pip_certificates.specs.Merges.{Merging, is_whole, merge_lines, no_merging}
use Rattle.pip_certificates.specs.PartAbout.{words_with}
use Rattle.pip_certificates.specs.PartDues.{IsPartOf, image_moment, lines_text, part_model}
use Rattle.pip_certificates.specs.declared.reading.BaseWord.{BaseWord}

-- all these are parts of one image, with one FROM and one base
abbrev pub AreParts : Image → ℕ → List BaseWord → List ToldPart → Type 0
AreParts i from base ts = (j : ℕ) (t : ToldPart) → slice_get ts j ≡ Some t → IsPartOf i from base t

-- The law of certificates: where a text has the lines of the texts of parts of one image, with one base and one FROM,
-- in any order, and these lines could be merged to a whole, the parts say all that can happen to the image from its
-- first moment on, whatever the schedule, if no line comes before FROM turns: no label but those that were merged
-- comes, as many states can be reached as were counted, and the deepest is as deep. If there is a part, what was merged
-- is of this image, and of this FROM and base
abbrev pub CertificatesSay : Type 0
CertificatesSay = (i : Image) (from : ℕ) (base : List BaseWord) (first : Memory) (ts : List ToldPart)
    (text : List ℕ) (g : Merging) → 1 ≤ i.cpus → i.cpus ≤ 4
    → IsBooted i.frames (image_word i.frames i.pages) first → AreParts i from base ts
    → IsPermutation (lines_of (flat_map lines_text ts)) (lines_of text)
    → merge_lines no_merging (lines_of text) ≡ Ok g → is_whole g ≡ true
    → MergeSays (part_model i from (words_with first base)) (image_moment i) ts g
