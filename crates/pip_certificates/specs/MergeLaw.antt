-- What lines that could be merged say of the parts whose lines they are.
use Rattle.std.specs.Prelude.{◌≡◌, ◌≢◌, ℕ, ◌^◌, ◌<◌, true, List, [], ◌∷◌, ◌++◌, map, flat_map, Ok, length, get_or, Some}
use Rattle.std.specs.Prelude.{slice_get}
use Rattle.std.specs.List.{Contains}
use Rattle.std.specs.List.Sorted.{IsPermutation}
use Rattle.pip_search.specs.Certificates.{AreClosedParts, AreReachedParts, CountAll, HasStop, Portion}
use Rattle.pip_search.specs.Certificates.{SayAll, Stop, all_keys}
use Rattle.pip_search.specs.Summary.{HasOneKey}
use Rattle.pip_search.specs.Systems.{Model}
use Rattle.pip_every.specs.Texts.{inner}
use Rattle.pip_certificates.specs.Entries.{Asks, Own, Shows, Tells, entry_line, key_digits, begun_entry}
use Rattle.pip_certificates.specs.Sums.{labels_sum}
use Rattle.pip_certificates.specs.declared.parts.lines.PartNumbers.{PartNumbers}
use Rattle.pip_certificates.specs.Merges.{Merging, is_whole, merge_lines, no_merging}

-- a part with what its text says of it: what it is of, and how many choices lead to its first key
pub record ToldPart : Type 0 where
  pub portion : Portion
  pub about : List ℕ
  pub way : ℕ

-- its numbers
abbrev pub told_numbers : ToldPart → PartNumbers
told_numbers t = record {
  way = t.way;
  keys = length t.portion.keys;
  asked = length t.portion.asked;
  labels = length t.portion.labels;
  sum = labels_sum (map inner t.portion.labels);
}

-- the lines of its text: its keys, those that it asks, its labels, and the part
abbrev pub lines_of_part : ToldPart → List (List ℕ)
lines_of_part t = map (λ x. entry_line (Own (key_digits x.key) x.depth)) t.portion.keys
    ++ (map (λ x. entry_line (Asks (key_digits x.key) x.depth)) t.portion.asked
    ++ (map (λ label. entry_line (Shows (inner label))) t.portion.labels
    ++ entry_line (Tells t.about (told_numbers t)) ∷ []))

-- the words of a key and its depth are below 2^32
pub record IsSmallStop (x : Stop) : Type 0 where
  pub words : (i : ℕ) → get_or x.key i 0 < 2 ^ 32
  pub depth : x.depth < 2 ^ 32

-- and so are the numbers of a part
pub record IsSmallPart (t : ToldPart) : Type 0 where
  pub keys : (j : ℕ) (x : Stop) → slice_get t.portion.keys j ≡ Some x → IsSmallStop x
  pub asked : (j : ℕ) (x : Stop) → slice_get t.portion.asked j ≡ Some x → IsSmallStop x
  pub way : t.way < 2 ^ 32
  pub count : length t.portion.keys < 2 ^ 32
  pub asks : length t.portion.asked < 2 ^ 32
  pub labels : length t.portion.labels < 2 ^ 32

-- a part to which no choice leads has the first key
abbrev pub BeginsAtStart : List ℕ → ToldPart → Type 0
BeginsAtStart start t = t.way ≡ 0 → HasStop t.portion.keys start 0

-- parts, each of which was checked
pub record AreChecked (m : Model) (s : m.State) (start : List ℕ) (ts : List ToldPart) : Type 0 where
  pub closed : AreClosedParts m (map (λ t. t.portion) ts)
  pub reached : AreReachedParts m s (map (λ t. t.portion) ts)
  pub begin : (j : ℕ) (t : ToldPart) → slice_get ts j ≡ Some t → BeginsAtStart start t
  pub small : (j : ℕ) (t : ToldPart) → slice_get ts j ≡ Some t → IsSmallPart t

-- what a merge says of parts: they say all that can happen, what they count is what was merged, and so are their
-- labels, and what they are of
pub record MergeSays (m : Model) (s : m.State) (ts : List ToldPart) (g : Merging) : Type 0 where
  pub all : SayAll m s (map (λ t. t.portion) ts)
  pub count : CountAll m s (map (λ t. t.portion) ts) g.keys.deepest
  pub states : length (all_keys (map (λ t. t.portion) ts)) ≡ g.keys.states
  pub labels : (j k : ℕ) (t : ToldPart) (label : List ℕ) → slice_get ts j ≡ Some t
      → slice_get t.portion.labels k ≡ Some label → Contains g.labels (inner label)
  pub about : (j : ℕ) (t : ToldPart) → slice_get ts j ≡ Some t → t.about ≡ g.parts.about

-- The law of merging: where the lines of the texts of all parts, in any order, could be merged, and the merge is whole,
-- it says so of the parts
abbrev pub LinesOfPartsMerge : Model → Type 0
LinesOfPartsMerge m = HasOneKey m → (start : List ℕ) (s : m.State) (ts : List ToldPart) (lines : List (List ℕ))
    (g : Merging) → m.stands start s → AreChecked m s start ts → IsPermutation (flat_map lines_of_part ts) lines
    → merge_lines no_merging lines ≡ Ok g → is_whole g ≡ true → MergeSays m s ts g

-- parts whose numbers are below 2^32
abbrev pub AreSmallParts : List ToldPart → Type 0
AreSmallParts ts = (j : ℕ) (t : ToldPart) → slice_get ts j ≡ Some t → IsSmallPart t

-- none of these lines is the last one of a part's text
abbrev pub AreNoLast : List (List ℕ) → Type 0
AreNoLast lines = (line about : List ℕ) (numbers : PartNumbers) → Contains lines line
    → begun_entry line ≢ Some (Tells about numbers)

-- The law of lost lines: where lines of the texts of parts were lost, and others of no text came, in any order, but the
-- last line of each text is there, once, and all could be merged to a whole, as many came as were lost: none came
-- alone, and none was lost alone
abbrev pub NoneIsLost : Type 0
NoneIsLost = (ts : List ToldPart) (lines lost more : List (List ℕ)) (g : Merging) → AreSmallParts ts
    → IsPermutation (flat_map lines_of_part ts ++ more) (lines ++ lost) → AreNoLast lost → AreNoLast more
    → merge_lines no_merging lines ≡ Ok g → is_whole g ≡ true → length lost ≡ length more
