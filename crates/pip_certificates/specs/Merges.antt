-- What a merge makes of the lines of all parts.
use Rattle.std.specs.Prelude.{ℕ, ◌+◌, ◌^◌, Bool, ◌==◌, ◌&&◌, ◌||◌, nat_le, nat_lt, not, max, if◌then◌else◌, false}
use Rattle.std.specs.Prelude.{List, [], ◌∷◌, ◌++◌, Option, Some, None, Result, Ok, Err}
use Rattle.std.specs.Cmp.Lexicographic.{slice_cmp}
use Rattle.std.specs.Ordering.{nat_cmp}
use Rattle.std.specs.Str.{bytes_eq}
use Rattle.std.specs.declared.cmp.Ordering.{Ordering}
use Rattle.std.specs.declared.cmp.Ordering.TheVariants.{Less, Equal, Greater}
use Rattle.pip_certificates.specs.Entries.{Asks, Entry, Own, Shows, Tells, entry_of, number_list}
use Rattle.pip_certificates.specs.Sums.{label_sum, sum_and}
use Rattle.pip_certificates.specs.declared.parts.lines.PartNumbers.{PartNumbers}
use Rattle.pip_certificates.specs.declared.parts.faults.MergeFault.{MergeFault}
use Rattle.pip_certificates.specs.declared.parts.faults.MergeFault.TheVariants as F
use Rattle.pip_certificates.specs.declared.parts.faults.Uneven.{Uneven}
use Rattle.pip_certificates.specs.declared.parts.faults.Uneven.TheVariants as U

-- the keys so far: the last one that a part has, with its depth, how many there are, the greatest depth, how many were
-- asked, and the depth of the last line that asks the last key, 0 if none does
pub record MergedKeys : Type 0 where
  pub key : List ℕ
  pub depth : ℕ
  pub states : ℕ
  pub deepest : ℕ
  pub asked : ℕ
  pub latest : ℕ

-- how many lines of labels came so far, of which some may be equal, and their sum
pub record MergedShown : Type 0 where
  pub count : ℕ
  pub sum : ℕ

-- the parts so far: what they are of, how many there are, whether one begins with the first key, the numbers of the
-- last one, how many keys they say that they have and ask, how many labels, and the sum of these
pub record MergedParts : Type 0 where
  pub about : List ℕ
  pub count : ℕ
  pub begins : Bool
  pub latest : List ℕ
  pub keys : ℕ
  pub asked : ℕ
  pub labels : ℕ
  pub sum : ℕ

-- what was merged so far; the labels rise
pub record Merging : Type 0 where
  pub keys : MergedKeys
  pub labels : List (List ℕ)
  pub shown : MergedShown
  pub parts : MergedParts

-- what comes after a value, if there is one
abbrev pub on_value : {A B : Type 0} → Result A MergeFault → (A → Result B MergeFault) → Result B MergeFault
on_value (Ok x) f = f x
on_value (Err e) f = Err e

-- a count and some more, below 2^64
abbrev pub counted : ℕ → ℕ → Result ℕ MergeFault
counted n k = if nat_lt (n + k) (2 ^ 64) then Ok (n + k) else Err F.Many

-- a key comes after another, and no key comes twice
abbrev pub key_after : Ordering → Result (Unit {0}) MergeFault
key_after Less = Ok tt
key_after Equal = Err F.Twice
key_after Greater = Err F.Order

-- a key of a part comes after the last one, if there is one
abbrev pub own_after : MergedKeys → List ℕ → Result (Unit {0}) MergeFault
own_after m key = if m.states == 0 then Ok tt else key_after (slice_cmp nat_cmp m.key key)

-- a key of a part
abbrev pub with_own : MergedKeys → List ℕ → ℕ → Result MergedKeys MergeFault
with_own m key depth = on_value (own_after m key) (λ _. on_value (counted m.states 1) (λ n. Ok (record {
  key = key;
  depth = depth;
  states = n;
  deepest = max m.deepest depth;
  asked = m.asked;
  latest = 0;
})))

-- the last key that a part has is asked to this depth: it is no deeper, and no line before asks it deeper
abbrev pub asked_to : MergedKeys → ℕ → Result (Unit {0}) MergeFault
asked_to m depth =
    if nat_lt depth m.latest then Err F.Order else if nat_le m.depth depth then Ok tt else Err F.Open

-- the key that is asked is the last one that a part has; one before that was asked too late, and one after it is
-- missing
abbrev pub asked_by : Ordering → MergedKeys → ℕ → Result (Unit {0}) MergeFault
asked_by Less m depth = Err F.Open
asked_by Equal m depth = asked_to m depth
asked_by Greater m depth = Err F.Order

-- a key that is asked comes after one that a part has
abbrev pub asked_after : MergedKeys → List ℕ → ℕ → Result (Unit {0}) MergeFault
asked_after m key depth = if m.states == 0 then Err F.Open else asked_by (slice_cmp nat_cmp m.key key) m depth

-- a key that is asked
abbrev pub with_asked : MergedKeys → List ℕ → ℕ → Result MergedKeys MergeFault
with_asked m key depth = on_value (asked_after m key depth) (λ _.
    on_value (counted m.asked 1) (λ n. Ok (record m { asked = n; latest = depth })))

-- labels that rise, and one more where it comes after the last; the last may come again
abbrev pub with_label_by : Ordering → List (List ℕ) → List ℕ → Result (List (List ℕ)) MergeFault
with_label_by Less labels text = Ok (labels ++ text ∷ [])
with_label_by Equal labels text = Ok labels
with_label_by Greater labels text = Err F.Order

-- the order of a label and the last of those before it; the first comes after none
abbrev pub label_order : List (List ℕ) → List ℕ → Ordering
label_order [] text = Less
label_order (x ∷ []) text = slice_cmp nat_cmp x text
label_order (x ∷ y ∷ ls) text = label_order (y ∷ ls) text

-- a label
abbrev pub with_label : List (List ℕ) → List ℕ → Result (List (List ℕ)) MergeFault
with_label labels text = with_label_by (label_order labels text) labels text

-- a line more of a label
abbrev pub with_shown : MergedShown → List ℕ → Result MergedShown MergeFault
with_shown s text =
    on_value (counted s.count 1) (λ n. Ok (record { count = n; sum = sum_and s.sum (label_sum text) }))

-- a part is of what the first one is of
abbrev pub is_alike : MergedParts → List ℕ → Bool
is_alike m about = m.count == 0 || bytes_eq m.about about

-- its numbers don't come before those of the last one
abbrev pub numbers_after : Ordering → Result (Unit {0}) MergeFault
numbers_after Less = Ok tt
numbers_after Equal = Ok tt
numbers_after Greater = Err F.Order

-- if there is one
abbrev pub part_after : MergedParts → PartNumbers → Result (Unit {0}) MergeFault
part_after m n = if m.count == 0 then Ok tt else numbers_after (slice_cmp nat_cmp m.latest (number_list n))

-- one part more, of what it says that all are of
abbrev pub with_numbers : MergedParts → List ℕ → PartNumbers → Result MergedParts MergeFault
with_numbers m about n = on_value (counted m.count 1) (λ c.
    on_value (counted m.keys n.keys) (λ k. on_value (counted m.asked n.asked) (λ a.
    on_value (counted m.labels n.labels) (λ l. Ok (record {
      about = about;
      count = c;
      begins = m.begins || n.way == 0;
      latest = number_list n;
      keys = k;
      asked = a;
      labels = l;
      sum = sum_and m.sum n.sum;
    })))))

-- what a part says of itself
abbrev pub with_told_part : MergedParts → List ℕ → PartNumbers → Result MergedParts MergeFault
with_told_part m about n =
    if is_alike m about then on_value (part_after m n) (λ _. with_numbers m about n) else Err F.Apart

-- no label and no part came so far, after which no key comes
abbrev pub is_at_keys : Merging → Bool
is_at_keys m = m.shown.count == 0 && m.parts.count == 0

-- what a line makes of it, if that isn't over
abbrev pub in_time : {A : Type 0} → Bool → Result A MergeFault → Result A MergeFault
in_time b r = if b then r else Err F.Order

-- one line, by what it says: first all keys come, then all labels, then all parts
abbrev pub merge_entry : Merging → Option Entry → Result Merging MergeFault
merge_entry m None = Err F.Form
merge_entry m (Some (Own key depth)) =
    in_time (is_at_keys m) (on_value (with_own m.keys key depth) (λ ks. Ok (record m { keys = ks })))
merge_entry m (Some (Asks key depth)) =
    in_time (is_at_keys m) (on_value (with_asked m.keys key depth) (λ ks. Ok (record m { keys = ks })))
merge_entry m (Some (Shows text)) = in_time (m.parts.count == 0) (on_value (with_label m.labels text) (λ ls.
    on_value (with_shown m.shown text) (λ s. Ok (record m { labels = ls; shown = s }))))
merge_entry m (Some (Tells about n)) =
    on_value (with_told_part m.parts about n) (λ ps. Ok (record m { parts = ps }))

-- nothing was merged
abbrev pub no_merging : Merging
no_merging = record {
  keys = record { key = []; depth = 0; states = 0; deepest = 0; asked = 0; latest = 0 };
  labels = [];
  shown = record { count = 0; sum = 0 };
  parts = record {
    about = [];
    count = 0;
    begins = false;
    latest = 0 ∷ 0 ∷ 0 ∷ 0 ∷ 0 ∷ [];
    keys = 0;
    asked = 0;
    labels = 0;
    sum = 0;
  };
}

-- one line after another
abbrev pub merge_lines : Merging → List (List ℕ) → Result Merging MergeFault
merge_lines m [] = Ok m
merge_lines m (line ∷ lines) = on_value (merge_entry m (entry_of line)) (λ n. merge_lines n lines)

-- there are as many lines of labels as the parts say, and these are their labels
abbrev pub has_labels : Merging → Bool
has_labels m = m.shown.count == m.parts.labels && m.shown.sum == m.parts.sum

-- there are as many keys, as many asked, and as many labels as the parts say, and one part begins with the first key
abbrev pub is_whole : Merging → Bool
is_whole m =
    m.parts.begins && m.keys.states == m.parts.keys && m.keys.asked == m.parts.asked && has_labels m

-- where not all is there, or something is too much: the first of these
abbrev pub uneven_of : Merging → Uneven
uneven_of m =
    if not (m.keys.states == m.parts.keys) then U.Keys
    else if not (m.keys.asked == m.parts.asked) then U.Asks else U.Labels
