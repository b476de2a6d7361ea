-- What is due of `merge`, which reads the lines of all parts of a certificate, sorted.
use Rattle.std.specs.Prelude.{◌≡◌, ℕ, ◌+◌, ◌-◌, ◌^◌, ◌≤◌, ◌⊎◌, nat_le, false, not, if◌then◌else◌, List, [], ◌∷◌}
use Rattle.std.specs.Prelude.{◌++◌, length}
use Rattle.std.specs.Prelude.{None, Result, Ok, Err, codes, decimal, flat_map}
use Rattle.pip_audit.specs.CoreRead.{AreWholeLines}
use Rattle.pip_command_contracts.specs.EndsBy.{Due, Response, plainly}
use Rattle.pip_script.specs.Lines.{HasNoNewline}
use Rattle.pip_model.specs.Grammar.{lines_of}
use Rattle.pip_model.specs.Text.{line_text}
use Rattle.pip_certificates.specs.Entries.{entry_of}
use Rattle.pip_certificates.specs.Merges.{Merging, is_whole, merge_entry, merge_lines, no_merging}
use Rattle.pip_certificates.specs.Merges.{uneven_of}
use Rattle.pip_certificates.specs.declared.parts.faults.MergeFault.{MergeFault}
use Rattle.pip_certificates.specs.declared.parts.faults.MergeFault.TheVariants as F
use Rattle.pip_certificates.specs.declared.parts.faults.Uneven.{Uneven}
use Rattle.pip_certificates.specs.declared.parts.faults.Uneven.TheVariants as U
use Rattle.pip_search.specs.declared.searching.Extent.TheVariants.{Closed}
use Rattle.pip_every.specs.Texts.{verdict_line}

-- ---- lines

-- the most lines that are merged
abbrev pub most_lines : ℕ
most_lines = 2 ^ 32 - 1

-- all these lines can be merged, one after another, to this
pub record MergesTo (lines : List (List ℕ)) (g : Merging) : Type 0 where
  pub merged : merge_lines no_merging lines ≡ Ok g
  pub few : length lines ≤ most_lines

-- what comes of line n after what was merged; one line too many isn't looked at
abbrev pub merge_numbered : ℕ → Merging → List ℕ → Result Merging MergeFault
merge_numbered n m line = if nat_le n most_lines then merge_entry m (entry_of line) else Err F.Many

-- line n is the first of these that can't be merged: so it reads, and this is wrong with it
pub record BreaksAt (lines : List (List ℕ)) (n : ℕ) (line : List ℕ) (fault : MergeFault) : Type 0 where
  pub before : List (List ℕ)
  pub after : List (List ℕ)
  pub all : lines ≡ before ++ line ∷ after
  pub merging : Merging
  pub good : MergesTo before merging
  pub number : n ≡ length before + 1
  pub bad : merge_numbered n merging line ≡ Err fault

-- ---- texts

-- the line that names a bad one by its number, with a word for what is wrong
abbrev pub bad_numbered : ℕ → List ℕ → List ℕ
bad_numbered n kind = line_text (codes "bad line " ++ decimal n ++ codes " " ++ kind)

-- what is written where line n can't be merged: its number, or the line itself where that is about a key
abbrev pub fault_text : ℕ → List ℕ → MergeFault → List ℕ
fault_text n line F.Form = bad_numbered n (codes "form")
fault_text n line F.Order = bad_numbered n (codes "order")
fault_text n line F.Many = bad_numbered n (codes "many")
fault_text n line F.Open = line_text (codes "open " ++ line)
fault_text n line F.Twice = line_text (codes "twice " ++ line)
fault_text n line F.Apart = line_text (codes "apart " ++ decimal n)

-- and the status: what was read are no such lines, or parts that don't fit together
abbrev pub fault_status : MergeFault → ℕ
fault_status F.Form = 2
fault_status F.Order = 2
fault_status F.Many = 2
fault_status F.Open = 9
fault_status F.Twice = 9
fault_status F.Apart = 9

-- the line of a label: a line of a trace without its step
abbrev pub label_line : List ℕ → List ℕ
label_line label = line_text (codes "line" ++ label)

-- the first line: what all parts are of
abbrev pub about_line : List ℕ → List ℕ
about_line about = line_text (codes "image " ++ about)

-- and what they show, each label once
abbrev pub merged_front : Merging → List ℕ
merged_front g = about_line g.parts.about ++ flat_map label_line g.labels

-- and how many keys they have, up to which depth
abbrev pub merged_text : Merging → List ℕ
merged_text g = merged_front g ++ verdict_line g.keys.states (Closed g.keys.deepest)

-- what is missing or too much: keys, those that parts ask, or labels
abbrev pub uneven_text : Uneven → List ℕ
uneven_text U.Keys = codes "apart keys"
uneven_text U.Asks = codes "apart asks"
uneven_text U.Labels = codes "apart labels"

-- where all lines could be merged: no part has the first key; or all is there; or something is missing or too much
abbrev pub merge_response : Merging → Response
merge_response g =
    if not g.parts.begins then plainly 9 (line_text (codes "no start")) None
    else if is_whole g then plainly 0 (merged_text g) None
    else plainly 9 (line_text (uneven_text (uneven_of g))) None

-- ---- what is due

-- all these lines can be merged, or one is the first that can't be
abbrev pub IsMergeAnswer : List (List ℕ) → Response → Type 0
IsMergeAnswer lines v = ((g : Merging) × MergesTo lines g × (v ≡ merge_response g))
    ⊎ ((n : ℕ) × ((line : List ℕ) × ((fault : MergeFault) × BreaksAt lines n line fault
    × (v ≡ plainly (fault_status fault) (fault_text n line fault) None))))

-- these bytes have a line that can't be merged, whatever follows them
pub record HasBreak (bytes : List ℕ) : Type 0 where
  pub number : ℕ
  pub line : List ℕ
  pub fault : MergeFault
  pub fixed : (rest : List ℕ) → BreaksAt (lines_of (bytes ++ rest)) number line fault

-- these bytes are whole lines that can be merged, and a rest that is no line yet
pub record BeginsMerge (bytes : List ℕ) : Type 0 where
  pub lines : List ℕ
  pub rest : List ℕ
  pub all : bytes ≡ lines ++ rest
  pub whole : AreWholeLines lines
  pub plain : HasNoNewline rest
  pub merging : Merging
  pub good : MergesTo (lines_of lines) merging

-- `merge` stops at the first line that can't be merged, writes nothing before, and takes memory all along
abbrev pub merge_due : Due
merge_due = record {
  answer = λ input v. IsMergeAnswer (lines_of input) v;
  enough = HasBreak;
  so_far = λ bytes text. BeginsMerge bytes × (text ≡ []);
  midway = λ bytes front last. ⊥;
  asks = λ bytes left. Unit {0};
  limit = None;
  unread = λ status. false;
}
