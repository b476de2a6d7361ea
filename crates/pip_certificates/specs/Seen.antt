-- What the program's lines and merges are in the model.
use Rattle.std.specs.Prelude.{◌≡◌, ℕ, List, map, Result, Ok, Err}
use Rattle.std.specs.declared.alloc.Global.{Global}
use Rattle.std.specs.declared.vec.Vec.{Vec}
use Rattle.pip_certificates.specs.Entries.{Asks, Entry, Own, Shows, Tells, number_list}
use Rattle.pip_certificates.specs.Merges.{MergedKeys, MergedParts, MergedShown, Merging}
use Rattle.pip_certificates.specs.declared.parts.faults.MergeError.{MergeError}
use Rattle.pip_certificates.specs.declared.parts.faults.MergeError.TheVariants as E
use Rattle.pip_certificates.specs.declared.parts.faults.MergeFault.{MergeFault}
use Rattle.pip_certificates.specs.declared.parts.lines.PartLine.{PartLine}
use Rattle.pip_certificates.specs.declared.parts.lines.PartLine.TheVariants as L
use Rattle.pip_certificates.specs.declared.parts.merging.KeyRun.{KeyRun}
use Rattle.pip_certificates.specs.declared.parts.merging.Merger.{Merger}
use Rattle.pip_certificates.specs.declared.parts.merging.LabelRun.{LabelRun}
use Rattle.pip_certificates.specs.declared.parts.merging.PartRun.{PartRun}

-- a line that was read
abbrev pub entry_seen : PartLine → Entry
entry_seen (L.Own key depth) = Own key.now depth
entry_seen (L.Asks key depth) = Asks key.now depth
entry_seen (L.Shows text) = Shows text.now
entry_seen (L.Tells about numbers) = Tells about.now numbers

-- the keys so far
abbrev pub merged_keys_of : KeyRun → MergedKeys
merged_keys_of k = record {
  key = k.key.items;
  depth = k.depth;
  states = k.states;
  deepest = k.deepest;
  asked = k.asked;
  latest = k.latest;
}

-- the parts so far
abbrev pub merged_parts_of : PartRun → MergedParts
merged_parts_of p = record {
  about = p.about.items;
  count = p.count;
  begins = p.begins;
  latest = number_list p.latest;
  keys = p.keys;
  asked = p.asked;
  labels = p.labels;
  sum = p.sum;
}

-- how many labels came so far
abbrev pub merged_shown_of : LabelRun → MergedShown
merged_shown_of s = record { count = s.count; sum = s.sum }

-- the labels so far
abbrev pub label_texts : List (Vec ℕ Global) → List (List ℕ)
label_texts labels = map (λ v. v.items) labels

-- all of it
abbrev pub merging_of : Merger → Merging
merging_of m = record {
  keys = merged_keys_of m.keys;
  labels = label_texts m.labels.items;
  shown = merged_shown_of m.shown;
  parts = merged_parts_of m.parts;
}

-- what was answered is what the model has, unless memory ran out; if it is no fault, this was made
abbrev pub GivesMerge : {A : Type 0} → Result (Unit {0}) MergeError → A → Result A MergeFault → Type 0
GivesMerge (Ok u) x r = r ≡ Ok x
GivesMerge (Err E.Memory) x r = Unit {0}
GivesMerge (Err (E.Fault f)) x r = r ≡ Err f
