-- A part has one text: one that says a word with which the frames boot anyway, or that has more marks or fewer than the
-- check makes choices, is none.
use Rattle.std.specs.Prelude.{ℕ, ◌+◌, ◌*◌, ◌==◌, Bool, if◌then◌else◌, List, [], ◌∷◌, length, Option, Some, None}
use Rattle.pip_base.specs.Memory.{Memory, word_at}
use Rattle.pip_search.specs.Certificates.{Portion}
use Rattle.pip_certificates.specs.PartText.{PartSaid}
use Rattle.pip_certificates.specs.declared.faults.PartFault.{PartFault}
use Rattle.pip_certificates.specs.declared.faults.PartKind.TheVariants as K
use Rattle.pip_certificates.specs.declared.reading.BaseWord.{BaseWord}

-- the place of the first word with which the frames have booted, from place k on, if there is one
abbrev pub booted_from : Memory → ℕ → List BaseWord → Option ℕ
booted_from m k [] = None
booted_from m k (b ∷ bs) = if word_at m b.frame b.index == b.word then Some k else booted_from m (k + 1) bs

-- how many runs a way has
abbrev pub runs_in : List ℕ → ℕ
runs_in [] = 0
runs_in (c ∷ []) = 1
runs_in (c ∷ d ∷ cs) = (if c == d then 0 else 1) + runs_in (d ∷ cs)

-- the fault of word k of a base, where a part begins at an offset
abbrev pub booted_fault : ℕ → ℕ → PartFault
booted_fault at k = record { kind = K.Base; at = at + 4 + 12 * k }

-- the fault of the number of marks
abbrev pub marks_fault : ℕ → PartSaid → PartFault
marks_fault at p = record { kind = K.Marks; at = at + 8 + 12 * length p.base + 8 * runs_in p.way }

-- there is a mark for each choice at each key
abbrev pub has_marks : ℕ → PartSaid → Portion → Bool
has_marks choices p q = length p.marks == length q.keys * choices
