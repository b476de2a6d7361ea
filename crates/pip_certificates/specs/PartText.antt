-- The text of a part of a certificate, which comes after an image: the words that keys are compared with, the way to
-- its first key, and its marks.
use Rattle.std.specs.Prelude.{ℕ, zero, suc, ◌+◌, ◌*◌, ◌-◌, ◌/◌, ◌%◌, ◌^◌, ◌==◌, ◌&&◌, ◌||◌, not, min, nat_lt, nat_le}
use Rattle.std.specs.Prelude.{Bool, true, if◌then◌else◌, List, [], ◌∷◌, ◌++◌, length, take, drop, replicate}
use Rattle.std.specs.Prelude.{Option, Some, None, Result, Ok, Err, codes, decimal}
use Rattle.pip_model.specs.Images.{word_of_bytes}
use Rattle.pip_model.specs.Text.{line_text}
use Rattle.pip_certificates.specs.declared.faults.PartFault.{PartFault}
use Rattle.pip_certificates.specs.declared.faults.PartKind.{PartKind}
use Rattle.pip_certificates.specs.declared.faults.PartKind.TheVariants as K
use Rattle.pip_certificates.specs.declared.reading.BaseWord.{BaseWord}
use Rattle.pip_certificates.specs.declared.reading.Limits.{Limits}

-- what a part says: words to compare keys with in place of the booted ones, the choices of its way, and for each choice
-- that its check makes whether the next key is one of its own
pub record PartSaid : Type 0 where
  pub base : List BaseWord
  pub way : List ℕ
  pub marks : List ℕ

-- nothing so far
abbrev pub no_part : PartSaid
no_part = record { base = []; way = []; marks = [] }

-- a fault of this kind at an offset
abbrev pub fault_at : PartKind → ℕ → Result PartSaid PartFault
fault_at kind at = Err (record { kind = kind; at = at })

-- the first n bytes of those from an offset on, and what comes of the others after them; fewer are short
abbrev pub front_then : ℕ → ℕ → List ℕ → (List ℕ → List ℕ → Result PartSaid PartFault) → Result PartSaid PartFault
front_then n at bs next =
    if nat_lt (length bs) n then fault_at K.Short (at + length bs) else next (take n bs) (drop n bs)

-- number k of these bytes, four for each, the lowest first
abbrev pub number_in : List ℕ → ℕ → ℕ
number_in bytes k = word_of_bytes (drop (4 * k) bytes)

-- ---- the marks: their number M, and M bits, eight to a byte, the lowest first

-- the n lowest bits of a byte, the lowest first
abbrev pub low_bits : ℕ → ℕ → List ℕ
low_bits zero b = []
low_bits (suc n) b = b % 2 ∷ low_bits n (b / 2)

-- what is left of a byte after n bits
abbrev pub after_bits : ℕ → ℕ → ℕ
after_bits zero b = b
after_bits (suc n) b = after_bits n (b / 2)

-- the bits of a byte that are left after the last n marks are 0
abbrev pub are_spent : ℕ → ℕ → Bool
are_spent n b = nat_le 8 n || after_bits n b == 0

-- a part with the marks of one byte more, of those n that are left
abbrev pub with_marks : PartSaid → ℕ → ℕ → PartSaid
with_marks p n b = record p { marks = p.marks ++ low_bits (min n 8) b }

-- n marks, and then the end
abbrev pub marks_from : PartSaid → ℕ → ℕ → List ℕ → Result PartSaid PartFault
marks_from p zero at [] = Ok p
marks_from p zero at (b ∷ bs) = fault_at K.Long at
marks_from p (suc n) at [] = fault_at K.Short at
marks_from p (suc n) at (b ∷ bs) =
    if are_spent (suc n) b then marks_from (with_marks p (suc n) b) (suc n - 8) (at + 1) bs else fault_at K.Marks at

-- fewer than 2^32 - 1 marks, after their number
abbrev pub marks_counted : PartSaid → ℕ → ℕ → List ℕ → Result PartSaid PartFault
marks_counted p n at bs = if nat_lt n (2 ^ 32 - 1) then marks_from p n (at + 4) bs else fault_at K.Marks at

-- the marks, from an offset on
abbrev pub marks_said : PartSaid → ℕ → List ℕ → Result PartSaid PartFault
marks_said p at bs = front_then 4 at bs (λ n rest. marks_counted p (number_in n 0) at rest)

-- ---- the way: the number W of its runs, and W times CHOICE COUNT

-- a choice is another than the last one, if there was one
abbrev pub is_another : Option ℕ → ℕ → Bool
is_another None choice = true
is_another (Some last) choice = not (last == choice)

-- a run fits after n choices if its choice can be made and is another than the last one, it is not empty, and the way
-- has at most 10,000,000 choices with it
abbrev pub fits_way : Limits → ℕ → Option ℕ → ℕ → ℕ → Bool
fits_way l n last choice count =
    nat_lt choice l.choices && is_another last choice && nat_lt 0 count && nat_le (n + count) 10000000

-- a part with a run more
abbrev pub with_run : PartSaid → ℕ → ℕ → PartSaid
with_run p choice count = record p { way = p.way ++ replicate count choice }

-- n runs, and then the marks
abbrev pub runs_from : Limits → PartSaid → Option ℕ → ℕ → ℕ → List ℕ → Result PartSaid PartFault
runs_from l p last zero at bs = marks_said p at bs
runs_from l p last (suc n) at bs = front_then 8 at bs (λ x rest.
    if fits_way l (length p.way) last (number_in x 0) (number_in x 1)
    then runs_from l (with_run p (number_in x 0) (number_in x 1)) (Some (number_in x 0)) n (at + 8) rest
    else fault_at K.Way at)

-- the way, from an offset on
abbrev pub runs_said : Limits → PartSaid → ℕ → List ℕ → Result PartSaid PartFault
runs_said l p at bs = front_then 4 at bs (λ n rest. runs_from l p None (number_in n 0) (at + 4) rest)

-- ---- the base: the number B of its words, and B times FRAME INDEX WORD

-- the words of frames by their order: that of one frame after another
abbrev pub word_place : ℕ → ℕ → ℕ
word_place frame index = 1024 * frame + index

-- there is such a word, and its place is `least` or more
abbrev pub is_base : Limits → ℕ → ℕ → ℕ → Bool
is_base l least frame index = nat_lt frame l.frames && nat_lt index 1024 && nat_le least (word_place frame index)

-- a part with a word more
abbrev pub with_base : PartSaid → ℕ → ℕ → ℕ → PartSaid
with_base p frame index word = record p {
  base = p.base ++ record { frame = frame; index = index; word = word } ∷ [];
}

-- n words, whose places rise from `least` on, and then the way
abbrev pub base_from : Limits → PartSaid → ℕ → ℕ → ℕ → List ℕ → Result PartSaid PartFault
base_from l p least zero at bs = runs_said l p at bs
base_from l p least (suc n) at bs = front_then 12 at bs (λ x rest.
    if is_base l least (number_in x 0) (number_in x 1)
    then base_from l (with_base p (number_in x 0) (number_in x 1) (number_in x 2))
    (word_place (number_in x 0) (number_in x 1) + 1) n (at + 12) rest
    else fault_at K.Base at)

-- the base, from an offset on
abbrev pub base_said : Limits → PartSaid → ℕ → List ℕ → Result PartSaid PartFault
base_said l p at bs = front_then 4 at bs (λ n rest. base_from l p 0 (number_in n 0) (at + 4) rest)

-- ---- a part

-- the part that bytes from an offset on are, or the first fault
abbrev pub part_said : Limits → ℕ → List ℕ → Result PartSaid PartFault
part_said l at bs = base_said l no_part at bs

-- the word for what is wrong
abbrev pub part_kind : PartKind → List ℕ
part_kind K.Short = codes "short"
part_kind K.Base = codes "base"
part_kind K.Way = codes "way"
part_kind K.Marks = codes "marks"
part_kind K.Long = codes "long"

-- the line that names a fault, by its kind and its offset in the input
abbrev pub bad_part_line : PartFault → List ℕ
bad_part_line fault = line_text (codes "bad part " ++ part_kind fault.kind ++ codes " " ++ decimal fault.at)
