-- The lines of bytes, parted by newlines.
use Rattle.std.proofs.Common.{◌≡◌, ℕ, suc, ◌+◌, ◌<◌, true, false, ◌||◌, ◌==◌, cond, List, [], ◌∷◌, ◌++◌, length, take}
use Rattle.std.proofs.Common.{drop, refl, sym, ap, ◌∙◌, append_assoc, arith}
use Rattle.std.specs.List.{list_any, onto_first, slice_split}
use Rattle.std.proofs.Math.Seq.{drop-cons}
use Rattle.std.proofs.lemmas.List.{take-append-drop}
use Rattle.std.proofs.lemmas.List.Splits.{length-slice_split}
use Rattle.pip_script.specs.Lines.{BeginsLine, HasNoNewline}
use Rattle.pip_audit.specs.Core.{is_nothing}

abbrev pub split : List ℕ → List (List ℕ)
split bytes = slice_split (λ b. b == 10) bytes

-- there is a part at least
pub has_part : (bytes : List ℕ) → 0 < length (split bytes)
has_part bytes = let l = length-slice_split (λ b. b == 10) bytes in omega (arith, l)

-- a line, its newline, and what follows it
pub split_line : (line rest : List ℕ) → HasNoNewline line → split (line ++ 10 ∷ rest) ≡ line ∷ split rest
split_line [] rest h = refl
split_line (b ∷ bs) rest h =
    let more : List (List ℕ) = split (bs ++ 10 ∷ rest) in
    elim (b == 10) as (λ t. (t || list_any (λ c. c == 10) bs) ≡ false
    → cond t ([] ∷ more) (onto_first b more) ≡ (b ∷ bs) ∷ split rest) [
      | true ↦ λ h. cc
      | false ↦ λ h. ap (onto_first b) (split_line bs rest h)
    ] h

-- bytes with no newline are one part
pub split_plain : (bytes : List ℕ) → HasNoNewline bytes → split bytes ≡ bytes ∷ []
split_plain [] h = refl
split_plain (b ∷ bs) h =
    let more : List (List ℕ) = split bs in
    elim (b == 10) as (λ t. (t || list_any (λ c. c == 10) bs) ≡ false
    → cond t ([] ∷ more) (onto_first b more) ≡ (b ∷ bs) ∷ []) [
      | true ↦ λ h. cc
      | false ↦ λ h. ap (onto_first b) (split_plain bs h)
    ] h

-- the first part begins with some bytes
pub record Begins (front : List ℕ) (parts : List (List ℕ)) : Type 0 where
  pub back : List ℕ
  pub more : List (List ℕ)
  pub is : parts ≡ (front ++ back) ∷ more

first_of : (parts : List (List ℕ)) → 0 < length parts → Begins [] parts
first_of [] h = absurd (omega (arith, h))
first_of (p ∷ ps) h = record { back = p; more = ps; is = refl }

onto_begins : (b : ℕ) (front : List ℕ) (parts : List (List ℕ)) → Begins front parts
    → Begins (b ∷ front) (onto_first b parts)
onto_begins b front parts h = record { back = h.back; more = h.more; is = ap (onto_first b) h.is }

pub split_begins : (front rest : List ℕ) → HasNoNewline front → Begins front (split (front ++ rest))
split_begins [] rest h = first_of (split rest) (has_part rest)
split_begins (b ∷ bs) rest h =
    let more : List (List ℕ) = split (bs ++ rest) in
    elim (b == 10) as (λ t. (t || list_any (λ c. c == 10) bs) ≡ false
    → Begins (b ∷ bs) (cond t ([] ∷ more) (onto_first b more))) [
      | true ↦ λ h. absurd cc
      | false ↦ λ h. onto_begins b bs more (split_begins bs rest h)
    ] h

-- bytes are something
two_parts : (parts : List (List ℕ)) → 0 < length parts → is_nothing ([] ∷ parts) ≡ false
two_parts [] h = absurd (omega (arith, h))
two_parts (p ∷ ps) h = refl

onto_some : (b : ℕ) (parts : List (List ℕ)) → is_nothing (onto_first b parts) ≡ false
onto_some b [] = refl
onto_some b (p ∷ ps) = refl

pub some_parts : (bytes rest : List ℕ) → 0 < length bytes → is_nothing (split (bytes ++ rest)) ≡ false
some_parts [] rest h = absurd (omega (arith, h))
some_parts (b ∷ bs) rest h =
    let more : List (List ℕ) = split (bs ++ rest) in
    elim (b == 10) as (λ t. is_nothing (cond t ([] ∷ more) (onto_first b more)) ≡ false) [
      | true ↦ two_parts more (has_part (bs ++ rest))
      | false ↦ onto_some b more
    ]

-- bytes at whose head a line of n bytes stands
pub line_and_rest : (n : ℕ) (bytes : List ℕ) → BeginsLine n bytes
    → bytes ≡ (take n bytes ++ 10 ∷ []) ++ drop (n + 1) bytes
line_and_rest n bytes h =
    let e : suc n ≡ n + 1 = omega arith in
    sym (take-append-drop n bytes)
    ∙ ap (λ r. take n bytes ++ r) (drop-cons bytes n 0 h.inside ∙ ap (λ x. x ∷ drop (suc n) bytes) h.newline
    ∙ ap (λ k. 10 ∷ drop k bytes) e)
    ∙ sym (append_assoc (take n bytes) (10 ∷ []) (drop (n + 1) bytes))
