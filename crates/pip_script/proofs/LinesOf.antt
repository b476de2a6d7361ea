-- The lines of bytes, from their first line on.
use Rattle.std.proofs.Common.{◌≡◌, ℕ, ◌<◌, true, false, ◌||◌, ◌==◌, cond, List, [], ◌∷◌, ◌++◌, length, refl, ap, arith}
use Rattle.std.specs.List.{list_any, onto_first}
use Rattle.pip_model.specs.Grammar.{lines_of}
use Rattle.pip_script.specs.Lines.{HasNoNewline}

pub lines_newline : (line rest : List ℕ) → HasNoNewline line
    → lines_of ((line ++ 10 ∷ []) ++ rest) ≡ line ∷ lines_of rest
lines_newline [] rest h = refl
lines_newline (b ∷ bs) rest h =
    let more : List (List ℕ) = lines_of ((bs ++ 10 ∷ []) ++ rest) in
    elim (b == 10) as (λ t. (t || list_any (λ c. c == 10) bs) ≡ false
    → cond t ([] ∷ more) (onto_first b more) ≡ (b ∷ bs) ∷ lines_of rest) [
      | true ↦ λ h. cc
      | false ↦ λ h. ap (onto_first b) (lines_newline bs rest h)
    ] h

-- the first line begins with bytes that have no newline
pub record Begins (front : List ℕ) (lines : List (List ℕ)) : Type 0 where
  pub back : List ℕ
  pub more : List (List ℕ)
  pub is : lines ≡ (front ++ back) ∷ more

onto_begins : (b : ℕ) (front : List ℕ) (lines : List (List ℕ)) → Begins front lines
    → Begins (b ∷ front) (onto_first b lines)
onto_begins b front lines h = record { back = h.back; more = h.more; is = ap (onto_first b) h.is }

first_onto : (b : ℕ) (lines : List (List ℕ)) → Begins (b ∷ []) (onto_first b lines)
first_onto b [] = record { back = []; more = []; is = refl }
first_onto b (l ∷ lines) = record { back = l; more = lines; is = refl }

pub lines_begin : (b : ℕ) (bs rest : List ℕ) → HasNoNewline (b ∷ bs) → Begins (b ∷ bs) (lines_of ((b ∷ bs) ++ rest))
lines_begin b [] rest h =
    elim (b == 10) as (λ t. (t || false) ≡ false
    → Begins (b ∷ []) (cond t ([] ∷ lines_of rest) (onto_first b (lines_of rest)))) [
      | true ↦ λ h. absurd cc
      | false ↦ λ h. first_onto b (lines_of rest)
    ] h
lines_begin b (c ∷ bs) rest h =
    let more : List (List ℕ) = lines_of ((c ∷ bs) ++ rest) in
    elim (b == 10) as (λ t. (t || list_any (λ d. d == 10) (c ∷ bs)) ≡ false
    → Begins (b ∷ c ∷ bs) (cond t ([] ∷ more) (onto_first b more))) [
      | true ↦ λ h. absurd cc
      | false ↦ λ h. onto_begins b (c ∷ bs) more (lines_begin c bs rest h)
    ] h

lines_plain : (b : ℕ) (bs : List ℕ) → HasNoNewline (b ∷ bs) → lines_of (b ∷ bs) ≡ (b ∷ bs) ∷ []
lines_plain b [] h =
    elim (b == 10) as (λ t. (t || false) ≡ false → cond t ([] ∷ []) ((b ∷ []) ∷ []) ≡ (b ∷ []) ∷ []) [
      | true ↦ λ h. cc
      | false ↦ λ h. refl
    ] h
lines_plain b (c ∷ bs) h =
    let more : List (List ℕ) = lines_of (c ∷ bs) in
    elim (b == 10) as (λ t. (t || list_any (λ d. d == 10) (c ∷ bs)) ≡ false
    → cond t ([] ∷ more) (onto_first b more) ≡ (b ∷ c ∷ bs) ∷ []) [
      | true ↦ λ h. cc
      | false ↦ λ h. ap (onto_first b) (lines_plain c bs h)
    ] h

pub lines_last : (line : List ℕ) → HasNoNewline line → 0 < length line → lines_of line ≡ line ∷ []
lines_last [] h some = absurd (omega arith)
lines_last (b ∷ bs) h some = lines_plain b bs h

-- bytes without a newline begin a line
pub begins : (bytes rest : List ℕ) → HasNoNewline bytes → 0 < length bytes → Begins bytes (lines_of (bytes ++ rest))
begins [] rest plain some = absurd (omega arith)
begins (b ∷ bytes) rest plain some = lines_begin b bytes rest plain
