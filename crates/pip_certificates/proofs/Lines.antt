-- The lines of a part, put together from pieces.
use Rattle.std.proofs.Common.{◌≡◌, ℕ, ◌≤◌, List, [], ◌∷◌, ◌++◌, map, length, take, sym, ◌∙◌, arith}
use Rattle.std.proofs.Common.{append_assoc, append-nil, ap₂, refl, Result}
use Rattle.std.proofs.lemmas.Grind.{flat_map-append}
use Rattle.std.proofs.lemmas.List.{length-map, take_all}
use Rattle.std.specs.Prelude.{codes, flat_map}
use Rattle.pip_audit.specs.CoreTexts.{core_words}
use Rattle.pip_io.specs.Histories.{Writing}
use Rattle.pip_io.specs.Writes.{Writes}
use Rattle.pip_model.specs.Text.{line_text}
use Rattle.pip_certificates.specs.Entries.{Asks, Own, Shows, Tells, byte_digits, entry_line, key_digits}
use Rattle.pip_certificates.specs.Entries.{number_list}
use Rattle.pip_certificates.specs.MergeLaw.{told_numbers}
use Rattle.pip_certificates.specs.declared.parts.lines.PartNumbers.{PartNumbers}
use Rattle.pip_search.specs.Certificates.{Stop}
use Rattle.pip_search.specs.Parts.{stop_of, stops}
use Rattle.pip_search.specs.declared.stops.Reached.{Reached}
use Rattle.pip_every.specs.Texts.{inner}
use Rattle.pip_certificates.specs.PartDues.{lines_text}
use Rattle.pip_certificates.specs.PartShown.{CountsStops, stop_line, told_part}
use Rattle.pip_certificates.specs.declared.checking.Checked.{Checked}
use Rattle.pip_search.specs.Keys.{labels}

-- the line of a label
abbrev pub label_line : List ℕ → List ℕ
label_line label = line_text (entry_line (Shows (inner label)))

-- three pieces and a newline
pub three_pieces : (a b c : List ℕ) → a ++ (b ++ (c ++ 10 ∷ [])) ≡ ((a ++ b) ++ c) ++ 10 ∷ []
three_pieces a b c = simp append_assoc

module _ {K T E : Type 0} (told : K → Writing) (old new : K) (r : Result T E) where
  -- the last line
  pub told_line : (about : List ℕ) (n : PartNumbers)
      → Writes told old new r (codes "part " ++ (about ++ (core_words (number_list n) ++ 10 ∷ [])))
      → Writes told old new r (line_text (entry_line (Tells about n)))
  told_line about n w =
      rw (← three_pieces (codes "part ") about (core_words (number_list n))) w

-- the line of a key, by its bytes
pub stop_bytes : (kind : List ℕ) (x : Reached)
    → flat_map byte_digits x.key.items ++ (kind ++ (core_words (x.depth ∷ []) ++ 10 ∷ [])) ≡ stop_line kind (stop_of x)
stop_bytes kind x = cc (three_pieces (flat_map byte_digits x.key.items) kind (core_words (x.depth ∷ [])), x.packed)

-- all of them
pub all_taken : {A B : Type 0} (f : A → B) (xs : List A) (k : ℕ) → length xs ≤ k → take k (map f xs) ≡ map f xs
all_taken f xs k most = let same = length-map xs f in take_all k (map f xs) (omega arith)

mapped : {A : Type 0} (f : A → List ℕ) (xs : List A)
    → flat_map line_text (map f xs) ≡ flat_map (λ x. line_text (f x)) xs
mapped f [] = refl
mapped f (x ∷ xs) = rw (mapped f xs)

-- the four pieces of a text
abbrev pub own_lines : Checked → List ℕ
own_lines c = flat_map (stop_line (codes " +")) (stops c.part.keys.items)

abbrev pub asked_lines : Checked → List ℕ
asked_lines c = flat_map (stop_line (codes " ?")) (stops c.part.asked.items)

abbrev pub label_lines : Checked → List ℕ
label_lines c = flat_map label_line (labels c.part.found.items)

abbrev pub last_line : Checked → List ℕ
last_line c = line_text (entry_line (Tells c.about.bytes c.numbers))

-- are all of it
pub four_pieces : (c : Checked) → CountsStops c
    → own_lines c ++ (asked_lines c ++ (label_lines c ++ last_line c)) ≡ lines_text (told_part c)
four_pieces c counts =
    let ks = stops c.part.keys.items in
    let bs = stops c.part.asked.items in
    let ls = labels c.part.found.items in
    let own = λ (x : Stop). entry_line (Own (key_digits x.key) x.depth) in
    let asks = λ (x : Stop). entry_line (Asks (key_digits x.key) x.depth) in
    let shows = λ (label : List ℕ). entry_line (Shows (inner label)) in
    let last = entry_line (Tells c.about.bytes (told_numbers (told_part c))) in
    let named : last_line c ≡ line_text last = rw counts in
    cc (
      ap₂ (λ x y. x ++ y) (mapped own ks) (flat_map-append line_text (map asks bs) (map shows ls ++ last ∷ []) ∙ ap₂
          (λ x y. x ++ y) (mapped asks bs) (flat_map-append line_text (map shows ls) (last ∷ []) ∙ ap₂ (λ x y. x ++ y)
          (mapped shows ls) (append-nil (line_text last) ∙ sym named))),
      flat_map-append line_text (map own ks)
          (map asks bs ++ (map shows ls ++ last ∷ [])),
    )
