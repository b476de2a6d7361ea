-- The line of an instruction says its word.
use Rattle.std.specs.Prelude.{◌≡◌, refl, ℕ, ◌<◌, ◌+◌, ◌-◌, ◌==◌, ◌&&◌, Bool, true, false, not, cond, List, [], ◌∷◌}
use Rattle.std.specs.Prelude.{◌++◌}
use Rattle.std.specs.Prelude.{Ok, Option, Some, None, codes, length, slice_index, take}
use Rattle.std.specs.List.{position}
use Rattle.std.specs.Str.{bytes_eq}
use Rattle.std.proofs.lemmas.Bool.Decides.{nat_tests}
use Rattle.std.proofs.Common.{ap, ◌∙◌, arith}
use Rattle.pip_isa.proofs.Rows.{row_passes, back_two, back_three, back_two_and_value, back_two_and_shift}
use Rattle.pip_isa.proofs.Rows.{back_two_and_offset, back_one_and_value, back_one_and_offset, back_one, back_value}
use Rattle.pip_isa.proofs.Rows.{back_vector, half, ra, rb, rc, shift_fits, short, vector_fits}
use Rattle.pip_model.specs.AsmLines.{Holds, held, assembly_phrase, other_line, page_line, phrase_of, word_line}
use Rattle.pip_model.specs.AsmLines.{zero_line}
use Rattle.pip_model.specs.AsmWords.{by_form, by_place, by_row, made, nil, plain_cell, no_field}
use Rattle.pip_model.specs.Grammar.{words_of}
use Rattle.pip_model.specs.InstrText.{before, operands_text, reg_text}
use Rattle.pip_model.specs.InstrWords.{Opcode, fits, immediate, opcode_at, opcode_of, opcodes, reg_a, reg_b, reg_c}
use Rattle.pip_model.specs.InstrWords.{signed_immediate}
use Rattle.pip_model.specs.declared.assembly.Stage.TheVariants.{InPage}
use Rattle.pip_model.specs.declared.form.Form.{Form}
use Rattle.pip_model.specs.declared.form.Form.TheVariants as F
use Rattle.pip_asm.proofs.NumberTexts.{number_word, signed_again, signed_word, unsigned_again}
use Rattle.pip_asm.proofs.Trip.{reg_again, reg_last, reg_word}
use Rattle.pip_asm.proofs.WordTexts.{no_space, word_before}

-- a mnemonic in a page, which begins an instruction of this opcode and form
record Begins (op : ℕ) (m : List ℕ) (f : Form) : Type 0 where
  plain_name : no_space m ≡ true
  is : (xs : List (List ℕ)) → phrase_of InPage m xs ≡ held (by_form op m f xs)

-- the words of a line, and then what they say
by_words : (op : ℕ) (m rest : List ℕ) (f : Form) (xs : List (List ℕ)) → Begins op m f → words_of rest ≡ xs
    → assembly_phrase InPage (words_of (m ++ 32 ∷ rest)) ≡ held (by_form op m f xs)
by_words op m rest f xs b e =
    rw (word_before m rest b.plain_name, e, b.is xs)

one_reg : (a : ℕ) → a < 16 → words_of (reg_text a) ≡ reg_text a ∷ []
one_reg a h = reg_last a h

then_words : (a : ℕ) (rest : List ℕ) (xs : List (List ℕ)) → a < 16 → words_of rest ≡ xs
    → words_of (before a rest) ≡ reg_text a ∷ xs
then_words a rest xs h e = rw (reg_word a rest h, e)

abbrev Again : ℕ → List ℕ → Form → Type 0
Again op m f = (w : ℕ) → opcode_of w ≡ op → fits w f ≡ true
    → assembly_phrase InPage (words_of (m ++ 32 ∷ operands_text f w)) ≡ Ok (Holds (plain_cell w))

again_two : (op : ℕ) (m : List ℕ) → Begins op m F.Two → Again op m F.Two
again_two op m b w e f =
    by_words op m _ F.Two _ b (then_words (reg_a w) _ _ (ra w) (one_reg (reg_b w) (rb w)))
    ∙ (λ j. held (made op (reg_again (reg_a w) (ra w) j) (reg_again (reg_b w) (rb w) j) no_field nil))
    ∙ ap (λ v. Ok (Holds (plain_cell v))) (back_two op w e f)

again_three : (op : ℕ) (m : List ℕ) → Begins op m F.Three → Again op m F.Three
again_three op m b w e f =
    by_words op m _ F.Three _ b
    (then_words (reg_a w) _ _ (ra w) (then_words (reg_b w) _ _ (rb w) (one_reg (reg_c w) (rc w))))
    ∙ (λ j.
    held (made op (reg_again (reg_a w) (ra w) j) (reg_again (reg_b w) (rb w) j) (reg_again (reg_c w) (rc w) j) nil))
    ∙ ap (λ v. Ok (Holds (plain_cell v))) (back_three op w e f)

again_two_and_value : (op : ℕ) (m : List ℕ) → Begins op m F.TwoAndValue → Again op m F.TwoAndValue
again_two_and_value op m b w e f =
    let v : immediate w < 65536 = half w in
    by_words op m _ F.TwoAndValue _ b (then_words (reg_a w) _ _ (ra w)
    (then_words (reg_b w) _ _ (rb w) (number_word (immediate w) (omega arith))))
    ∙ (λ j. held (made op (reg_again (reg_a w) (ra w) j) (reg_again (reg_b w) (rb w) j) no_field
    (unsigned_again m 0 65535 (immediate w) (omega arith) (omega arith) (omega arith) j)))
    ∙ ap (λ v. Ok (Holds (plain_cell v))) (back_two_and_value op w e f)

again_two_and_shift : (op : ℕ) (m : List ℕ) → Begins op m F.TwoAndShift → Again op m F.TwoAndShift
again_two_and_shift op m b w e f =
    let v = shift_fits w f in
    by_words op m _ F.TwoAndShift _ b (then_words (reg_a w) _ _ (ra w)
    (then_words (reg_b w) _ _ (rb w) (number_word (immediate w) (omega arith))))
    ∙ (λ j. held (made op (reg_again (reg_a w) (ra w) j) (reg_again (reg_b w) (rb w) j) no_field
    (unsigned_again m 0 31 (immediate w) (omega arith) (omega arith) (omega arith) j)))
    ∙ ap (λ v. Ok (Holds (plain_cell v))) (back_two_and_shift op w e f)

again_two_and_offset : (op : ℕ) (m : List ℕ) → Begins op m F.TwoAndOffset → Again op m F.TwoAndOffset
again_two_and_offset op m b w e f =
    by_words op m _ F.TwoAndOffset _ b
    (then_words (reg_a w) _ _ (ra w) (then_words (reg_b w) _ _ (rb w) (signed_word (signed_immediate w) (short w))))
    ∙ (λ j. held (made op (reg_again (reg_a w) (ra w) j) (reg_again (reg_b w) (rb w) j) no_field
    (signed_again m (signed_immediate w) (short w) j)))
    ∙ ap (λ v. Ok (Holds (plain_cell v))) (back_two_and_offset op w e f)

again_one_and_value : (op : ℕ) (m : List ℕ) → Begins op m F.OneAndValue → Again op m F.OneAndValue
again_one_and_value op m b w e f =
    let v : immediate w < 65536 = half w in
    by_words op m _ F.OneAndValue _ b (then_words (reg_a w) _ _ (ra w) (number_word (immediate w) (omega arith)))
    ∙ (λ j. held (made op (reg_again (reg_a w) (ra w) j) no_field no_field
    (unsigned_again m 0 65535 (immediate w) (omega arith) (omega arith) (omega arith) j)))
    ∙ ap (λ v. Ok (Holds (plain_cell v))) (back_one_and_value op w e f)

again_one_and_offset : (op : ℕ) (m : List ℕ) → Begins op m F.OneAndOffset → Again op m F.OneAndOffset
again_one_and_offset op m b w e f =
    by_words op m _ F.OneAndOffset _ b (then_words (reg_a w) _ _ (ra w) (signed_word (signed_immediate w) (short w)))
    ∙ (λ j.
    held (made op (reg_again (reg_a w) (ra w) j) no_field no_field (signed_again m (signed_immediate w) (short w) j)))
    ∙ ap (λ v. Ok (Holds (plain_cell v))) (back_one_and_offset op w e f)

again_one : (op : ℕ) (m : List ℕ) → Begins op m F.One → Again op m F.One
again_one op m b w e f =
    by_words op m _ F.One _ b (one_reg (reg_a w) (ra w))
    ∙ (λ j. held (made op (reg_again (reg_a w) (ra w) j) no_field no_field nil))
    ∙ ap (λ v. Ok (Holds (plain_cell v))) (back_one op w e f)

again_value : (op : ℕ) (m : List ℕ) → Begins op m F.Value → Again op m F.Value
again_value op m b w e f =
    let v : immediate w < 65536 = half w in
    by_words op m _ F.Value _ b (number_word (immediate w) (omega arith))
    ∙ (λ j. held (made op no_field no_field no_field
    (unsigned_again m 0 65535 (immediate w) (omega arith) (omega arith) (omega arith) j)))
    ∙ ap (λ v. Ok (Holds (plain_cell v))) (back_value op w e f)

again_vector : (op : ℕ) (m : List ℕ) → Begins op m F.Vector → Again op m F.Vector
again_vector op m b w e f =
    let v = vector_fits w f in
    let l = v.0 in
    let k = v.1 in
    by_words op m _ F.Vector _ b (number_word (immediate w) (omega arith))
    ∙ (λ j. held (made op no_field no_field no_field
    (unsigned_again m 64 255 (immediate w) (omega arith) (omega arith) (omega arith) j)))
    ∙ ap (λ v. Ok (Holds (plain_cell v))) (back_vector op w e f)

again_form : (f : Form) (op : ℕ) (m : List ℕ) → Begins op m f → Again op m f
again_form F.Two op m b = again_two op m b
again_form F.Three op m b = again_three op m b
again_form F.TwoAndValue op m b = again_two_and_value op m b
again_form F.TwoAndShift op m b = again_two_and_shift op m b
again_form F.TwoAndOffset op m b = again_two_and_offset op m b
again_form F.OneAndValue op m b = again_one_and_value op m b
again_form F.OneAndOffset op m b = again_one_and_offset op m b
again_form F.One op m b = again_one op m b
again_form F.Value op m b = again_value op m b
again_form F.Vector op m b = again_vector op m b

-- ---- each row of the table

-- this opcode was found at its place
abbrev is_place : ℕ → Option ℕ → Bool
is_place op None = false
is_place op (Some k) = k + 1 == op

-- a mnemonic is no directive and no label, and is found in the row of its opcode
abbrev names_row : ℕ → Opcode → Bool
names_row op o = no_space o.name && not (bytes_eq o.name (codes ".page")) && not (bytes_eq o.name (codes ".word"))
    && not (bytes_eq o.name (codes ".zero")) && not (slice_index o.name (length o.name - 1) == 58)
    && is_place op (position (λ p. bytes_eq o.name p.name) opcodes)

record Parts (a b c d e f : Bool) : Type 0 where
  first : a ≡ true
  second : b ≡ false
  third : c ≡ false
  fourth : d ≡ false
  fifth : e ≡ false
  last : f ≡ true

parts : (a b c d e f : Bool) → (a && not b && not c && not d && not e && f) ≡ true → Parts a b c d e f
parts a b c d e f h = record {
  first = grind (arith, h);
  second = grind (arith, h);
  third = grind (arith, h);
  fourth = grind (arith, h);
  fifth = grind (arith, h);
  last = grind (arith, h);
}

no_directive : {A : Type 0} (a b c : Bool) (x y z e : A) → a ≡ false → b ≡ false → c ≡ false
    → cond a x (cond b y (cond c z e)) ≡ e
no_directive a b c x y z e ha hb hc =
    rw (ha, hb, hc)

at_place : (op : ℕ) (m : List ℕ) (xs : List (List ℕ)) (p : Option ℕ) → is_place op p ≡ true
    → by_place m xs p ≡ by_row op m xs (opcode_at op)
at_place op m xs None e = absurd (grind (arith, e))
at_place op m xs (Some k) e =
    let s : k + 1 ≡ op = grind (arith, nat_tests, e) in rw s

begins : (op : ℕ) (o : Opcode) → opcode_at op ≡ Some o → Begins op o.name o.form
begins op o at =
    let m = o.name in
    let p = parts _ _ _ _ _ _ (row_passes names_row op o refl at) in
    record {
      plain_name = p.first;
      is = λ xs. no_directive _ _ _ (page_line xs) (word_line xs) (zero_line xs) _ p.second p.third p.fourth
          ∙ ap (λ t. other_line m xs (cond t (Some (take (length m - 1) m)) None)) p.fifth
          ∙ ap held (at_place op m xs _ p.last ∙ ap (by_row op m xs) at);
    }

-- the line of a word that fits its row says the word
pub again : (op : ℕ) (o : Opcode) → opcode_at op ≡ Some o → Again op o.name o.form
again op o at = again_form o.form op o.name (begins op o at)
