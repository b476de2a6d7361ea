-- Numbers after spaces, one, three or five of them.
use Rattle.std.specs.Prelude.{◌≡◌, refl, ℕ, suc, ◌<◌, List, [], ◌∷◌, length, drop, Option, Some, None, option_map}
use Rattle.std.proofs.Common.{ap, sym, ◌∙◌, arith}
use Rattle.pip_audit.specs.Lines.{word_ahead, words_ahead}
use Rattle.pip_model.specs.Grammar.{cons_number}
use Rattle.pip_certificates.specs.Entries.{part_numbers_of, one_of, three_of}
use Rattle.pip_certificates.specs.declared.parts.lines.PartNumbers.{PartNumbers}

next_ahead : (k : ℕ) (text : List ℕ)
    → words_ahead (suc k) text ≡ cons_number (word_ahead text) (words_ahead k (drop 9 text))
unfolding words_ahead
next_ahead k text = refl

end_ahead : (text : List ℕ) → length text ≡ 0 → words_ahead 0 text ≡ Some []
unfolding words_ahead
end_ahead [] h = refl
end_ahead (b ∷ bs) h = absurd (omega (arith, h))

more_ahead : (text : List ℕ) → 0 < length text → words_ahead 0 text ≡ None
unfolding words_ahead
more_ahead [] h = absurd (omega (arith, h))
more_ahead (b ∷ bs) h = refl

-- ---- one number

pub one_none : (text : List ℕ) → word_ahead text ≡ None → one_of (words_ahead 1 text) ≡ None
one_none text none =
    ap one_of (next_ahead 0 text ∙ ap (λ o. cons_number o (words_ahead 0 (drop 9 text))) none)

pub one_some : (text rest : List ℕ) (n : ℕ) → word_ahead text ≡ Some n → rest ≡ drop 9 text → length rest ≡ 0
    → one_of (words_ahead 1 text) ≡ Some n
one_some text rest n some is none =
    ap one_of (next_ahead 0 text ∙ ap (λ o. cons_number o (words_ahead 0 (drop 9 text))) some
    ∙ ap (λ x. cons_number (Some n) (words_ahead 0 x)) (sym is) ∙ ap (cons_number (Some n)) (end_ahead rest none))

pub one_more : (text rest : List ℕ) (n : ℕ) → word_ahead text ≡ Some n → rest ≡ drop 9 text → 0 < length rest
    → one_of (words_ahead 1 text) ≡ None
one_more text rest n some is more =
    ap one_of (next_ahead 0 text ∙ ap (λ o. cons_number o (words_ahead 0 (drop 9 text))) some
    ∙ ap (λ x. cons_number (Some n) (words_ahead 0 x)) (sym is) ∙ ap (cons_number (Some n)) (more_ahead rest more))

-- ---- three numbers

three_after : (a b : ℕ) (o : Option (List ℕ))
    → three_of (cons_number (Some a) (cons_number (Some b) o)) ≡ option_map (λ c. (a, b, c)) (one_of o)
three_after a b None = refl
three_after a b (Some []) = refl
three_after a b (Some (c ∷ [])) = refl
three_after a b (Some (c ∷ d ∷ ds)) = refl

pub three_none : (text : List ℕ) → word_ahead text ≡ None → three_of (words_ahead 3 text) ≡ None
three_none text none =
    ap three_of (next_ahead 2 text ∙ ap (λ o. cons_number o (words_ahead 2 (drop 9 text))) none)

none_second : (a : ℕ) (o : Option (List ℕ)) → three_of (cons_number (Some a) (cons_number None o)) ≡ None
none_second a None = refl
none_second a (Some ns) = refl

pub three_second : (text rest : List ℕ) (a : ℕ) → word_ahead text ≡ Some a → rest ≡ drop 9 text → word_ahead rest ≡ None
    → three_of (words_ahead 3 text) ≡ None
three_second text rest a some is none =
    ap three_of (next_ahead 2 text ∙ ap (λ o. cons_number o (words_ahead 2 (drop 9 text))) some
    ∙ ap (λ x. cons_number (Some a) (words_ahead 2 x)) (sym is)
    ∙ ap (cons_number (Some a)) (next_ahead 1 rest ∙ ap (λ o. cons_number o (words_ahead 1 (drop 9 rest))) none))
    ∙ none_second a (words_ahead 1 (drop 9 rest))

pub three_is : (text rest last : List ℕ) (a b : ℕ) (o : Option ℕ) → word_ahead text ≡ Some a → rest ≡ drop 9 text
    → word_ahead rest ≡ Some b → last ≡ drop 9 rest → o ≡ one_of (words_ahead 1 last)
    → option_map (λ c. (a, b, c)) o ≡ three_of (words_ahead 3 text)
three_is text rest last a b o first is second then third =
    ap (option_map (λ c. (a, b, c))) third
    ∙ sym (ap three_of (next_ahead 2 text ∙ ap (λ o. cons_number o (words_ahead 2 (drop 9 text))) first
    ∙ ap (λ x. cons_number (Some a) (words_ahead 2 x)) (sym is)
    ∙ ap (cons_number (Some a)) (next_ahead 1 rest ∙ ap (λ o. cons_number o (words_ahead 1 (drop 9 rest))) second
    ∙ ap (λ x. cons_number (Some b) (words_ahead 1 x)) (sym then)))
    ∙ three_after a b (words_ahead 1 last))

-- ---- five numbers

-- the last three, after the first two
abbrev pub with_three : ℕ → ℕ → ℕ × ℕ × ℕ → PartNumbers
with_three a b t = record { way = a; keys = b; asked = t.0; labels = t.1; sum = t.2 }

five_after : (a b : ℕ) (o : Option (List ℕ))
    → part_numbers_of (cons_number (Some a) (cons_number (Some b) o)) ≡ option_map (with_three a b) (three_of o)
five_after a b None = refl
five_after a b (Some []) = refl
five_after a b (Some (c ∷ [])) = refl
five_after a b (Some (c ∷ d ∷ [])) = refl
five_after a b (Some (c ∷ d ∷ e ∷ [])) = refl
five_after a b (Some (c ∷ d ∷ e ∷ f ∷ fs)) = refl

pub five_none : (text : List ℕ) → word_ahead text ≡ None → part_numbers_of (words_ahead 5 text) ≡ None
five_none text none =
    ap part_numbers_of (next_ahead 4 text ∙ ap (λ o. cons_number o (words_ahead 4 (drop 9 text))) none)

none_of_five : (a : ℕ) (o : Option (List ℕ)) → part_numbers_of (cons_number (Some a) (cons_number None o)) ≡ None
none_of_five a None = refl
none_of_five a (Some ns) = refl

pub five_second : (text rest : List ℕ) (a : ℕ) → word_ahead text ≡ Some a → rest ≡ drop 9 text → word_ahead rest ≡ None
    → part_numbers_of (words_ahead 5 text) ≡ None
five_second text rest a some is none =
    ap part_numbers_of (next_ahead 4 text ∙ ap (λ o. cons_number o (words_ahead 4 (drop 9 text))) some
    ∙ ap (λ x. cons_number (Some a) (words_ahead 4 x)) (sym is)
    ∙ ap (cons_number (Some a)) (next_ahead 3 rest ∙ ap (λ o. cons_number o (words_ahead 3 (drop 9 rest))) none))
    ∙ none_of_five a (words_ahead 3 (drop 9 rest))

pub five_is : (text rest last : List ℕ) (a b : ℕ) (o : Option (ℕ × ℕ × ℕ)) → word_ahead text ≡ Some a
    → rest ≡ drop 9 text → word_ahead rest ≡ Some b → last ≡ drop 9 rest → o ≡ three_of (words_ahead 3 last)
    → option_map (with_three a b) o ≡ part_numbers_of (words_ahead 5 text)
five_is text rest last a b o first is second then third =
    ap (option_map (with_three a b)) third
    ∙ sym (ap part_numbers_of (next_ahead 4 text ∙ ap (λ o. cons_number o (words_ahead 4 (drop 9 text))) first
    ∙ ap (λ x. cons_number (Some a) (words_ahead 4 x)) (sym is)
    ∙ ap (cons_number (Some a)) (next_ahead 3 rest ∙ ap (λ o. cons_number o (words_ahead 3 (drop 9 rest))) second
    ∙ ap (λ x. cons_number (Some b) (words_ahead 3 x)) (sym then)))
    ∙ five_after a b (words_ahead 3 last))
