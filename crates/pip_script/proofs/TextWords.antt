-- The words of a text, by its first word and what follows it.
use Rattle.std.proofs.Common.{◌≡◌, ℕ, ◌-◌, ◌≤◌, ◌<◌, ◌==◌, true, false, cond, List, [], ◌∷◌, length, take, drop, refl}
use Rattle.std.proofs.Common.{sym, ap, subst, length-drop, arith}
use Rattle.std.specs.List.{onto_first}
use Rattle.std.proofs.lemmas.List.{take_rest}
use Rattle.pip_model.specs.Grammar.{words_of}
use Rattle.pip_script.specs.Words.{first_word, after_word}

-- the words after a space at the front
abbrev pub words_after : List ℕ → List (List ℕ)
words_after [] = []
words_after (b ∷ bs) = words_of bs

pub words_split : (xs : List ℕ) → words_of xs ≡ first_word xs ∷ words_after (after_word xs)
words_split [] = refl
words_split (b ∷ bs) =
    elim (b == 32) as (λ t. cond t ([] ∷ words_of bs) (onto_first b (words_of bs))
    ≡ cond t [] (b ∷ first_word bs) ∷ words_after (cond t (b ∷ bs) (after_word bs))) [
      | true ↦ refl
      | false ↦ ap (onto_first b) (words_split bs)
    ]

-- what follows the first byte, as a pattern gives it
abbrev pub tail_of : List ℕ → List ℕ
tail_of xs = take (length xs - 1) (drop 1 xs)

words_from_drop : (xs : List ℕ) → 1 ≤ length xs
    → words_after xs ≡ first_word (drop 1 xs) ∷ words_after (after_word (drop 1 xs))
words_from_drop [] h = absurd (omega arith)
words_from_drop (b ∷ bs) h = words_split bs

-- the words from a space on
pub words_from : (xs : List ℕ) → 1 ≤ length xs
    → words_after xs ≡ first_word (tail_of xs) ∷ words_after (after_word (tail_of xs))
words_from xs h = subst (λ t. words_after xs ≡ first_word t ∷ words_after (after_word t)) (sym (take_rest xs 1))
    (words_from_drop xs h)

pub take_word : (xs : List ℕ) → take (length (first_word xs)) xs ≡ first_word xs
take_word [] = refl
take_word (b ∷ bs) =
    elim (b == 32) as (λ t. take (length (cond t [] (b ∷ first_word bs))) (b ∷ bs) ≡ cond t [] (b ∷ first_word bs)) [
      | true ↦ refl
      | false ↦ ap (λ k. b ∷ k) (take_word bs)
    ]

pub drop_word : (xs : List ℕ) → drop (length (first_word xs)) xs ≡ after_word xs
drop_word [] = refl
drop_word (b ∷ bs) =
    elim (b == 32) as (λ t. drop (length (cond t [] (b ∷ first_word bs))) (b ∷ bs) ≡ cond t (b ∷ bs) (after_word bs)) [
      | true ↦ refl
      | false ↦ drop_word bs
    ]

after_short : (xs : List ℕ) → length (after_word xs) ≤ length xs
after_short [] = omega arith
after_short (b ∷ bs) =
    elim (b == 32) as (λ t. length (cond t (b ∷ bs) (after_word bs)) ≤ length (b ∷ bs)) [
      | true ↦ omega arith
      | false ↦ let h = after_short bs in omega arith
    ]

-- fewer bytes are left after a space and a word
pub after_less : (xs : List ℕ) → 1 ≤ length xs → length (after_word (tail_of xs)) < length xs
after_less xs h =
    let short = after_short (drop 1 xs) in
    let less = length-drop 1 xs in
    subst (λ t. length (after_word t) < length xs) (sym (take_rest xs 1)) (omega arith)

pub word_short : (xs : List ℕ) → length (first_word xs) ≤ length xs
word_short [] = omega arith
word_short (b ∷ bs) =
    elim (b == 32) as (λ t. length (cond t [] (b ∷ first_word bs)) ≤ length (b ∷ bs)) [
      | true ↦ omega arith
      | false ↦ let h = word_short bs in omega arith
    ]
