-- A number has no space in it.
use Rattle.std.proofs.Common.{◌≡◌, ℕ, ◌+◌, ◌-◌, ◌*◌, ◌<◌, List, [], ◌∷◌, length, None, refl, sym, ap, ◌∙◌, arith, inl}
use Rattle.std.proofs.Common.{inr}
use Rattle.std.proofs.lemmas.Bool.{cases_lt}
use Rattle.std.proofs.lemmas.Grind.{common_steps}
use Rattle.pip_model.specs.Grammar.{after_zero, decimal_from, hex_from, number_of}
use Rattle.pip_script.specs.Words.{first_word, after_word}

decimal_space : (v : ℕ) (xs : List ℕ) → 0 < length (after_word xs) → decimal_from v xs ≡ None
decimal_space v [] h = absurd (omega arith)
decimal_space v (b ∷ bs) h = grind (arith, common_steps, decimal_space (10 * v + (b - 48)) bs)

hex_space : (v : ℕ) (xs : List ℕ) → 0 < length (after_word xs) → hex_from v xs ≡ None
hex_space v [] h = absurd (omega arith)
hex_space v (b ∷ bs) h = grind (arith, common_steps, λ (x : ℕ). hex_space (16 * v + x) bs)

after_zero_space : (xs : List ℕ) → 0 < length (after_word xs) → after_zero xs ≡ None
after_zero_space [] h = absurd (omega arith)
after_zero_space (b ∷ bs) h = grind (arith, common_steps, hex_space 0 bs)

pub number_space : (xs : List ℕ) → 0 < length (after_word xs) → number_of xs ≡ None
number_space [] h = absurd (omega arith)
number_space (b ∷ bs) h = grind (arith, common_steps, after_zero_space bs, decimal_space 0 (b ∷ bs))

pub whole_word : (xs : List ℕ) → length (after_word xs) ≡ 0 → first_word xs ≡ xs
whole_word [] h = refl
whole_word (b ∷ bs) h = grind (arith, common_steps, whole_word bs)

-- a text of which the first word is no number is none
pub no_number : (xs : List ℕ) → number_of (first_word xs) ≡ None → number_of xs ≡ None
no_number xs h =
    elim (cases_lt 0 (length (after_word xs))) [
      | inl space ↦ number_space xs space
      | inr none ↦ ap number_of (sym (whole_word xs (omega arith))) ∙ h
    ]
