-- The hexadecimal text of a word is read as that word; and where words of a line end.
use Rattle.std.specs.Prelude.{◌≡◌, refl, ℕ, ◌<◌, ◌^◌, ◌==◌, Bool, true, not, List, [], ◌∷◌, ◌++◌}
use Rattle.std.specs.Prelude.{map, Some, decimal}
use Rattle.std.specs.List.{list_all}
use Rattle.std.specs.Str.{all_ascii_digits}
use Rattle.std.proofs.Common.{arith}
use Rattle.std.proofs.lemmas.Bool.Decides.{nat_tests}
use Rattle.std.proofs.lemmas.Fmt.{digits_decimal}
use Rattle.pip_model.specs.Grammar.{number_of, words_of}
use Rattle.pip_model.specs.Text.{hex_digit, word_text}
use Rattle.pip_asm.proofs.Fine.{Fine, is_clean}
use Rattle.pip_model.proofs.Texts.Numbers.{digits_of, hex_word, own}

pub number_text : (w : ℕ) → w < 2 ^ 32 → number_of (word_text w) ≡ Some w
number_text w h = hex_word w h

-- ---- neither spaces nor newlines

abbrev pub no_space : List ℕ → Bool
no_space bs = list_all (λ b. not (b == 32)) bs

pub one_word : (bs : List ℕ) → no_space bs ≡ true → words_of bs ≡ bs ∷ []
one_word [] h = refl
one_word (d ∷ ds) h = grind (arith, nat_tests, h, one_word ds)

pub word_before : (bs rest : List ℕ) → no_space bs ≡ true → words_of (bs ++ 32 ∷ rest) ≡ bs ∷ words_of rest
word_before [] rest h = refl
word_before (d ∷ ds) rest h = grind (arith, nat_tests, h, word_before ds rest)

digits_no_space : (bs : List ℕ) → all_ascii_digits bs ≡ true → no_space bs ≡ true
digits_no_space [] a = refl
digits_no_space (d ∷ ds) a = grind (arith, nat_tests, a, digits_no_space ds)

pub decimal_no_space : (n : ℕ) → n < 2 ^ 64 → no_space (decimal n) ≡ true
decimal_no_space n h = digits_no_space (decimal n) (digits_decimal own n h)

hex_no_space : (ds : List ℕ) → no_space (map hex_digit ds) ≡ true
hex_no_space [] = refl
hex_no_space (d ∷ ds) = grind (arith, nat_tests, hex_no_space ds)

hex_clean : (ds : List ℕ) → is_clean (map hex_digit ds) ≡ true
hex_clean [] = refl
hex_clean (d ∷ ds) = grind (arith, nat_tests, hex_clean ds)

pub text_word : (w : ℕ) → words_of (word_text w) ≡ word_text w ∷ []
text_word w = one_word (word_text w) (hex_no_space (digits_of w))

pub fine_text : (w : ℕ) → Fine 10 (word_text w)
fine_text w = record { clean = hex_clean (digits_of w); short = omega arith }
