use Rattle.std.proofs.Common.{◌≡◌, ◌%◌, ◌∷◌, ◌++◌, [], decimal, refl, sym, ap, ◌∙◌, arith, rules}
use Rattle.pip_model.specs.Text.{hex_digit, word_text}
use Rattle.pip_script.proofs.Digits.{one_digit}
use Rattle.pip_script.proofs.text.reply_line.Goals as goal

pub returns : goal.returns
returns c =
    let s = c.args.status in
    let small = c.requires in
    let same : s % 16 ≡ s = omega (arith, small) in
    let digit : c.digit-digit_of_status.result ∷ [] ≡ decimal s =
    ap (λ d. d ∷ []) (c.digit-digit_of_status.ensures.value ∙ ap hex_digit same) ∙ sym (one_digit s small) in
    let digits : 48 ∷ 120 ∷ c.digit.result ∷ c.digit-2.result ∷ c.digit-3.result ∷ c.digit-4.result ∷ c.digit-5.result
    ∷ c.digit-6.result ∷ c.digit-7.result ∷ c.digit-8.result ∷ 10 ∷ []
    ≡ word_text c.args.value ++ 10 ∷ [] = search rules in
    rw (sym digit, sym digits) refl
