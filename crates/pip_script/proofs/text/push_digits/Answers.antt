use Rattle.pip_script.proofs.WordDigits.{digits_after}
use Rattle.pip_script.proofs.text.push_digits.Goals as goal

pub returns-clause-bytes : goal.returns-clause-bytes
returns-clause-bytes g c =
    digits_after _ _ _ _ _ _ _ _ _ _ _ _ _ _ _ _ _
    c.push_digit.ensures.bytes c.push_digit-2.ensures.bytes c.push_digit-3.ensures.bytes c.push_digit-4.ensures.bytes
    c.push_digit-5.ensures.bytes c.push_digit-6.ensures.bytes c.push_digit-7.ensures.bytes c.push_digit-8.ensures.bytes
