use Rattle.std.proofs.Common.{◌≡◌, ◌<◌, length, sym, ap, ◌∙◌, subst, arith}
use Rattle.pip_model.specs.Grammar.{number_of}
use Rattle.pip_script.proofs.WholeWords.{no_number, number_space, whole_word}
use Rattle.pip_script.proofs.numbers.read_number.Goals as goal

pub returns-in_err-number : goal.returns-in_err-number
returns-in_err-number c = c.from_residual.ensures ∙ sym (no_number c.args.word.now c.in_err-number.ensures)

pub returns-then-is_empty : goal.returns-then-is_empty
returns-then-is_empty c =
    let none : length c.in_ok-number.number.rest.now ≡ 0 = grind arith in
    sym c.in_ok-number.ensures.0
    ∙ ap number_of (whole_word c.args.word.now (sym (ap length c.in_ok-number.ensures.1) ∙ none))

pub returns-else-is_empty : goal.returns-else-is_empty
returns-else-is_empty c =
    let some : 0 < length c.in_ok-number.number.rest.now = grind arith in
    sym (number_space c.args.word.now (subst (λ r. 0 < length r) c.in_ok-number.ensures.1 some))
