use Rattle.std.proofs.Common.{arith, ◌≡◌, ◌<◌, length, sym, ◌∙◌}
use Rattle.pip_certificates.proofs.Numbers.{one_more, one_none, one_some}
use Rattle.pip_certificates.proofs.parts.lines.read_one.Goals as goal

pub returns-in_err-number : goal.returns-in_err-number
returns-in_err-number c = c.from_residual.ensures ∙ sym (one_none c.args.text.now c.in_err-number.ensures)

pub returns-then-is_empty : goal.returns-then-is_empty
returns-then-is_empty c =
    let none : length c.in_ok-number.rest.now ≡ 0 = grind arith in
    sym (one_some c.args.text.now c.in_ok-number.rest.now c.in_ok-number.number c.in_ok-number.ensures.0
    c.in_ok-number.ensures.1 none)

pub returns-else-is_empty : goal.returns-else-is_empty
returns-else-is_empty c =
    let some : 0 < length c.in_ok-number.rest.now = grind arith in
    sym (one_more c.args.text.now c.in_ok-number.rest.now c.in_ok-number.number c.in_ok-number.ensures.0
    c.in_ok-number.ensures.1 some)
