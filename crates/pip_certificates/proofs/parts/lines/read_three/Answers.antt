use Rattle.std.proofs.Common.{Some, None, sym, ◌∙◌}
use Rattle.pip_certificates.proofs.Numbers.{three_is, three_none, three_second}
use Rattle.pip_certificates.proofs.parts.lines.read_three.Goals as goal

pub returns-in_err-first : goal.returns-in_err-first
returns-in_err-first c = c.from_residual.ensures ∙ sym (three_none c.args.text.now c.in_err-first.ensures)

pub returns-in_err-second : goal.returns-in_err-second
returns-in_err-second c = c.from_residual-in_err-second.ensures
    ∙ sym (three_second c.args.text.now c.in_ok-first.rest.now c.in_ok-first.first c.in_ok-first.ensures.0
    c.in_ok-first.ensures.1 c.in_err-second.ensures)

pub returns-in_err-third : goal.returns-in_err-third
returns-in_err-third c = c.from_residual-in_err-third.ensures
    ∙ three_is c.args.text.now c.in_ok-first.rest.now c.in_ok-second.rest.now c.in_ok-first.first
    c.in_ok-second.second None c.in_ok-first.ensures.0 c.in_ok-first.ensures.1 c.in_ok-second.ensures.0
    c.in_ok-second.ensures.1 c.in_err-third.ensures

pub returns : goal.returns
returns c = three_is c.args.text.now c.in_ok-first.rest.now c.in_ok-second.rest.now c.in_ok-first.first
    c.in_ok-second.second (Some c.in_ok-third.third) c.in_ok-first.ensures.0 c.in_ok-first.ensures.1
    c.in_ok-second.ensures.0 c.in_ok-second.ensures.1 c.in_ok-third.ensures
