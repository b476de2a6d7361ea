use Rattle.std.proofs.Common.{Some, None, sym, ◌∙◌}
use Rattle.pip_certificates.proofs.Numbers.{five_is, five_none, five_second}
use Rattle.pip_certificates.proofs.parts.lines.read_numbers.Goals as goal

pub returns-in_err-way : goal.returns-in_err-way
returns-in_err-way c = c.from_residual.ensures ∙ sym (five_none c.args.text.now c.in_err-way.ensures)

pub returns-in_err-keys : goal.returns-in_err-keys
returns-in_err-keys c = c.from_residual-in_err-keys.ensures
    ∙ sym (five_second c.args.text.now c.in_ok-way.rest.now c.in_ok-way.way c.in_ok-way.ensures.0
    c.in_ok-way.ensures.1 c.in_err-keys.ensures)

pub returns-in_err-asked : goal.returns-in_err-asked
returns-in_err-asked c = c.from_residual-in_err-asked.ensures
    ∙ five_is c.args.text.now c.in_ok-way.rest.now c.in_ok-keys.rest.now c.in_ok-way.way c.in_ok-keys.keys None
    c.in_ok-way.ensures.0 c.in_ok-way.ensures.1 c.in_ok-keys.ensures.0 c.in_ok-keys.ensures.1 c.in_err-asked.ensures

pub returns : goal.returns
returns c = five_is c.args.text.now c.in_ok-way.rest.now c.in_ok-keys.rest.now c.in_ok-way.way c.in_ok-keys.keys
    (Some (c.in_ok-asked.asked, c.in_ok-asked.labels, c.in_ok-asked.sum)) c.in_ok-way.ensures.0 c.in_ok-way.ensures.1
    c.in_ok-keys.ensures.0 c.in_ok-keys.ensures.1 c.in_ok-asked.ensures
