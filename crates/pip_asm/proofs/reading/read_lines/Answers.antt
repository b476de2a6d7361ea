use Rattle.std.proofs.Common.{ap, sym, subst, ◌∙◌}
use Rattle.std.proofs.lemmas.Result.{err_from_is_err_and}
use Rattle.pip_model.specs.Grammar.{lines_of}
use Rattle.pip_model.specs.Assembly.{first_pass}
use Rattle.pip_asm.specs.Reading.{Refused, state_of}
use Rattle.pip_asm.proofs.reading.read_lines.Goals as goal

pub returns-in_err-take_line-clause-same : goal.returns-in_err-take_line-clause-same
returns-in_err-take_line-clause-same c =
    let p = err_from_is_err_and c.from_residual.result c.from_residual.ensures.1 in
    rw (p.1, p.2) (subst (λ r. Refused r c.in_err-take_line.field-0.0)
    (ap (first_pass (state_of c.loop-rest.passed) c.loop-rest.number) (sym c.cut_line.ensures.cut)
    ∙ c.loop-rest.invariant.same) (c.in_err-take_line.ensures.same (lines_of c.cut_line.result.1.now)))
