use Rattle.std.proofs.Common.{◌∙◌, ap, length, arith}
use Rattle.pip_every.proofs.Saying.{classes_count}
use Rattle.pip_every.proofs.comes.say.Goals as goal

pub must_come-requires-clause-classes : goal.must_come-requires-clause-classes
must_come-requires-clause-classes g c =
    omega (arith, ap length (c.as_slice-2.ensures.value ∙ c.in_ok-classes.ensures) ∙ classes_count c.args.width)
