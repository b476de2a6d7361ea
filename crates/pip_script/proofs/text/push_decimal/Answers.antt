use Rattle.pip_script.proofs.Digits.{two_after}
use Rattle.pip_script.proofs.text.push_decimal.Goals as goal

pub returns-then-n-lt10000-clause-bytes : goal.returns-then-n-lt10000-clause-bytes
returns-then-n-lt10000-clause-bytes g c =
    two_after c.args.n _ _ _ _ c.if-n-lt100.false c.if-n-lt10000.true c.push_small-then-n-lt10000.ensures.bytes
    c.push_digit.ensures.bytes c.push_digit-then-n-lt10000.ensures.bytes
