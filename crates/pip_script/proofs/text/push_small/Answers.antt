use Rattle.std.proofs.Common.{◌/◌, arith}
use Rattle.pip_script.proofs.Digits.{last_after, one_after}
use Rattle.pip_script.proofs.text.push_small.Goals as goal

pub returns-then-n-lt10-clause-bytes : goal.returns-then-n-lt10-clause-bytes
returns-then-n-lt10-clause-bytes g c = one_after c.args.n _ _ c.if-n-lt10.true c.push_digit.ensures.bytes

pub returns-clause-bytes : goal.returns-clause-bytes
returns-clause-bytes g c =
    let more = c.if-n-lt10.false in
    let small = c.requires.small in
    last_after c.args.n _ _ _ more (omega (arith, small)) (one_after (c.args.n / 10) _ _
    (omega (arith, small)) c.push_digit-2.ensures.bytes) c.push_digit-3.ensures.bytes
