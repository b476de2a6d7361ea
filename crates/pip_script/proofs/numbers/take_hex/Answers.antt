use Rattle.std.proofs.Common.{arith}
use Rattle.pip_script.proofs.Digits.{below_28}
use Rattle.pip_script.proofs.numbers.take_hex.Goals as goal

pub overflow_mul-value : goal.overflow_mul-value
overflow_mul-value c =
    let b = below_28 c.loop-rest.count c.loop-rest.value
    (omega (arith, c.loop-rest.invariant.few)) c.loop-rest.invariant.small in
    omega arith

pub overflow_add-value : goal.overflow_add-value
overflow_add-value c =
    let b = below_28 c.loop-rest.count c.loop-rest.value
    (omega (arith, c.loop-rest.invariant.few)) c.loop-rest.invariant.small in
    omega (arith, c.in-Some.ensures.small)
