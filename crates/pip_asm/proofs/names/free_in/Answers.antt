use Rattle.std.proofs.Common.{◌<◌, ◌+◌, ◌∙◌, ap, sym, arith, length}
use Rattle.pip_asm.specs.Names.{has_free}
use Rattle.pip_asm.proofs.Naming.{free-end, free-next, free-there}
use Rattle.pip_asm.proofs.names.free_in.Goals as goal

pub loop-i-init : goal.loop-i-init
loop-i-init c = ap (has_free c.args.slots.now c.args.home) (omega arith)

pub returns-then-slots-i-eq0 : goal.returns-then-slots-i-eq0
returns-then-slots-i-eq0 c =
    let inside : c.loop-i.i < length c.args.slots.now = omega arith in
    (c.loop-i.auto.i, c.loop-i-test.true, free-there c.args.slots.now c.loop-i.i _ inside c.if-slots-i-eq0.true)

pub loop-i-preserved : goal.loop-i-preserved
loop-i-preserved c =
    let inside : c.loop-i.i < length c.args.slots.now = omega arith in
    rw (← free-next c.args.slots.now c.loop-i.i (c.args.home + 8) _ inside c.loop-i-test.true c.if-slots-i-eq0.false)
    c.loop-i.invariant

pub returns : goal.returns
returns c = sym c.loop-i.invariant ∙ free-end c.args.slots.now c.loop-i.i (c.args.home + 8) c.loop-i-test.false
