use Rattle.std.proofs.Common.{◌<◌, ◌+◌, ◌∙◌, ap, sym, arith, length}
use Rattle.pip_asm.specs.Names.{found_in}
use Rattle.pip_asm.proofs.Naming.{found-end, found-here, found-next}
use Rattle.pip_asm.proofs.names.found_in.Goals as goal

pub loop-i-init : goal.loop-i-init
loop-i-init c = ap (found_in c.args.slots.now c.args.mark c.args.name.now c.args.home) (omega arith)

pub returns-then-is : goal.returns-then-is
returns-then-is c =
    let inside : c.loop-i.i < length c.args.slots.now = omega arith in
    rw (← found-here c.args.slots.now c.args.mark c.args.name.now c.loop-i.i (c.args.home + 8) _ inside
    c.loop-i-test.true (sym c.is.ensures ∙ c.if-is.true)) c.loop-i.invariant

pub loop-i-preserved : goal.loop-i-preserved
loop-i-preserved c =
    let inside : c.loop-i.i < length c.args.slots.now = omega arith in
    rw (← found-next c.args.slots.now c.args.mark c.args.name.now c.loop-i.i (c.args.home + 8) _ inside
    c.loop-i-test.true (sym c.is.ensures ∙ c.if-is.false)) c.loop-i.invariant

pub returns : goal.returns
returns c =
    rw (← found-end c.args.slots.now c.args.mark c.args.name.now c.loop-i.i (c.args.home + 8) c.loop-i-test.false)
    c.loop-i.invariant
