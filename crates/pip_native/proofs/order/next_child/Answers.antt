use Rattle.std.proofs.Common.{◌∙◌, ne_eqb}
use Rattle.pip_native.proofs.Following.{first_later}
use Rattle.pip_native.proofs.order.next_child.Goals as goal

pub loop-before-preserved : goal.loop-before-preserved
loop-before-preserved c = c.loop-before.invariant ∙ first_later c.args.n c.args.alive c.args.last c.loop-before.before
    c.loop-before-test.true (ne_eqb _ _ c.if-alive-i-eq1.false)
