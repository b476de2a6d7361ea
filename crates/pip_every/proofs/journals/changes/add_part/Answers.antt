-- A word that is another is added after its place, and one that is the same is passed.
use Rattle.std.proofs.Common.{◌∙◌, ap, arith, refl}
use Rattle.pip_every.proofs.Adding.{none_yet, put_step, same_step}
use Rattle.pip_every.proofs.journals.changes.add_part.Goals as goal
use Rattle.pip_every.proofs.journals.changes.add_part.Goals.{then-now-i+in_ok-push+in_ok-push-2, else-now-i}

pub loop-i-init : goal.loop-i-init
loop-i-init c a m at_a at_m = none_yet a m _ _ c.args.to.now.items (omega arith)

pub loop-i-preserved : goal.loop-i-preserved
loop-i-preserved c a m at_a at_m = elim c.if-now-i.branch [
  | then-now-i+in_ok-push+in_ok-push-2 w ↦ put_step a m c.args.frame c.args.start c.loop-i.i _ _ c.args.first.now
      c.args.now.now c.args.to.now.items c.loop-i.to.items w.push.new.self.items c.if-now-i.to.items at_a at_m
      c.loop-i.auto.i (omega arith) w.if-now-i.true (omega arith) refl w.in_ok-push.ensures.items
      (ap (λ v. v.items) w.to-is ∙ w.in_ok-push-2.ensures.items)
      (c.loop-i.invariant a m at_a at_m)
  | else-now-i w ↦ same_step a m c.args.frame c.args.start c.loop-i.i c.args.first.now c.args.now.now
      c.args.to.now.items c.loop-i.to.items c.if-now-i.to.items at_a at_m c.loop-i.auto.i (omega arith)
      w.if-now-i.false (ap (λ v. v.items) w.to-is) (c.loop-i.invariant a m at_a at_m)
]
