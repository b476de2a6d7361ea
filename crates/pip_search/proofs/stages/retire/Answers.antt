use Rattle.pip_search.proofs.Staging.{taken_begin, taken_more}
use Rattle.pip_search.proofs.stages.retire.Goals as goal
use Rattle.pip_search.proofs.stages.retire.Goals.{then-retire_at, else-retire_at}

pub loop-place-init : goal.loop-place-init
loop-place-init c = taken_begin c.args.orders.now c.args.stage c.args.stages.now

pub loop-place-preserved : goal.loop-place-preserved
loop-place-preserved c = elim c.if-retire_at.branch [
  | then-retire_at w ↦ taken_more c.args.orders.now c.args.stage c.args.stages.now c.loop-place.stages
      c.retire_at.new.stages c.loop-place.place c.loop-place.some c.retire_at.result c.loop-place.invariant
      c.retire_at.ensures c.if-retire_at.some (λ e. w.some-is) (λ e. absurd (cc (e, w.if-retire_at.true)))
  | else-retire_at w ↦ taken_more c.args.orders.now c.args.stage c.args.stages.now c.loop-place.stages
      c.retire_at.new.stages c.loop-place.place c.loop-place.some c.retire_at.result c.loop-place.invariant
      c.retire_at.ensures c.if-retire_at.some (λ e. absurd (cc (e, w.if-retire_at.false))) (λ e. w.some-is)
]
