use Rattle.std.proofs.Common.{◌≡◌, ◌+◌, ◌<◌, ℕ, slice_index, refl, arith}
use Rattle.pip_search.proofs.Staging.{swept_begin, swept_more}
use Rattle.pip_search.proofs.stages.sweep.Goals as goal
use Rattle.pip_search.proofs.stages.sweep.Goals.{then-gain, else-gain}

pub loop-place-init : goal.loop-place-init
loop-place-init c = swept_begin c.args.targets.now c.args.classes.now c.args.stages.now c.args.width c.args.goal
    c.args.orders.now c.args.order c.requires.below c.requires.ordered

pub gain-requires-clause-count : goal.gain-requires-clause-count
gain-requires-clause-count c = let h = c.loop-place.invariant.count in let k = c.requires.count in omega arith

pub gain-requires-clause-below : goal.gain-requires-clause-below
gain-requires-clause-below c = c.loop-place.invariant.below

pub gain-requires-clause-ordered : goal.gain-requires-clause-ordered
gain-requires-clause-ordered c = c.loop-place.invariant.ordered

pub loop-place-preserved : goal.loop-place-preserved
loop-place-preserved c = elim c.if-gain.branch [
  | then-gain w ↦ swept_more c.args.targets.now c.args.classes.now c.args.stages.now c.args.width c.args.goal
      c.args.orders.now c.loop-place.orders c.gain.new.orders c.args.order c.loop-place.place c.loop-place.some
      c.gain.result c.loop-place.invariant c.gain.ensures c.if-gain.some (λ e. w.some-is)
      (λ e. absurd (cc (e, w.if-gain.true)))
  | else-gain w ↦ swept_more c.args.targets.now c.args.classes.now c.args.stages.now c.args.width c.args.goal
      c.args.orders.now c.loop-place.orders c.gain.new.orders c.args.order c.loop-place.place c.loop-place.some
      c.gain.result c.loop-place.invariant c.gain.ensures c.if-gain.some (λ e. absurd (cc (e, w.if-gain.false)))
      (λ e. w.some-is)
]
