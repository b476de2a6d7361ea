use Rattle.pip_search.proofs.Staging.{swept_none, swept_set}
use Rattle.pip_search.proofs.stages.gain.Goals as goal

pub returns-then-not-gains : goal.returns-then-not-gains
returns-then-not-gains c = swept_none c.args.targets.now c.args.classes.now c.args.stages.now c.args.width c.args.goal
    c.args.orders.now c.args.place c.args.order c.requires.below c.requires.ordered
    (c.gains.ensures.no c.if-not-gains.true)

pub returns : goal.returns
returns c = swept_set c.args.targets.now c.args.classes.now c.args.stages.now c.args.width c.args.goal
    c.args.orders.now c.args.place c.args.order c.requires.some c.requires.count c.requires.below c.requires.ordered
    (c.gains.ensures.left c.if-not-gains.false) (c.gains.ensures.none c.if-not-gains.false)
    (c.gains.ensures.step c.if-not-gains.false)
