use Rattle.std.proofs.Common.{rules}
use Rattle.pip_search.proofs.Staging.{taken_none, taken_set}
use Rattle.pip_search.proofs.stages.retire_at.Goals as goal

pub returns : goal.returns
returns c = taken_set c.args.orders.now c.args.stage c.args.stages.now c.args.place c.requires.some c.requires.low
    (search rules) (search rules)
