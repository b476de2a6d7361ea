use Rattle.std.proofs.Common.{length, arith}
use Rattle.pip_search.proofs.Staging.{stages_pass}
use Rattle.pip_search.proofs.stages.conclude.Goals as goal

pub ranks_of-requires-clause-some : goal.ranks_of-requires-clause-some
ranks_of-requires-clause-some c = let h = c.requires.columns 0 in omega arith

pub returns-in_ok-helpers-in-None : goal.returns-in_ok-helpers-in-None
returns-in_ok-helpers-in-None c = stages_pass c.args.targets.now c.args.classes.now c.args.width c.args.columns
    (length c.args.stages.now) c.args.stages.now c.args.goals.now c.in_ok-ranks-in-None.ranks.items
    c.in_ok-helpers-in-None.helpers.items c.requires.places c.requires.some c.requires.columns c.requires.staged
    c.in-None.ensures c.in_ok-ranks-in-None.ensures c.in_ok-helpers-in-None.ensures c.requires.inside
