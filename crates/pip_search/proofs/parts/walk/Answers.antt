-- A way leads to a key that is reached by as many choices.
use Rattle.std.proofs.Common.{◌<◌, All, rules}
use Rattle.pip_search.proofs.Following.{reached_along}
use Rattle.pip_search.proofs.parts.walk.Goals as goal

pub returns-clause-reached : goal.returns-clause-reached
returns-clause-reached g c can =
    let m = g.S.System.model (g.S.System.base c.args.system.now) in
    let all : All (λ k. k < m.choices) c.args.way.now = search rules in
    reached_along m c.args.start.now c.args.way.now c.follow.new.to.items all c.in_ok-follow.ensures.leads
