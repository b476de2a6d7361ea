use Rattle.std.proofs.Common.{◌≡◌, take}
use Rattle.pip_search.specs.Systems.{LeadsAlong}
use Rattle.pip_search.proofs.system.System.follow.Given as goal

abbrev pub invariant-loop-choice : goal.invariant-loop-choice
invariant-loop-choice g l = record {
  base : g.Self.System.base l.self ≡ g.Self.System.base l.fn.self;
  leads : LeadsAlong (g.Self.System.model (g.Self.System.base l.fn.self)) l.from (take l.choice-index l.way) l.to.items;
}
