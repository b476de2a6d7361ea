use Rattle.std.proofs.Common.{◌≡◌, ◌-◌}
use Rattle.pip_soak.specs.Soaked.{IsMidway}
use Rattle.pip_soak.proofs.load.soak_load.Given as goal

-- that many steps are left of the load
abbrev pub invariant-loop-i : goal.invariant-loop-i
invariant-loop-i g l = record {
  processors : g.P.Port.count l.port ≡ g.P.Port.count l.initial.port;
  midway : IsMidway (g.P.Port.stands l.initial.port) (g.P.Port.stands l.port) l.initial.counts l.counts
      (l.count - l._i) l.generator l.count l.seed;
}
