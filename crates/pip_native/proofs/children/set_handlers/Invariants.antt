use Rattle.std.proofs.Common.{◌≡◌}
use Rattle.pip_model.specs.Worlds.{World}
use Rattle.pip_native.specs.Watching.{with_handlers}
use Rattle.pip_native.proofs.children.set_handlers.Given as goal

abbrev pub invariant-loop-k : goal.invariant-loop-k
invariant-loop-k g l = record {
  world : (w : World) → g.P.Port.stands l.fn.port w → g.P.Port.stands l.port (with_handlers w l.k);
  count : g.P.Port.count l.port ≡ g.P.Port.count l.fn.port;
}
