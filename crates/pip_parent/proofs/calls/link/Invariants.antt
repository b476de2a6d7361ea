use Rattle.std.proofs.Common.{◌≡◌, Some}
use Rattle.pip_model.specs.Worlds.{World, runs_on}
use Rattle.pip_model.specs.declared.processors.Occupant.{Occupant}
use Rattle.pip_parent.specs.Events.{MakesEvents, link_events}
use Rattle.pip_parent.specs.Stages.{CanLink, link_caches, link_words}
use Rattle.pip_parent.proofs.calls.link.Given as goal

abbrev pub invariant-loop-k : goal.invariant-loop-k
invariant-loop-k g l = record {
  linked : (w : World) → g.P.Port.stands l.initial.port w → (r : Occupant) → runs_on w l.cpu ≡ Some r
      → CanLink w.tree r.name l.pool l.first l.stores
      → g.P.Port.stands l.port (record w {
        tree = record w.tree { words = link_words w.tree r.name l.pool l.first l.k };
        caches = link_caches w.tree w.caches l.cpu r.name l.pool l.first l.k;
      });
  work : MakesEvents (g.P.Port.stands l.initial.port) (g.P.Port.stands l.port) (link_events l.cpu l.pool l.first l.k)
      l.initial.steps l.steps;
  count : g.P.Port.count l.port ≡ g.P.Port.count l.initial.port;
}
