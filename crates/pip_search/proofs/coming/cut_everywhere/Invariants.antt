use Rattle.std.proofs.Common.{◌≡◌, ◌*◌, length}
use Rattle.pip_search.specs.Comes.{AreCutEdges}
use Rattle.pip_search.specs.Keys.{visits_of}
use Rattle.pip_search.proofs.coming.cut_everywhere.Given as goal

-- the choices of the visits before this one were made
abbrev pub invariant-loop-i : goal.invariant-loop-i
invariant-loop-i g l = record {
  base : g.S.System.base l.system ≡ g.S.System.base l.fn.system;
  cut : AreCutEdges (g.S.System.model (g.S.System.base l.fn.system)) (visits_of l.search) l.label
      (g.S.System.model (g.S.System.base l.fn.system)).choices l.targets.items;
  count : length l.targets.items ≡ l.i * (g.S.System.model (g.S.System.base l.fn.system)).choices;
}
