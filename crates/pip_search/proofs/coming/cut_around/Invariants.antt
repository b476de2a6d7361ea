use Rattle.std.proofs.Common.{◌≡◌, ◌+◌, ◌*◌, length}
use Rattle.pip_search.specs.Comes.{AreCutEdges}
use Rattle.pip_search.specs.Keys.{IsAtHand, visits_of}
use Rattle.pip_search.proofs.coming.cut_around.Given as goal

-- the choices before this one were made
abbrev pub invariant-loop-choice : goal.invariant-loop-choice
invariant-loop-choice g l = record {
  base : g.S.System.base l.system ≡ g.S.System.base l.fn.system;
  hand : IsAtHand (visits_of l.search) l.i l.buffers.from.items;
  cut : AreCutEdges (g.S.System.model (g.S.System.base l.fn.system)) (visits_of l.search) l.label
      (g.S.System.model (g.S.System.base l.fn.system)).choices l.targets.items;
  count : length l.targets.items ≡ l.i * (g.S.System.model (g.S.System.base l.fn.system)).choices + l.choice;
}
