use Rattle.std.proofs.Common.{◌≡◌, ◌*◌, length}
use Rattle.pip_search.specs.Again.{AreEdges, AreFlags}
use Rattle.pip_search.specs.Filing.{IsFiled}
use Rattle.pip_search.specs.Keys.{visits_of}
use Rattle.pip_search.proofs.again.look_everywhere.Given as goal

-- the choices of the visits before this one were made
abbrev pub invariant-loop-i : goal.invariant-loop-i
invariant-loop-i g l = record {
  base : g.S.System.base l.system ≡ g.S.System.base l.fn.system;
  filed : IsFiled l.edges;
  edges : AreEdges (g.S.System.model (g.S.System.base l.fn.system)) (visits_of l.search) l.width
      l.edges.hashes.items;
  count : length l.edges.hashes.items ≡ l.i * l.width;
  flags : AreFlags (g.S.System.model (g.S.System.base l.fn.system)) (visits_of l.search) l.label l.width
      l.flags.items;
  places : length l.flags.items ≡ l.i;
}
