use Rattle.std.proofs.Common.{◌≡◌, ◌+◌, ◌*◌, Some, length, slice_get}
use Rattle.pip_search.specs.Again.{AreEdges, IsShownAmong}
use Rattle.pip_search.specs.Filing.{IsFiled}
use Rattle.pip_search.specs.Keys.{IsAtHand, Keyed, key_of, visits_of}
use Rattle.pip_search.proofs.again.look_around.Given as goal

-- the choices before this one were made
abbrev pub invariant-loop-choice : goal.invariant-loop-choice
invariant-loop-choice g l = record {
  base : g.S.System.base l.system ≡ g.S.System.base l.fn.system;
  hand : IsAtHand (visits_of l.search) l.i l.buffers.from.items;
  filed : IsFiled l.edges;
  edges : AreEdges (g.S.System.model (g.S.System.base l.fn.system)) (visits_of l.search) l.width
      l.edges.hashes.items;
  count : length l.edges.hashes.items ≡ l.i * l.width + l.choice;
  flag : (u : Keyed) → slice_get (visits_of l.search) l.i ≡ Some u
      → IsShownAmong (g.S.System.model (g.S.System.base l.fn.system)) (key_of u) l.label l.choice l.shows;
}
