use Rattle.std.proofs.Common.{◌≡◌, ◌≤◌}
use Rattle.std.specs.Prelude.{slice_get, vec_len}
use Rattle.pip_search.specs.Fresh.{AreFresh}
use Rattle.pip_search.specs.Keys.{IsAtHand, visits_of}
use Rattle.pip_search.specs.Searching.{IsSearching}
use Rattle.pip_search.proofs.searching.expand.Given as goal

abbrev pub invariant-loop-choice : goal.invariant-loop-choice
invariant-loop-choice g l = record {
  base : g.S.System.base l.system ≡ g.S.System.base l.fn.system;
  searching : IsSearching (g.S.System.model (g.S.System.base l.fn.system)) l.start l.search l.i l.choice;
  hand : IsAtHand (visits_of l.search) l.i l.buffers.from.items;
  fresh : AreFresh (visits_of l.search) l.buffers.fresh l.buffers.to.items;
  same : slice_get (visits_of l.search) l.i ≡ slice_get (visits_of l.fn.search) l.i;
  grows : vec_len l.fn.search.visits ≤ vec_len l.search.visits;
  room : vec_len l.search.visits ≤ l.limit;
}
