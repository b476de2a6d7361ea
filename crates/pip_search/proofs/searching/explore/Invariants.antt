use Rattle.std.proofs.Common.{◌≡◌, ◌-◌, ◌≤◌}
use Rattle.std.specs.Prelude.{vec_len}
use Rattle.pip_search.specs.Fresh.{AreFresh}
use Rattle.pip_search.specs.Searching.{IsSearching}
use Rattle.pip_search.specs.Keys.{visits_of}
use Rattle.pip_search.proofs.Ending.{IsShallow}
use Rattle.pip_search.proofs.searching.explore.Given as goal

abbrev pub invariant-loop-i : goal.invariant-loop-i
invariant-loop-i g l = record {
  base : g.S.System.base l.system ≡ g.S.System.base l.fn.system;
  searching : IsSearching (g.S.System.model (g.S.System.base l.fn.system)) l.start l.search l.i 0;
  shallow : IsShallow (visits_of l.search) l.i l.most;
  fresh : AreFresh (visits_of l.search) l.buffers.fresh l.buffers.to.items;
  room : vec_len l.search.visits ≤ l.limit;
}

abbrev pub decreases-loop-i : goal.decreases-loop-i
decreases-loop-i g l = l.limit - l.i
