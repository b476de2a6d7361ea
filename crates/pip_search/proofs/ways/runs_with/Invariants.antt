use Rattle.std.proofs.Common.{◌≡◌, ◌-◌, ◌<◌, ◌++◌, ◌∷◌, length}
use Rattle.std.specs.Prelude.{Some, slice_get}
use Rattle.pip_search.specs.Ways.{run_before, run_of, runs_of, way_to}
use Rattle.pip_search.specs.declared.visits.Visit.{Visit}
use Rattle.pip_search.proofs.ways.runs_with.Given as goal

abbrev pub invariant-loop-j : goal.invariant-loop-j
invariant-loop-j l = record {
  place : l.j < length l.search.visits.items;
  above : (u : Visit) → slice_get l.search.visits.items l.j ≡ Some u → u.depth < l.end;
  joined : (u : Visit) → slice_get l.search.visits.items l.j ≡ Some u
      → l.runs.items ++ run_before (run_of l.last (l.end - u.depth)) (runs_of (way_to l.search.visits.items l.j))
      ≡ runs_of (l.choice ∷ way_to l.search.visits.items l.at);
}

abbrev pub decreases-loop-j : goal.decreases-loop-j
decreases-loop-j l = l.j
