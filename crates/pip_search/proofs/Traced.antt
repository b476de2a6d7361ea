-- What a search found can be traced back.
use Rattle.std.proofs.Common.{ℕ, inl, inr, List}
use Rattle.pip_search.specs.Systems.{Model}
use Rattle.pip_search.specs.Exploring.{IsExploring}
use Rattle.pip_search.specs.Ways.{AreTraced}
use Rattle.pip_search.specs.Keys.{Keyed, step_of, steps_of}
use Rattle.pip_search.specs.declared.found.Found.{Found}
use Rattle.pip_search.proofs.Picking.{at_map, map_at}

pub are_traced : (m : Model) (start : List ℕ) (vs : List Keyed) (fs : List Found) (i c : ℕ)
    → IsExploring m start vs fs i c → AreTraced (steps_of vs) fs
are_traced m start vs fs i c h = record {
  visits = λ j u e. let (v, (at, same)) = at_map step_of vs j u e in
      rw (← same) (elim (h.visits j v at) [
        | inl first ↦ inl (first.zero_th, first.root)
        | inr child ↦ inr
            (record {
              from = step_of child.from;
              at = map_at step_of vs v.parent child.from child.at;
              earlier
                  = child.earlier;
              depth = child.depth;
              run = child.run;
            })
      ]);
  labels = λ k f e. let s = h.labels k f e in
      record { from = step_of s.from; at = map_at step_of vs f.at s.from s.at; depth = s.depth };
}
