use Rattle.std.proofs.Common.{◌≡◌, map, take}
use Rattle.pip_every.specs.Told.{runs_to}
use Rattle.pip_every.proofs.texts.ways.ways_of.Given as goal

abbrev pub invariant-loop-k : goal.invariant-loop-k
invariant-loop-k l = map (λ way. way.items) l.ways.items
    ≡ runs_to l.fn.search.visits.items (take l.k l.fn.search.found.items)
