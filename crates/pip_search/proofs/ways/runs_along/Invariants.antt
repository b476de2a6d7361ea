use Rattle.std.proofs.Common.{◌≡◌, reverse, take}
use Rattle.pip_search.specs.Ways.{runs_of}
use Rattle.pip_search.proofs.ways.runs_along.Given as goal

-- those of the choices before this one
abbrev pub invariant-loop-choice : goal.invariant-loop-choice
invariant-loop-choice l = l.runs.items ≡ reverse (runs_of (reverse (take l.choice-index l.choices)))
