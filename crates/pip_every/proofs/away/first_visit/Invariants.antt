use Rattle.std.proofs.Common.{◌≡◌}
use Rattle.pip_away.specs.Blind.{left_out}
use Rattle.pip_search.specs.Keys.{visits_of}
use Rattle.pip_every.specs.Explored.{explored}
use Rattle.pip_every.specs.Passing.{PassBefore}
use Rattle.pip_every.proofs.away.first_visit.Given as goal

-- the visits before this one pass
abbrev pub invariant-loop-place : goal.invariant-loop-place
invariant-loop-place g l = record {
  base : explored l.explorer ≡ explored l.fn.explorer;
  passes : PassBefore g.F.First.words (left_out l.blind) (explored l.fn.explorer) (visits_of l.search) l.place;
}
