use Rattle.std.proofs.Common.{◌≡◌}
use Rattle.pip_away.specs.Blind.{left_out}
use Rattle.pip_every.specs.Explored.{explored}
use Rattle.pip_every.specs.Keys.{IsKeyOf}
use Rattle.pip_every.specs.Moments.{Moment}
use Rattle.pip_every.specs.Passing.{PassesUpTo}
use Rattle.pip_every.proofs.away.first_cpu.Given as goal

-- it passes on the processors before this one
abbrev pub invariant-loop-cpu : goal.invariant-loop-cpu
invariant-loop-cpu g l = record {
  base : explored l.explorer ≡ explored l.fn.explorer;
  passes : (m : Moment) → IsKeyOf g.F.First.words (explored l.fn.explorer).scope l.key m
      → PassesUpTo (left_out l.blind) (explored l.fn.explorer) m.world l.cpu;
}
