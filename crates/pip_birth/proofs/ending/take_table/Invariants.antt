use Rattle.std.proofs.Common.{◌≡◌, ◌+◌, ◌*◌, ◌-◌, ◌≤◌, length}
use Rattle.pip_birth.specs.Ending.{CountsCleared, EndsEachChild}
use Rattle.pip_birth.proofs.ending.take_table.Given as goal

-- the pages so far have come back
abbrev pub invariant-loop-j : goal.invariant-loop-j
invariant-loop-j g l = record {
  count : length (g.M.Frames.memory l.mem) ≡ length (g.M.Frames.memory l.fn.mem);
  high : l.k ≤ 1024;
  ended : EndsEachChild l.fn.caller l.fn.born (1024 * l.fn.i) (1024 * l.fn.i + l.k) (g.M.Frames.memory l.fn.mem)
      (g.M.Frames.memory l.mem);
  cleared : CountsCleared l.fn.caller l.fn.born (1024 * l.fn.i) (1024 * l.fn.i + l.k)
      (g.M.Frames.memory l.fn.mem) (l.fn.steps + 4) l.steps;
}

abbrev pub decreases-loop-j : goal.decreases-loop-j
decreases-loop-j g l = 1024 - l.k
