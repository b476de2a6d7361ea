use Rattle.std.proofs.Common.{◌≡◌, ◌*◌, ◌-◌, ◌≤◌, length}
use Rattle.pip_birth.specs.Ending.{CountsWalked, EndsEachChild}
use Rattle.pip_birth.proofs.ending.take_tables.Given as goal

-- the pages in the tables so far have come back
abbrev pub invariant-loop-i : goal.invariant-loop-i
invariant-loop-i g l = record {
  count : length (g.M.Frames.memory l.mem) ≡ length (g.M.Frames.memory l.fn.mem);
  high : l.from ≤ 1024;
  ended : EndsEachChild l.fn.caller l.fn.born 0 (1024 * l.from) (g.M.Frames.memory l.fn.mem) (g.M.Frames.memory l.mem);
  walked : CountsWalked l.fn.caller l.fn.born l.from (g.M.Frames.memory l.fn.mem) l.fn.steps l.steps;
}

abbrev pub decreases-loop-i : goal.decreases-loop-i
decreases-loop-i g l = 1024 - l.from
