use Rattle.std.proofs.Common.{◌+◌, ◌≤◌}
use Rattle.pip_model.specs.Partitions.{HasPartition, InEach}
use Rattle.pip_kern.proofs.Climb.{Climb}
use Rattle.pip_kern.proofs.nodes.is_below.Given as goal

-- a number of steps up the chain without meeting top
abbrev pub invariant-loop-i : goal.invariant-loop-i
invariant-loop-i g l = record {
  stands : HasPartition (g.M.Frames.memory l.mem) l.at;
  climb : InEach (g.M.Frames.memory l.mem) l.fn.part (λ t x. Climb t l.fn.part l.top l.at l._i);
  steps : l.steps ≤ l.fn.steps + l._i;
}
