use Rattle.std.proofs.Common.{◌≡◌, ◌+◌, ◌*◌, ◌≤◌, length}
use Rattle.pip_kern.specs.Hiding.{OnEachChain}
use Rattle.pip_kern.proofs.UserBits.{Setting}
use Rattle.pip_kern.proofs.hiding.set_user_above.Given as goal

-- the bit is set below the partition that comes next
abbrev pub invariant-loop-i : goal.invariant-loop-i
invariant-loop-i g l = record {
  count : length (g.M.Frames.memory l.mem) ≡ length (g.M.Frames.memory l.fn.mem);
  climb : OnEachChain (g.M.Frames.memory l.fn.mem) l.fn.caller l.fn.v (λ t rows r. Setting t rows l.fn.caller r.frame
      l.user (g.M.Frames.memory l.fn.mem) (g.M.Frames.memory l.mem) l.at l.place l._i);
  steps : l.steps ≤ l.fn.steps + 7 * l._i;
}
