use Rattle.std.proofs.Common.{◌≡◌}
use Rattle.pip_model.specs.Partitions.{IsHeld}
use Rattle.pip_model.specs.Tree.{Tree}
use Rattle.pip_dump.specs.Walk.{IsCounted}
use Rattle.pip_dump.proofs.sums.totals.Given as goal

-- so much was counted
abbrev pub invariant-loop-i : goal.invariant-loop-i
invariant-loop-i g l = record {
  seen : l.parts ≡ l._i;
  counted : (t : Tree) → IsHeld t (g.M.Frames.memory l.mem) → IsCounted t l.next l.parts l.rows l.hidden;
}
