use Rattle.std.proofs.Common.{ℕ, ◌<◌}
use Rattle.pip_model.specs.NodeWords.{ListPage}
use Rattle.pip_audit.specs.Comparing.{CoversRole, GoesOn}
use Rattle.pip_audit.proofs.auditor.Auditor.judge_list.Given as goal

-- the pages so far are covered
abbrev pub invariant-loop-k : goal.invariant-loop-k
invariant-loop-k g l = GoesOn (g.M.Frames.memory l.mem) l.fn.found l.first
    × ((k : ℕ) → k < l.k → CoversRole (g.M.Frames.memory l.mem) l.first l.self.node.part (ListPage k))
