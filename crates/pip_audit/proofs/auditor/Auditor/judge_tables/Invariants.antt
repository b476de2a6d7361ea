use Rattle.std.proofs.Common.{ℕ, ◌<◌}
use Rattle.pip_model.specs.NodeWords.{TablePage}
use Rattle.pip_audit.specs.Comparing.{CoversRole, GoesOn}
use Rattle.pip_audit.proofs.auditor.Auditor.judge_tables.Given as goal

-- the tables so far are covered
abbrev pub invariant-loop-d : goal.invariant-loop-d
invariant-loop-d g l = GoesOn (g.M.Frames.memory l.mem) l.fn.found l.first × ((d : ℕ) → d < l.d
    → CoversRole (g.M.Frames.memory l.mem) l.first l.self.node.part (TablePage l.level d))
