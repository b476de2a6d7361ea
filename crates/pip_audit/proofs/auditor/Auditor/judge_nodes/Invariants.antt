use Rattle.std.proofs.Common.{ℕ, ◌<◌}
use Rattle.std.specs.Prelude.{slice_index}
use Rattle.pip_audit.specs.Comparing.{CoversNode, GoesOn, LoadsOnly}
use Rattle.pip_audit.specs.Reading.{IsRead}
use Rattle.pip_audit.proofs.auditor.Auditor.judge_nodes.Given as goal

-- the nodes so far are covered
abbrev pub invariant-loop-x : goal.invariant-loop-x
invariant-loop-x g l =
    IsRead (g.M.Frames.memory l.mem) l.self
    × LoadsOnly l.fn.self l.self
    × GoesOn (g.M.Frames.memory l.mem) l.fn.found l.first
    × ((k : ℕ) → k < l.x → CoversNode (g.M.Frames.memory l.mem) l.first (slice_index l.fn.self.names.items k))
