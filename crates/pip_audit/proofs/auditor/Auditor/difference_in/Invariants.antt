use Rattle.std.proofs.Common.{◌≡◌, ℕ, ◌*◌, ◌<◌, None}
use Rattle.pip_audit.specs.Comparing.{differs_at, role_of}
use Rattle.pip_audit.proofs.auditor.Auditor.difference_in.Given as goal

-- each word of the blocks so far is the wanted one
abbrev pub invariant-loop-b : goal.invariant-loop-b
invariant-loop-b g l = (k : ℕ) → k < 32 * l.b
    → differs_at (g.M.Frames.memory l.mem) l.self l.f (role_of l.role) k ≡ None
