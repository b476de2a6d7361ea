use Rattle.std.proofs.Common.{◌≡◌, ℕ, ◌*◌, ◌<◌, ◌≤◌, None}
use Rattle.pip_audit.specs.Comparing.{differs_at, role_of}
use Rattle.pip_audit.proofs.auditor.Auditor.difference_in_block.Given as goal

-- each word of the block so far is the wanted one
abbrev pub invariant-loop-i : goal.invariant-loop-i
invariant-loop-i g l = (k : ℕ) → 32 * l.b ≤ k → k < l.i
    → differs_at (g.M.Frames.memory l.mem) l.self l.f (role_of l.role) k ≡ None
