use Rattle.std.proofs.Common.{◌≡◌, ℕ, ◌*◌, ◌<◌, ◌≤◌, None}
use Rattle.pip_audit.specs.Tables.{held_at}
use Rattle.pip_audit.proofs.tables.Tables.has_none_in.Given as goal

-- none so far
abbrev pub invariant-loop-i : goal.invariant-loop-i
invariant-loop-i l = (k : ℕ) → 32 * l.b ≤ k → k < l.i → held_at l.self k ≡ None
