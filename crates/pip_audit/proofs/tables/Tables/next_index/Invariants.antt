use Rattle.std.proofs.Common.{◌≡◌, ℕ, ◌<◌, ◌≤◌, None}
use Rattle.pip_audit.specs.Tables.{held_at}
use Rattle.pip_audit.proofs.tables.Tables.next_index.Given as goal

-- none so far
abbrev pub invariant-loop-d : goal.invariant-loop-d
invariant-loop-d l = (k : ℕ) → l.from ≤ k → k < l.d → held_at l.self k ≡ None
