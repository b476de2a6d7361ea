use Rattle.std.proofs.Common.{◌≡◌, ℕ, ◌+◌, ◌*◌, ◌/◌, ◌%◌, ◌<◌, ◌≤◌, None}
use Rattle.pip_audit.specs.Tables.{row_sought, tables_in}
use Rattle.pip_audit.proofs.tables.Tables.next_in_block.Given as goal

-- no row that is sought so far
abbrev pub invariant-loop-k : goal.invariant-loop-k
invariant-loop-k g l =
    (l.fn.from % 32 ≤ l.k)
    × ((v : ℕ) → l.fn.from ≤ v → v < l.fn.from / 32 * 32 + l.k
    → row_sought l.fn.sought (g.M.Frames.memory l.mem) (tables_in (g.M.Frames.memory l.mem) l.fn.self.part) v ≡ None)
