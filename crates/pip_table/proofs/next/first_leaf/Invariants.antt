use Rattle.std.proofs.Common.{◌≡◌, ℕ, ◌<◌, ◌≤◌, ◌+◌, ◌*◌}
use Rattle.pip_table.specs.Table.{leaf_or_0, tables_below}
use Rattle.pip_table.proofs.next.first_leaf.Given as goal

-- each word so far is 0, and only the words of tables were read
abbrev pub invariant-loop-i : goal.invariant-loop-i
invariant-loop-i g l =
    ((v : ℕ) → l.from ≤ v → v < 1024 * l.i → leaf_or_0 (g.M.Frames.memory l.mem) l.top v ≡ 0)
    × (l.steps ≤ l.initial.steps + l.i + 1024 * tables_below (g.M.Frames.memory l.mem) l.top l.i)
