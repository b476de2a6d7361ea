use Rattle.std.proofs.Common.{◌≡◌, ◌==◌, ◌&&◌, drop}
use Rattle.std.specs.Prelude.{find}
use Rattle.pip_away.specs.Blind.{is_table}
use Rattle.pip_away.proofs.blind.Blind.entry_owner.Given as goal

-- those after the entries that were looked at decide
abbrev pub invariant-loop-k : goal.invariant-loop-k
invariant-loop-k l = find (λ e. e.vector == l.index && is_table l.self.rows.items e.name l.page) l.self.entries.items
    ≡ find (λ e. e.vector == l.index && is_table l.self.rows.items e.name l.page) (drop l.k l.self.entries.items)
