-- The next word of a table of two levels that isn't 0.
use Rattle.std.specs.Prelude.{◌≡◌, ◌≢◌, ℕ, ◌+◌, ◌<◌, ◌≤◌, ◌^◌, Option, Some, None}
use Rattle.pip_base.specs.Memory.{Memory}
use Rattle.pip_table.specs.Table.{leaf_at, leaf_or_0}

-- the least vpage from a number to below another whose word isn't 0, with this word; or none, where there is none
abbrev pub IsFirstLeaf : Memory → ℕ → ℕ → ℕ → Option (ℕ × ℕ) → Type 0
IsFirstLeaf m top from end None = (v : ℕ) → from ≤ v → v < end → leaf_or_0 m top v ≡ 0
IsFirstLeaf m top from end (Some r) =
    (from ≤ r.0) × (r.0 < end) × (leaf_at m top r.0 ≡ Some r.1) × (r.1 ≢ 0)
    × ((v : ℕ) → from ≤ v → v < r.0 → leaf_or_0 m top v ≡ 0)

-- where the vpages above one begin. Above none are all
abbrev pub start_above : Option ℕ → ℕ
start_above None = 0
start_above (Some v) = v + 1

-- the first vpage above one whose word isn't 0, with that word; or none
abbrev pub IsNextLeaf : Memory → ℕ → Option ℕ → Option (ℕ × ℕ) → Type 0
IsNextLeaf m top after next = IsFirstLeaf m top (start_above after) (2 ^ 20) next
