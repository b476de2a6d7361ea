use Rattle.std.specs.Prelude.{◌≡◌, ℕ, ◌+◌, ◌*◌, ◌<◌, ◌≤◌, None, length, slice_index_or}
use Rattle.pip_tlb.proofs.cache.Cache.empty_eight.Given as goal

-- the places so far are empty, and those that were empty are
abbrev pub invariant-loop-i : goal.invariant-loop-i
invariant-loop-i l =
    ((k : ℕ) → 8 * l.g ≤ k → k < 8 * l.g + l.i → slice_index_or l.self-inside.places k None ≡ None)
    × ((k : ℕ) → slice_index_or l.initial.self-inside.places k None ≡ None
    → slice_index_or l.self-inside.places k None ≡ None)
    × (length l.self-inside.places ≡ 64)
    × (l.self-inside.code ≡ None)
    × (l.self-inside.used ≡ l.initial.self-inside.used)
    × (l.self-inside.hits ≡ l.initial.self-inside.hits)
    × (l.self-inside.misses ≡ l.initial.self-inside.misses)
