use Rattle.std.specs.Prelude.{◌≡◌, ℕ, ◌*◌, ◌<◌, None, length, slice_index_or}
use Rattle.pip_tlb.specs.Used.{AreUnused}
use Rattle.pip_tlb.proofs.cache.Cache.empty.Given as goal

-- the places of the numbers so far are empty, as those of numbers that weren't used, and the counts stay
abbrev pub invariant-loop-g : goal.invariant-loop-g
invariant-loop-g l =
    ((k : ℕ) → k < 8 * l.g → slice_index_or l.self.at k None ≡ None)
    × AreUnused l.self.at l.used
    × (length l.self.at ≡ 64)
    × (l.self.hits ≡ l.initial.self.hits)
    × (l.self.misses ≡ l.initial.self.misses)
