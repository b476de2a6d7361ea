use Rattle.std.proofs.Common.{◌≡◌, ℕ, ◌<◌, true}
use Rattle.std.specs.Prelude.{bit_and, slice_index}
use Rattle.pip_audit.proofs.blocks.are_apart.Given as goal

-- no word so far is in both
abbrev pub invariant-loop-b : goal.invariant-loop-b
invariant-loop-b l = l.apart ≡ true → (k : ℕ) → k < l.b → bit_and (slice_index l.xs k) (slice_index l.ys k) ≡ 0
