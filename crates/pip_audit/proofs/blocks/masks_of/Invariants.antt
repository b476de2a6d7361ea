use Rattle.std.proofs.Common.{◌≡◌, ℕ, ◌+◌, ◌*◌, ◌<◌, length}
use Rattle.std.specs.Prelude.{slice_index_or}
use Rattle.std.specs.Int.{bit_at}
use Rattle.pip_base.specs.Memory.{word_at}
use Rattle.pip_audit.specs.Blocks.{IsNone}
use Rattle.pip_audit.proofs.blocks.masks_of.Given as goal

-- the masks so far
abbrev pub invariant-loop-b : goal.invariant-loop-b
invariant-loop-b g l =
    (length l.masks ≡ 32)
    × ((b i : ℕ) → b < l.b → i < 32 → bit_at (slice_index_or l.masks b 4294967295) i ≡ 0
    → IsNone l.kind (word_at (g.M.Frames.memory l.mem) l.f (32 * b + i)))
