use Rattle.std.proofs.Common.{◌≡◌, ℕ, ◌+◌, ◌*◌, ◌<◌}
use Rattle.std.specs.Int.{bit_at}
use Rattle.pip_base.specs.Memory.{word_at}
use Rattle.pip_audit.specs.Blocks.{IsNone}
use Rattle.pip_audit.proofs.blocks.mask_of.Given as goal

-- each word so far whose bit is 0 is not of the kind
abbrev pub invariant-loop-i : goal.invariant-loop-i
invariant-loop-i g l = (k : ℕ) → k < l.i → bit_at l.mask k ≡ 0
    → IsNone l.kind (word_at (g.M.Frames.memory l.mem) l.f (32 * l.b + k))
