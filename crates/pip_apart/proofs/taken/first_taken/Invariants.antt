use Rattle.std.proofs.Common.{◌≡◌, None}
use Rattle.pip_model.specs.Partitions.{InEach}
use Rattle.pip_apart.specs.Tops.{first_before, might_take}
use Rattle.pip_apart.proofs.taken.first_taken.Given as goal

-- none so far
abbrev pub invariant-loop-line : goal.invariant-loop-line
invariant-loop-line g l =
    InEach (g.M.Frames.memory l.mem) 1 (λ t x. first_before (might_take t) l.line ≡ None)
