use Rattle.std.proofs.Common.{◌≡◌, length}
use Rattle.pip_model.specs.DisText.{without_last_zeros}
use Rattle.pip_asm.proofs.dis.lines.trim.Given as goal

abbrev pub invariant-loop-last : goal.invariant-loop-last
invariant-loop-last l = without_last_zeros l.rest ≡ without_last_zeros l.words

abbrev pub decreases-loop-last : goal.decreases-loop-last
decreases-loop-last l = length l.rest
