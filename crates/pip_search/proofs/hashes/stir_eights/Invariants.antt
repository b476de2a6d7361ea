use Rattle.std.proofs.Common.{◌≡◌, length}
use Rattle.pip_search.specs.Naming.{hash_by_eights}
use Rattle.pip_search.proofs.hashes.stir_eights.Given as goal

abbrev pub invariant-loop-eight : goal.invariant-loop-eight
invariant-loop-eight l = hash_by_eights l.sum l.rest ≡ hash_by_eights l.fn.start l.bytes

abbrev pub decreases-loop-eight : goal.decreases-loop-eight
decreases-loop-eight l = length l.rest
