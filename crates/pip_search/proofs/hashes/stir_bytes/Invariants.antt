use Rattle.std.proofs.Common.{◌≡◌, drop}
use Rattle.pip_search.specs.Naming.{hash_after}
use Rattle.pip_search.proofs.hashes.stir_bytes.Given as goal

abbrev pub invariant-loop-byte : goal.invariant-loop-byte
invariant-loop-byte l = hash_after l.sum (drop l.byte-index l.bytes) ≡ hash_after l.fn.start l.bytes
