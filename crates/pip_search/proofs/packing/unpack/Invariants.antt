use Rattle.std.proofs.Common.{◌≡◌, ◌++◌, drop}
use Rattle.pip_search.specs.Packing.{unpacked_key, unpacked_after}
use Rattle.pip_search.proofs.packing.unpack.Given as goal

abbrev pub invariant-loop-byte : goal.invariant-loop-byte
invariant-loop-byte l = l.key.items ++ unpacked_after l.word (drop l.byte-index l.bytes) ≡ unpacked_key l.bytes
