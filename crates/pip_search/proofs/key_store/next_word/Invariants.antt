use Rattle.std.proofs.Common.{◌≡◌, ◌≤◌, length}
use Rattle.pip_search.specs.Packing.{unpacked_after, unpacked_key}
use Rattle.pip_search.proofs.key_store.next_word.Given as goal

abbrev pub invariant-loop-byte : goal.invariant-loop-byte
invariant-loop-byte l = (unpacked_after l.word l.rest ≡ unpacked_key l.bytes) × (length l.rest ≤ length l.bytes)

abbrev pub decreases-loop-byte : goal.decreases-loop-byte
decreases-loop-byte l = length l.rest
