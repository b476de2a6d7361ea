use Rattle.std.proofs.Common.{◌≡◌, ◌++◌, drop}
use Rattle.pip_search.specs.Packing.{packed_key}
use Rattle.pip_search.proofs.packing.pack.Given as goal

abbrev pub invariant-loop-word : goal.invariant-loop-word
invariant-loop-word l = l.bytes.items ++ packed_key (drop l.word-index l.key) ≡ packed_key l.key
