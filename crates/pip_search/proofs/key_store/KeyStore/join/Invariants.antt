use Rattle.std.proofs.Common.{◌≡◌, ◌++◌, ◌<◌, length, All}
use Rattle.pip_search.specs.Collapsing.{blocks_of, joined_blocks}
use Rattle.pip_search.specs.Packing.{unpacked_key}
use Rattle.pip_search.proofs.key_store.KeyStore.join.Given as goal

abbrev pub invariant-loop-number : goal.invariant-loop-number
invariant-loop-number l =
    (l.key.items ++ joined_blocks (blocks_of l.self.blocks) (unpacked_key l.rest)
    ≡ joined_blocks (blocks_of l.self.blocks) (unpacked_key l.initial.rest))
    × All (λ n. n < length (blocks_of l.self.blocks)) (unpacked_key l.rest)

abbrev pub decreases-loop-number : goal.decreases-loop-number
decreases-loop-number l = length l.rest
