use Rattle.std.proofs.Common.{◌<◌, length, All}
use Rattle.pip_search.specs.Collapsing.{blocks_of}
use Rattle.pip_search.specs.Packing.{unpacked_key}
use Rattle.pip_search.proofs.Collapsed.{Begins}
use Rattle.pip_search.proofs.key_store.KeyStore.is_of.Given as goal

abbrev pub invariant-loop-number : goal.invariant-loop-number
invariant-loop-number l =
    (Begins (blocks_of l.self.blocks) l.rest (unpacked_key l.numbers)
    → Begins (blocks_of l.self.blocks) l.fn.key (unpacked_key l.initial.numbers))
    × ((Begins (blocks_of l.self.blocks) l.fn.key (unpacked_key l.initial.numbers)
    → Begins (blocks_of l.self.blocks) l.rest (unpacked_key l.numbers))
    × All (λ n. n < length (blocks_of l.self.blocks)) (unpacked_key l.numbers))

abbrev pub decreases-loop-number : goal.decreases-loop-number
decreases-loop-number l = length l.numbers
