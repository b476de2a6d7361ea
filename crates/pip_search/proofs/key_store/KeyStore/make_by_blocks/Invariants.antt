use Rattle.std.proofs.Common.{◌≡◌, ◌++◌, List, ℕ, length}
use Rattle.pip_search.specs.Collapsing.{IsExtended, blocks_of}
use Rattle.pip_search.specs.Naming.{AreNamed}
use Rattle.pip_search.proofs.Collapsed.{IsBegun}
use Rattle.pip_search.proofs.key_store.KeyStore.make_by_blocks.Given as goal

-- the entry is of the bytes before the rest
abbrev pub invariant-loop-block : goal.invariant-loop-block
invariant-loop-block l = record {
  named : AreNamed (blocks_of l.self.blocks) l.self.blocks.table;
  extended : IsExtended (blocks_of l.fn.self.blocks) (blocks_of l.self.blocks);
  entries : l.self.entries ≡ l.fn.self.entries;
  bytes : List ℕ;
  begun : IsBegun (blocks_of l.self.blocks) (length l.key) bytes l.self.entry.items;
  cut : bytes ++ l.rest ≡ l.key;
}

abbrev pub decreases-loop-block : goal.decreases-loop-block
decreases-loop-block l = length l.rest
