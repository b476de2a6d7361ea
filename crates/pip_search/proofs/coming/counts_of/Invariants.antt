use Rattle.std.proofs.Common.{◌≡◌, ℕ, ◌<◌, ◌≤◌, length, slice_index}
use Rattle.pip_search.specs.Comes.{rank_at}
use Rattle.pip_search.proofs.coming.counts_of.Given as goal

abbrev pub invariant-loop-column : goal.invariant-loop-column
invariant-loop-column l = record {
  count : length l.counts.items ≡ l.column;
  most : (j d : ℕ) → d < l.column → rank_at l.ranks l.columns j d ≤ slice_index l.counts.items d;
}
