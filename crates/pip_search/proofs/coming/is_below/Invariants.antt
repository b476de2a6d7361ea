use Rattle.std.proofs.Common.{ℕ, ◌<◌, ◌≤◌}
use Rattle.pip_search.specs.Comes.{rank_at}
use Rattle.pip_search.proofs.coming.is_below.Given as goal

abbrev pub invariant-loop-column : goal.invariant-loop-column
invariant-loop-column l = (k : ℕ) → k < l.column → rank_at l.ranks l.columns l.to k ≤ rank_at l.ranks l.columns l.from k
