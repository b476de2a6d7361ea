use Rattle.std.proofs.Common.{◌≡◌, ℕ, ◌%◌, ◌<◌, ◌≤◌, slice_index}
use Rattle.pip_search.proofs.coming.most_of.Given as goal

abbrev pub invariant-loop-cell : goal.invariant-loop-cell
invariant-loop-cell l = (e : ℕ) → e < l.cell → e % l.columns ≡ l.column → slice_index l.ranks e ≤ l.most
