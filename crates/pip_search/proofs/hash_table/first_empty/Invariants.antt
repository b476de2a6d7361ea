use Rattle.std.proofs.Common.{◌≢◌, ℕ, List, ◌-◌, ◌<◌, ◌≤◌, slice_index}
use Rattle.pip_search.proofs.hash_table.first_empty.Given as goal

pub record IsLooking (cells : List ℕ) (from end cell : ℕ) : Type 0 where
  pub late : from ≤ cell
  pub within : cell ≤ end
  pub full : (c : ℕ) → from ≤ c → c < cell → slice_index cells c ≢ 0

abbrev pub invariant-loop-cell : goal.invariant-loop-cell
invariant-loop-cell l = IsLooking l.cells l.from l.end l.cell

abbrev pub decreases-loop-cell : goal.decreases-loop-cell
decreases-loop-cell l = l.end - l.cell
