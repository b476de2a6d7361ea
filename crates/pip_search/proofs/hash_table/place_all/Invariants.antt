use Rattle.std.proofs.Common.{ℕ, ◌<◌, List, length}
use Rattle.pip_search.specs.Cells.{HaveCells, IsSized}
use Rattle.pip_search.proofs.hash_table.place_all.Given as goal

pub record IsPlacing (hashes cells : List ℕ) (at : ℕ) : Type 0 where
  pub sized : IsSized cells
  pub room : length hashes < length cells
  pub have : HaveCells hashes cells at

abbrev pub invariant-loop-at : goal.invariant-loop-at
invariant-loop-at l = IsPlacing l.hashes l.cells l.at
