-- The totals of a tree, as numbers that are counted.
use Rattle.std.specs.Prelude.{◌≡◌}
use Rattle.pip_model.specs.Dump.{hidden_of, parts_of, rows_of}
use Rattle.pip_model.specs.Tree.{Tree}
use Rattle.pip_dump.specs.declared.numbers.Totals.{Totals}

-- these are the sums of a tree: partitions, rows, and pages that are hidden
pub record TotalsOf (n : Totals) (t : Tree) : Type 0 where
  pub parts : n.parts ≡ parts_of t
  pub rows : n.rows ≡ rows_of t
  pub hidden : n.hidden ≡ hidden_of t
