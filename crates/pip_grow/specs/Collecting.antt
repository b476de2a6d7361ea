-- A child from which a table is taken, and its last list page where it needs it no more.
use Rattle.std.specs.Prelude.{◌≡◌, ℕ, Bool, false, List, [], ◌∷◌, Some, is_none}
use Rattle.pip_base.specs.declared.outcome.Status.{Status}
use Rattle.pip_base.specs.declared.outcome.Status.TheVariants as S
use Rattle.pip_base.specs.Memory.{Memory}
use Rattle.pip_model.specs.Collect.{has_row_in}
use Rattle.pip_model.specs.Lists.{In}
use Rattle.pip_model.specs.Partitions.{HasPartition}
use Rattle.pip_model.specs.Tree.{Node, Table, Tree, table_at}

-- from the child of this name, which is the caller's, the table of directory index i can be taken: no row is in it
pub record CanCollect (t : Tree) (caller child i : ℕ) : Type 0 where
  pub node : Node
  pub table : Table
  pub is_in : In node t.others
  pub up : node.up ≡ caller
  pub name : node.name ≡ child
  pub has : table_at node.tables i ≡ Some table
  pub empty : has_row_in node i ≡ false

-- and that in some sound tree which the memory lays out
pub record HasCollect (m : Memory) (caller child i : ℕ) : Type 0 where
  pub stands : HasPartition m caller
  pub can : CanCollect stands.tree caller child i

-- the conditions on its tables: there are some of directory index i, and no row is in them
abbrev pub table_tests : Node → ℕ → List (Bool × Status)
table_tests x i = (is_none (table_at x.tables i), S.NoTable) ∷ (has_row_in x i, S.NotEmpty) ∷ []
