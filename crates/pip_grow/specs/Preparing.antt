-- A child that is given a table, and a further list page where it needs one.
use Rattle.std.specs.Prelude.{◌≡◌, ℕ}
use Rattle.pip_model.specs.Accepted.{MayPrepare}
use Rattle.pip_base.specs.Memory.{Memory}
use Rattle.pip_model.specs.Partitions.{HasPartition}
use Rattle.pip_model.specs.Tree.{Node, Table, Tree, vpage}
use Rattle.pip_space.specs.Tables.{page_list}
use Rattle.pip_grow.specs.declared.chain.TablePages.{TablePages}

-- the table of a directory index in these pages
abbrev pub table_of : ℕ → TablePages → Table
table_of i g = record { index = i; mmu = g.mmu; shadow1 = g.shadow1; shadow2 = g.shadow2 }

-- the child of this name, whose descriptor the caller has at vpage born, can be given these pages as its table of
-- directory index i
pub record CanPrepare (t : Tree) (caller child born i : ℕ) (g : TablePages) : Type 0 where
  pub node : Node
  pub may : MayPrepare t caller node (table_of i g) (page_list g.list)
  pub name : node.name ≡ child
  pub place : born ≡ vpage node.born

-- and that in some sound tree which the memory lays out
pub record HasPrepare (m : Memory) (caller child born i : ℕ) (g : TablePages) : Type 0 where
  pub stands : HasPartition m caller
  pub can : CanPrepare stands.tree caller child born i g
