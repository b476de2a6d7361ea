-- A node whose tables change: one more, or one less.
use Rattle.std.specs.Prelude.{◌≡◌, ℕ, ◌<◌, ◌≤◌, ◌+◌, ◌-◌, ◌==◌, if◌then◌else◌, true, List, [], ◌∷◌, ◌++◌, length, map}
use Rattle.std.specs.Prelude.{Option, Some, None, is_some}
use Rattle.pip_base.specs.declared.types.Pair.{Pair}
use Rattle.pip_base.specs.Memory.{Memory}
use Rattle.pip_model.specs.FullRows.{FullRow}
use Rattle.pip_model.specs.declared.level.Level.{Level}
use Rattle.pip_model.specs.Lists.{Distinct, In}
use Rattle.pip_model.specs.NodeIn.{HasNode, NodeIn, Space}
use Rattle.pip_model.specs.Tree.{Node, Table, config, dir, lists, table_at, table_pairs}
use Rattle.pip_space.specs.declared.table_roots.TableRoots.{TableRoots}

-- the page, if there is one
abbrev pub page_list : Option Pair → List Pair
page_list None = []
page_list (Some p) = p ∷ []

-- the node can be given the table and these list pages: it has none of this directory index, the pages are different
-- frames of the memory and none of the node's, and there are as many list pages as the tables take, before and after
pub record CanInstall (m : Memory) (x : Node) (b : Table) (rest : List Pair) : Type 0 where
  pub new : In b.index (map (λ t. t.index) x.tables) → ⊥
  pub inside : (g : Pair) → In g (table_pairs b ++ rest) → g.frame < length m
  pub further : (g : ℕ) → In g (map (λ g. g.frame) (table_pairs b ++ rest)) → In g (config x) → ⊥
  pub differ : Distinct (map (λ g. g.frame) (table_pairs b ++ rest))
  pub listed : length x.more ≡ lists (length x.tables) - 1
  pub given : length rest ≡ lists (length x.tables + 1) - lists (length x.tables)

-- the memory holds a node of this name that can be given the table of directory index i in these pages
pub record HasInstall (m : Memory) (part i : ℕ) (slot : List Pair) (list : Option Pair) : Type 0 where
  pub node : Node
  pub cells : Level → ℕ → ℕ
  pub table : Table
  pub is_in : NodeIn m node cells
  pub name : node.name ≡ part
  pub index : table.index ≡ i
  pub pages : table_pairs table ≡ slot
  pub can : CanInstall m node table (page_list list)

-- the rows beside the table of directory index i
abbrev pub rows_beside : ℕ → (ℕ → Option FullRow) → ℕ → Option FullRow
rows_beside i rows v = if dir v == i then None else rows v

-- the table of directory index i can be taken from the node: there are as many list pages as the tables take
pub record CanRemove (x : Node) (rows : ℕ → Option FullRow) (i : ℕ) : Type 0 where
  pub table : Table
  pub has : table_at x.tables i ≡ Some table
  pub listed : length x.more ≡ lists (length x.tables) - 1

-- the memory holds a node of this name from which the table of directory index i can be taken
pub record HasRemove (m : Memory) (part i : ℕ) : Type 0 where
  pub node : Node
  pub rows : ℕ → Option FullRow
  pub is_in : Space m node rows
  pub name : node.name ≡ part
  pub can : CanRemove node rows i

-- the first directory index from another on for which the node has tables; or none, where there is none
abbrev pub IsNextTables : Node → ℕ → Option ℕ → Type 0
IsNextTables x from None = (i : ℕ) → from ≤ i → i < 1024 → table_at x.tables i ≡ None
IsNextTables x from (Some k) = (from ≤ k) × (k < 1024) × (is_some (table_at x.tables k) ≡ true)
    × ((i : ℕ) → from ≤ i → i < k → table_at x.tables i ≡ None)

-- the memory holds a node of this name that has tables for directory index i
pub record HasTables (m : Memory) (part i : ℕ) : Type 0 where
  pub held : HasNode m part
  pub tabled : is_some (table_at held.node.tables i) ≡ true

-- what a descriptor says of where the node's tables are noted
pub record AreTableRoots (x : Node) (h : TableRoots) : Type 0 where
  pub part : h.part ≡ x.name
  pub list : h.list ≡ x.base.list.frame
  pub tables : h.tables ≡ length x.tables
  pub mmu : h.mmu ≡ x.base.mmu.frame
  pub shadow1 : h.shadow1 ≡ x.base.shadow1.frame
  pub shadow2 : h.shadow2 ≡ x.base.shadow2.frame

-- the frames to which entries are written are frames of the memory
pub record AreInside (m : Memory) (h : TableRoots) : Type 0 where
  pub part : h.part < length m
  pub mmu : h.mmu < length m
  pub shadow1 : h.shadow1 < length m
  pub shadow2 : h.shadow2 < length m

-- three pages in frames of the memory
pub record AreInPages (m : Memory) (slot : List Pair) : Type 0 where
  pub table : Table
  pub pages : table_pairs table ≡ slot
  pub inside : (g : Pair) → In g slot → g.frame < length m
