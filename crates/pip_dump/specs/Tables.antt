-- The tables of a node for one directory index, as lists of words, and what they show of its rows and of its children.
use Rattle.std.specs.Prelude.{◌≡◌, ℕ, ◌/◌, ◌%◌, List, Option, Some, None, flat_map, slice_index}
use Rattle.pip_io.specs.Taken.{Taken}
use Rattle.pip_model.specs.Dump.{row_text}
use Rattle.pip_model.specs.FullRows.{FullRow, full_rows, row_word}
use Rattle.pip_model.specs.NodeIn.{IsFullRow}
use Rattle.pip_model.specs.declared.level.Level.{Level}
use Rattle.pip_model.specs.declared.level.Level.TheVariants.{Mmu, Shadow1}
use Rattle.pip_model.specs.Sound.{IsSound}
use Rattle.pip_model.specs.Tree.{Node, Tree, find_node}
use Rattle.pip_dump.specs.Walk.{IsNextChild, children_above, rows_above}
use Rattle.pip_dump.specs.Written.{IsLeft}

-- these are the words of a level that the rows have at the vpages of directory index i
abbrev pub AreRowWords : Level → ℕ → List ℕ → (ℕ → Option FullRow) → Type 0
AreRowWords level i words rows = (v : ℕ) → v / 1024 ≡ i → slice_index words (v % 1024) ≡ row_word level (rows v)

-- these are the words of the MMU table that a node of a sound tree has for directory index i
pub record AreLeaves (t : Tree) (x : Node) (i : ℕ) (leaves : List ℕ) : Type 0 where
  pub sound : IsSound t
  pub found : find_node t x.name ≡ Some x
  pub packed : (v : ℕ) (r : FullRow) → full_rows t x v ≡ Some r → IsFullRow r
  pub words : AreRowWords Mmu i leaves (full_rows t x)

-- the first shadow beside it
abbrev pub AreGiven : Tree → Node → ℕ → List ℕ → Type 0
AreGiven t x i words = AreRowWords Shadow1 i words (full_rows t x)

-- from a vpage to another this is the first child, or there is none
abbrev pub IsChildIn : Tree → Node → ℕ → ℕ → Option ℕ → Type 0
IsChildIn t x low high None = children_above t x high ≡ children_above t x low
IsChildIn t x low high (Some c) = IsNextChild t x low (Some c)

-- so far a front of the whole was written, and the lines of a node's rows from a vpage on are left of it
abbrev pub RowsLeft : Tree → Node → ℕ → Taken → Taken → List ℕ → Type 0
RowsLeft t x low old now whole = IsLeft old now (flat_map (row_text t x) (rows_above low x.rows)) whole
