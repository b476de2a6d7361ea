-- Rows of the code as rows of a node.
use Rattle.std.specs.Prelude.{◌≡◌, ℕ, ◌<◌, ◌≤◌, Option, Some, None}
use Rattle.pip_base.specs.Rights.{rights_number}
use Rattle.pip_base.specs.Memory.{Memory}
use Rattle.pip_entry.specs.Sh1.{packed_sh1}
use Rattle.pip_entry.specs.Sh2.{packed_sh2}
use Rattle.pip_model.specs.FullRows.{FullRow, row_word}
use Rattle.pip_model.specs.declared.level.Level.TheVariants.{Mmu}
use Rattle.pip_model.specs.NodeIn.{IsFullRow, Space}
use Rattle.pip_model.specs.Tree.{Node}
use Rattle.pip_table.specs.NextLeaf.{start_above}
use Rattle.pip_space.specs.declared.row.Row.{Row}

-- the row of the code with its shadows as words
abbrev pub full_of : Row → FullRow
full_of r = record {
  frame = r.frame;
  rights = rights_number r.rights;
  user = r.user;
  given = packed_sh1 r.given;
  from = packed_sh2 r.from;
}

-- a row, if it is one, can be packed into words
abbrev pub IsPacked : Option FullRow → Type 0
IsPacked None = Unit {0}
IsPacked (Some r) = IsFullRow r

-- the word of an MMU table is that of a row
pub record IsRowWord (w : ℕ) : Type 0 where
  pub row : FullRow
  pub packed : IsFullRow row
  pub is : w ≡ row_word Mmu (Some row)

-- the memory holds a node of this name with rows
pub record HasRows (m : Memory) (part : ℕ) : Type 0 where
  pub node : Node
  pub rows : ℕ → Option FullRow
  pub is_in : Space m node rows
  pub name : node.name ≡ part

-- the memory holds a node of this name that has a row at the vpage
pub record HasRow (m : Memory) (part v : ℕ) : Type 0 where
  pub node : Node
  pub rows : ℕ → Option FullRow
  pub row : FullRow
  pub is_in : Space m node rows
  pub name : node.name ≡ part
  pub at : rows v ≡ Some row

-- the least vpage above another that has a row, with this row; or none, where there is none
abbrev pub IsNextRow : (ℕ → Option FullRow) → Option ℕ → Option (ℕ × Row) → Type 0
IsNextRow rows after None = (v : ℕ) → start_above after ≤ v → rows v ≡ None
IsNextRow rows after (Some r) = (start_above after ≤ r.0) × (rows r.0 ≡ Some (full_of r.1))
    × ((v : ℕ) → start_above after ≤ v → v < r.0 → rows v ≡ None)
