-- One node in frames: what a memory holds of it. Nothing here speaks of a tree: what the tables hold is given.
use Rattle.std.specs.Prelude.{◌≡◌, ℕ, ◌<◌, ◌≤◌, ◌%◌, ◌^◌, ◌⊎◌, ◌==◌, ◌&&◌, if◌then◌else◌, Bool, true, false, ◌∷◌, map}
use Rattle.std.specs.Prelude.{length, slice_index_or, Option, Some}
use Rattle.pip_base.specs.declared.types.Pair.{Pair}
use Rattle.pip_base.specs.Memory.{IsMemory, Memory, word_at}
use Rattle.pip_model.specs.Boot.{own}
use Rattle.pip_model.specs.Lists.{Distinct, In}
use Rattle.pip_model.specs.Tree.{Base, Node, Table, config, has_table}
use Rattle.pip_model.specs.FullRows.{FullRow, cells_of}
use Rattle.pip_model.specs.NodeWords.{Role, role, role_word}
use Rattle.pip_model.specs.declared.level.Level.{Level}
use Rattle.pip_model.specs.declared.level.Level.TheVariants.{Mmu, Shadow1, Shadow2}

-- a word of a first shadow: 0, or a vpage that isn't 0 and one of three uses
abbrev pub IsFirstShadowWord : ℕ → Type 0
IsFirstShadowWord w = (w ≡ 0) ⊎ ((4096 ≤ w) × (w < 2 ^ 32) × (1 ≤ w % 4096) × (w % 4096 ≤ 3))

-- a word of a second shadow: 0, or a vpage and the mark 1
abbrev pub IsSecondShadowWord : ℕ → Type 0
IsSecondShadowWord w = (w ≡ 0) ⊎ ((w < 2 ^ 32) × (w % 4096 ≡ 1))

-- what a row holds once it is packed into three words: a frame, rights with READ, and words of the shadows
pub record IsFullRow (r : FullRow) : Type 0 where
  pub frame : r.frame < 2 ^ 20
  pub read : r.rights % 2 ≡ 1
  pub low : r.rights < 8
  pub given : IsFirstShadowWord r.given
  pub from : IsSecondShadowWord r.from

-- the memory holds the node, with these words in its tables
pub record NodeIn (m : Memory) (x : Node) (cells : Level → ℕ → ℕ) : Type 0 where
  pub shape : IsMemory m
  pub small : length m ≤ 4096
  pub inside : (f : ℕ) → In f (config x) → f < length m
  pub once : Distinct (config x)
  pub dirs : Distinct (map (λ t. t.index) x.tables)
  pub small_dirs : (t : Table) → In t x.tables → t.index < 1024
  pub is_named : x.name ≡ x.base.descriptor.frame
  pub each : (f i : ℕ) (r : Role) → role x f ≡ Some r → i < 1024 → word_at m f i ≡ role_word x cells r i

-- the memory holds the node, with these rows in its tables; each row is packed and has a table
pub record Space (m : Memory) (x : Node) (rows : ℕ → Option FullRow) : Type 0 where
  pub node : NodeIn m x (cells_of rows)
  pub packed : (v : ℕ) (r : FullRow) → rows v ≡ Some r → IsFullRow r
  pub tabled : (v : ℕ) (r : FullRow) → rows v ≡ Some r → (v < 2 ^ 20) × (has_table x v ≡ true)

-- of the two memories, the second differs from the first in frames of the node alone
pub record OthersStay (x : Node) (m n : Memory) : Type 0 where
  pub count : length n ≡ length m
  pub words : (f i : ℕ) → (In f (config x) → ⊥) → word_at n f i ≡ word_at m f i

-- the memory holds a node of this name
pub record HasNode (m : Memory) (part : ℕ) : Type 0 where
  pub node : Node
  pub cells : Level → ℕ → ℕ
  pub is_in : NodeIn m node cells
  pub name : node.name ≡ part

-- the memory holds a node of this name that has a table for the vpage
pub record HasTableFor (m : Memory) (part v : ℕ) : Type 0 where
  pub held : HasNode m part
  pub tabled : has_table held.node v ≡ true

-- the directory of a level
abbrev pub directory_of : Level → Base → Pair
directory_of Mmu b = b.mmu
directory_of Shadow1 b = b.shadow1
directory_of Shadow2 b = b.shadow2

-- list page k: the base's, and then those after it
abbrev pub list_page : Node → ℕ → Pair
list_page x k = slice_index_or (x.base.list ∷ x.more) k (own 0)

-- two levels are one
abbrev pub same_level : Level → Level → Bool
same_level Mmu Mmu = true
same_level Shadow1 Shadow1 = true
same_level Shadow2 Shadow2 = true
same_level level other = false

-- the words of tables with w at the vpage v of one level
abbrev pub put_cell : (Level → ℕ → ℕ) → Level → ℕ → ℕ → Level → ℕ → ℕ
put_cell cells level v w other u = if same_level level other && (u == v) then w else cells other u

-- the rows with r at the vpage v
abbrev pub put_row : (ℕ → Option FullRow) → ℕ → Option FullRow → ℕ → Option FullRow
put_row rows v r u = if u == v then r else rows u
