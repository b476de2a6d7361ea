-- What holds of every tree that can be reached: nine parts, each with its name, and that its numbers are words.
use Rattle.std.specs.Prelude.{◌≡◌, ◌≢◌, ℕ, suc, ◌≤◌, ◌<◌, ◌-◌, ◌%◌, ◌^◌, false, not, ◌&&◌, List, [], ◌∷◌, map, length}
use Rattle.std.specs.Prelude.{Some, is_some, bit_and}
use Rattle.std.specs.List.{AllByRecursion}
use Rattle.pip_base.specs.declared.types.Ctx.{Ctx}
use Rattle.pip_base.specs.declared.types.Pair.{Pair}
use Rattle.pip_model.specs.Lists.{In, has, Distinct, Rising}
use Rattle.pip_model.specs.Tree.{Row, Table, Node, Tree, nodes, names_of, pairs, row_pages, held_pages, page_at, hidden}
use Rattle.pip_model.specs.Tree.{dir, vpage, lists, word_of}
use Rattle.pip_model.specs.Boot.{boot_root}

-- 1. The names differ. The root is its own parent. Each other node's parent is the root or comes further back
abbrev pub IsRooted : Node → List Node → Type 0
IsRooted root [] = root.up ≡ root.name
IsRooted root (x ∷ xs) = (In x.name (names_of (root ∷ xs)) → ⊥) × In x.up (names_of (root ∷ xs)) × IsRooted root xs

-- 2. The root is that of the boot tree of 16 to 4096 frames, but for its mask and its lines
pub record HasBootRoot (t : Tree) : Type 0 where
  pub small : 16 ≤ t.frames
  pub large : t.frames ≤ 4096
  pub same : record t.root { masked = false; pending = [] } ≡ boot_root t.frames

-- 3. In one node no page occurs twice, in rows and configuration together, and the vpages of the rows rise
pub record KeepsPagesApart (x : Node) : Type 0 where
  pub pages : Distinct (held_pages x)
  pub places : Rising 0 (map (λ r. r.at) x.rows)

-- 4. All that a child x holds is in rows of its parent y, its configuration at the addresses that x names
pub record IsLentBy (y x : Node) : Type 0 where
  pub rows : (g : ℕ) → In g (held_pages x) → In g (row_pages y)
  pub aligned : (g : Pair) → In g (pairs x) → g.va % 4096 ≡ 0
  pub placed : (g : Pair) → In g (pairs x) → page_at y (vpage g.va) ≡ Some g.frame

-- and a child's name and birthplace are those of its descriptor
pub record IsNamedByBase (x : Node) : Type 0 where
  pub name : x.name ≡ x.base.descriptor.frame
  pub born : x.born ≡ x.base.descriptor.va

-- 5. No page is held by two siblings
abbrev pub AreApart : Node → Node → Type 0
AreApart x y = (g : ℕ) → In g (held_pages x) → In g (held_pages y) → ⊥

-- these rights are all among others
abbrev pub AreAmong : ℕ → ℕ → Type 0
AreAmong rights others = bit_and rights others ≡ rights

-- 6. Every row of a node can be read
abbrev pub CanRead : Node → Type 0
CanRead x = (r : Row) → In r x.rows → AreAmong 1 r.rights

-- and no row of a child x gives a right that the row of its parent y for the page lacks
abbrev pub GivesNoMore : Node → Node → Type 0
GivesNoMore y x = (r s : Row) → In r x.rows → In s y.rows → r.frame ≡ s.frame → AreAmong r.rights s.rights

-- 7. vpage 0 has no row. No directory index, all of which are below 1024, has tables twice, and where a row is there
-- are some. The list is as long as the tables need
pub record RowsHaveTables (x : Node) : Type 0 where
  pub first : (r : Row) → In r x.rows → r.at ≢ 0
  pub differ : Distinct (map (λ t. t.index) x.tables)
  pub tabled : (r : Row) → In r x.rows → In (dir r.at) (map (λ t. t.index) x.tables)
  pub small : (t : Table) → In t x.tables → t.index < 1024
  pub listed : length x.more ≡ lists (length x.tables) - 1

-- 9. Words can be read in each page of the root that no node hides, and in no other
abbrev pub HasVisibleWords : Tree → Type 0
HasVisibleWords t = (g : ℕ) → is_some (t.words g) ≡ (has (row_pages t.root) g && not (hidden t g))

-- The numbers: a context has 16 registers, lines are below 16 and rise, and all that is stored is a word.
-- That the other numbers of a sound tree are words follows from the parts above
abbrev pub IsWord : ℕ → Type 0
IsWord n = n < 2 ^ 32

-- a context has 16 registers, and they and the pc are words
pub record IsContext (c : Ctx) : Type 0 where
  pub pc : IsWord c.pc
  pub count : length c.regs ≡ 16
  pub regs : AllByRecursion IsWord c.regs

-- each is below 16, at least low, and above all before it
abbrev pub AreLines : ℕ → List ℕ → Type 0
AreLines low [] = Unit {0}
AreLines low (j ∷ js) = (low ≤ j) × (j < 16) × AreLines (suc j) js

-- all words of all pages are below 2^32
abbrev pub ArePageWords : (ℕ → ℕ → ℕ) → Type 0
ArePageWords words = (g i : ℕ) → i < 1024 → IsWord (words g i)

-- every word that can be read is below 2^32
abbrev pub HasSmallWords : Tree → Type 0
HasSmallWords t = ArePageWords (λ g i. word_of (t.words g) i)

-- each node of a tree
abbrev pub EachNode : (Node → Type 0) → Tree → Type 0
EachNode P t = (x : Node) → In x (nodes t) → P x

-- each node of a tree but the root
abbrev pub EachOther : (Node → Type 0) → Tree → Type 0
EachOther P t = (x : Node) → In x t.others → P x

-- each child with its parent, where the parent comes first
abbrev pub EachChild : (Node → Node → Type 0) → Tree → Type 0
EachChild R t = (x y : Node) → In x t.others → In y (nodes t) → x.up ≡ y.name → R y x

-- each two children of one parent
abbrev pub EachSiblings : (Node → Node → Type 0) → Tree → Type 0
EachSiblings R t = (x y : Node) → In x t.others → In y t.others → x.up ≡ y.up → x.name ≢ y.name → R x y

-- A sound tree. Part 8: no line is pending in any node but the root
pub record IsSound (t : Tree) : Type 0 where
  pub parents_come_first : IsRooted t.root t.others
  pub boot_root : HasBootRoot t
  pub pages_apart : EachNode KeepsPagesApart t
  pub lent : EachChild IsLentBy t
  pub named_by_descriptor : EachOther IsNamedByBase t
  pub siblings_apart : EachSiblings AreApart t
  pub readable : EachNode CanRead t
  pub rights : EachChild GivesNoMore t
  pub tables : EachNode RowsHaveTables t
  pub no_lines_but_the_root : EachOther (λ x. x.pending ≡ []) t
  pub words : HasVisibleWords t
  pub lines : AreLines 0 t.root.pending
  pub numbers : HasSmallWords t

-- The numbers of a node of a tree of n frames, as they are in every sound tree
pub record HasNumbers (n : ℕ) (x : Node) : Type 0 where
  pub name : IsWord x.name
  pub up : IsWord x.up
  pub born : IsWord x.born
  pub addresses : (g : Pair) → In g (pairs x) → IsWord g.va
  pub pages : (g : ℕ) → In g (held_pages x) → g < n
  pub tables : (b : Table) → In b x.tables → b.index < 1024
  pub rows : (r : Row) → In r x.rows → (r.at < 2 ^ 20) × (r.rights < 8)
