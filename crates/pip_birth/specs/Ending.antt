-- A child that ends with all below it: the tree without them, and what holds on the way there.
use Rattle.std.specs.Prelude.{◌≡◌, ◌+◌, ◌*◌, ◌<◌, ◌≤◌, ◌/◌, ◌^◌, ℕ, true, Option, List, ◌++◌, Some, is_some}
use Rattle.std.specs.Prelude.{length}
use Rattle.pip_base.specs.declared.types.Pair.{Pair}
use Rattle.pip_base.specs.Memory.{Memory, word_at}
use Rattle.pip_model.specs.Answers.{pair_frames}
use Rattle.pip_model.specs.DeletePartition.{tree_without_subtree}
use Rattle.pip_model.specs.FullRows.{FullRow}
use Rattle.pip_model.specs.Layout.{LaysOut}
use Rattle.pip_model.specs.Lists.{Distinct, In, has}
use Rattle.pip_model.specs.Midway.{Midway, PagesStay, find_other, tree_rows}
use Rattle.pip_model.specs.declared.level.Level.TheVariants.{Mmu}
use Rattle.pip_model.specs.Sound.{IsSound}
use Rattle.pip_model.specs.Tree.{Node, Tree, chain, find_node, held_pages, hidden, holds, table_at, vpage}
use Rattle.pip_model.specs.Work.{ending_work}
use Rattle.pip_space.specs.Levels.{table_frame_at}
use Rattle.pip_birth.specs.Newborn.{zero_frames}
use Rattle.pip_kern.specs.Taking.{CanTakeEach, HasTaken, rows_taken}

-- this partition can end with all below it: it isn't the root
pub record CanEnd (t : Tree) (y : Node) : Type 0 where
  pub sound : IsSound t
  pub found : find_other t y.name ≡ Some y

-- the tree without them
abbrev pub without : Tree → Node → Tree
without t y = tree_without_subtree t y.name

-- these pages are all that the node holds
abbrev pub AreHeld : Node → List ℕ → Type 0
AreHeld y gs = (g : ℕ) → has gs g ≡ holds y g

-- The pages gs of y have come back to its parent, and what was configuration of them is zero. For all others the tree
-- is the one without y and all below it already
pub record IsEnding (t : Tree) (y : Node) (m : Memory) (gs : List ℕ) (n : Memory) : Type 0 where
  pub midway : Midway n (without t y) (rows_taken (tree_rows t) y.up gs)
  pub stay : PagesStay t m n
  pub back : (g : ℕ) → In g gs → In g (held_pages y)
  pub zeros : (g i : ℕ) → In g gs → hidden t g ≡ true → i < 1024 → word_at n g i ≡ 0

-- and those are all that the parent has below vpage k
pub record IsEndingAt (t : Tree) (y : Node) (m : Memory) (k : ℕ) (n : Memory) : Type 0 where
  pub back : List ℕ
  pub ending : IsEnding t y m back n
  pub freed : (v : ℕ) (r : FullRow) → v < k → tree_rows t y.up v ≡ Some r → In r.frame (held_pages y) → In r.frame back

-- the memory is on the way there, for some child of this parent that was born at this vpage
pub record HasEnding (n : Memory) (parent born k : ℕ) : Type 0 where
  pub tree : Tree
  pub node : Node
  pub start : Memory
  pub can : CanEnd tree node
  pub up : node.up ≡ parent
  pub place : vpage node.born ≡ born
  pub at : IsEndingAt tree node start k n

-- for each such child more pages come back, from one memory to the other
abbrev pub EndsEachChild : ℕ → ℕ → ℕ → ℕ → Memory → Memory → Type 0
EndsEachChild parent born k q m n = (t : Tree) (y : Node) (start : Memory) → CanEnd t y → y.up ≡ parent
    → vpage y.born ≡ born → IsEndingAt t y start k m → IsEndingAt t y start q n

-- the page that the parent has at vpage v is the child's, and configuration; leaves is the MMU's table there
pub record IsConfiguration (t : Tree) (y : Node) (leaves v : ℕ) : Type 0 where
  pub row : FullRow
  pub at : tree_rows t y.up v ≡ Some row
  pub held : In row.frame (held_pages y)
  pub hidden : hidden t row.frame ≡ true
  pub small : v < 2 ^ 20
  pub parent : Node
  pub found : find_node (without t y) y.up ≡ Some parent
  pub page : table_frame_at Mmu parent (v / 1024) ≡ Some leaves

-- the memory is on the way there, and such a page is next
pub record HasConfiguration (n : Memory) (parent leaves v : ℕ) : Type 0 where
  pub tree : Tree
  pub node : Node
  pub start : Memory
  pub can : CanEnd tree node
  pub up : node.up ≡ parent
  pub at : IsEndingAt tree node start v n
  pub next : IsConfiguration tree node leaves v

-- for each such child that page comes back, too
abbrev pub EndsPage : ℕ → ℕ → ℕ → Memory → Memory → Type 0
EndsPage parent leaves v m n = (t : Tree) (y : Node) (start : Memory) → CanEnd t y → y.up ≡ parent
    → IsConfiguration t y leaves v → IsEndingAt t y start v m → IsEndingAt t y start (v + 1) n

-- some sound tree is laid out by the memory, and has this child of this parent, born at this vpage
pub record HasChild (m : Memory) (parent child born : ℕ) : Type 0 where
  pub tree : Tree
  pub node : Node
  pub can : CanEnd tree node
  pub laid : LaysOut tree m
  pub name : node.name ≡ child
  pub up : node.up ≡ parent
  pub place : vpage node.born ≡ born

-- for each such child the memory lays out the tree without it and all below it
abbrev pub EndsChild : ℕ → ℕ → ℕ → Memory → Memory → Type 0
EndsChild parent child born m n = (t : Tree) (y : Node) → CanEnd t y → LaysOut t m → y.name ≡ child → y.up ≡ parent
    → vpage y.born ≡ born → LaysOut (without t y) n

-- of the two memories, the second is in the middle of a call in which p took these pages back, and then some were
-- zeroed
pub record HasCleared (t : Tree) (rows : ℕ → ℕ → Option FullRow) (p : ℕ) (gs : List ℕ) (fs : List ℕ)
    (m n : Memory) : Type 0 where
  pub between : Memory
  pub taken : HasTaken t rows p gs m between
  pub zeroed : n ≡ zero_frames between fs

-- whatever pages were taken back before, these are too, and then they are zeroed
abbrev pub ClearsPages : ℕ → List Pair → Memory → Memory → Type 0
ClearsPages parent ps m n = (t : Tree) (rows : ℕ → ℕ → Option FullRow) (gs : List ℕ) → CanTakeEach t parent ps
    → Midway m t (rows_taken rows parent gs)
    → HasCleared t rows parent (gs ++ pair_frames ps) (pair_frames ps) m n

-- ---- how many pages are cleared

-- in how many steps a page of configuration is found, taken back and zeroed: 7 for each partition from the parent of y
-- up to the root, and 67
abbrev pub page_work : Tree → Node → ℕ
page_work t y = 7 * length (chain (without t y) y.up) + 67

-- pages of configuration that y holds, and that its parent has below vpage k, each once
pub record AreClearedPages (t : Tree) (y : Node) (k : ℕ) (gs : List ℕ) : Type 0 where
  pub once : Distinct gs
  pub held : (g : ℕ) → In g gs → In g (held_pages y) × (hidden t g ≡ true)
  pub place : (g : ℕ) → In g gs → (v : ℕ) × (v < k) × (r : FullRow) × (tree_rows t y.up v ≡ Some r) × (r.frame ≡ g)

-- for each such child, from one number of steps to the other, some more of these pages are cleared, within a bound on
-- the steps
abbrev pub CountsCleared : ℕ → ℕ → ℕ → ℕ → Memory → ℕ → ℕ → Type 0
CountsCleared parent born k q m before after = (t : Tree) (y : Node) (start : Memory) (gs : List ℕ) → CanEnd t y
    → y.up ≡ parent → vpage y.born ≡ born → IsEndingAt t y start k m → AreClearedPages t y k gs
    → (hs : List ℕ) × AreClearedPages t y q hs
    × (after + page_work t y * length gs ≤ before + page_work t y * length hs)

-- for each such child that page comes back, too, within a bound on the steps
abbrev pub EndsPageIn : ℕ → ℕ → ℕ → Memory → ℕ → ℕ → Type 0
EndsPageIn parent leaves v m before after = (t : Tree) (y : Node) (start : Memory) → CanEnd t y → y.up ≡ parent
    → IsConfiguration t y leaves v → IsEndingAt t y start v m
    → after ≤ before + 7 * length (chain (without t y) y.up) + 3

-- directory indexes below k for which the node has tables, each once
pub record AreWalked (x : Node) (k : ℕ) (ws : List ℕ) : Type 0 where
  pub once : Distinct ws
  pub small : (i : ℕ) → In i ws → i < k
  pub tabled : (i : ℕ) → In i ws → is_some (table_at x.tables i) ≡ true

-- for each such child, whose parent is x, 102 steps for each of some of these tables, and those of each page of
-- configuration that was cleared below them
abbrev pub CountsWalked : ℕ → ℕ → ℕ → Memory → ℕ → ℕ → Type 0
CountsWalked parent born k m before after = (t : Tree) (y : Node) (start : Memory) (x : Node) → CanEnd t y
    → find_node t y.up ≡ Some x → y.up ≡ parent → vpage y.born ≡ born → IsEndingAt t y start 0 m
    → (ws : List ℕ) × (hs : List ℕ) × AreWalked x k ws × AreClearedPages t y (1024 * k) hs
    × (after ≤ before + 102 * length ws + page_work t y * length hs)

-- at most how many steps it takes to end a child with all below it, by the number of frames alone
abbrev pub most_ending_work : ℕ → ℕ
most_ending_work n = 104483 + (7 * n + 67) * n

-- for each such child it takes no more
abbrev pub EndsChildIn : ℕ → ℕ → ℕ → Memory → ℕ → ℕ → Type 0
EndsChildIn parent child born m before after = (t : Tree) (y : Node) → CanEnd t y → LaysOut t m → y.name ≡ child
    → y.up ≡ parent → vpage y.born ≡ born
    → (after ≤ before + ending_work t parent child) × (after ≤ before + most_ending_work t.frames)
