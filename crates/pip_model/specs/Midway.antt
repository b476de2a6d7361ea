-- The middle of a call: rows of some nodes are written already, and the tree is still the one from before.
use Rattle.std.specs.Prelude.{◌≡◌, ℕ, ◌==◌, if◌then◌else◌, Bool, length, find, Option, Some, None}
use Rattle.pip_base.specs.Memory.{IsMemory, Memory, word_at}
use Rattle.pip_model.specs.Lists.{In}
use Rattle.pip_model.specs.Tree.{Node, Tree, config, find_node, node}
use Rattle.pip_model.specs.FullRows.{FullRow, full_rows}
use Rattle.pip_model.specs.NodeIn.{Space}

-- ---- chains of names

-- the node of this name, if it is one other than the root
abbrev pub find_other : Tree → ℕ → Option Node
find_other t b = find (λ x. x.name == b) t.others

-- the chain of parents from b on comes to top: top is b, or is above it
pub data OnChain (t : Tree) (top : ℕ) : ℕ → Type 0 where
  here : OnChain t top top
  over : {b : ℕ} → (y : Node) → find_other t b ≡ Some y → OnChain t top y.up → OnChain t top b

-- ---- rows by node

-- the rows that the tree itself gives each node
abbrev pub tree_rows : Tree → ℕ → ℕ → Option FullRow
tree_rows t a = full_rows t (node t a)

-- one row is the other, but for whether the user may access the page and which child it is given to
abbrev pub Like : Option FullRow → Option FullRow → Type 0
Like None None = Unit {0}
Like None (Some s) = ⊥
Like (Some r) None = ⊥
Like (Some r) (Some s) = (r.frame ≡ s.frame) × (r.rights ≡ s.rights) × (r.from ≡ s.from)

-- the memory holds each node of the tree, with these rows
abbrev pub HoldsNodes : Memory → Tree → (ℕ → ℕ → Option FullRow) → Type 0
HoldsNodes m t rows = (a : ℕ) (x : Node) → find_node t a ≡ Some x → Space m x (rows a)

-- and they are the tree's, but for whether the user may access a page and which child it is given to
pub record Midway (m : Memory) (t : Tree) (rows : ℕ → ℕ → Option FullRow) : Type 0 where
  pub shape : IsMemory m
  pub count : length m ≡ t.frames
  pub each : HoldsNodes m t rows
  pub like : (a : ℕ) (x : Node) (v : ℕ) → find_node t a ≡ Some x → Like (rows a v) (full_rows t x v)

-- what Midway says, of a partition and its ancestors alone
pub record MidwayOnChain (m : Memory) (t : Tree) (caller : ℕ) (rows : ℕ → ℕ → Option FullRow) : Type 0 where
  pub count : length m ≡ t.frames
  pub each : (a : ℕ) (x : Node) → find_node t a ≡ Some x → OnChain t a caller → Space m x (rows a)
  pub like : (a : ℕ) (x : Node) (v : ℕ) → find_node t a ≡ Some x → OnChain t a caller
      → Like (rows a v) (full_rows t x v)

-- of the two memories, the second differs from the first in frames of a partition and its ancestors alone
pub record OffChainStays (t : Tree) (caller : ℕ) (m n : Memory) : Type 0 where
  pub count : length n ≡ length m
  pub words : (f i : ℕ) → ((a : ℕ) (x : Node) → find_node t a ≡ Some x → OnChain t a caller → In f (config x) → ⊥)
      → word_at n f i ≡ word_at m f i

-- the rows by node, with other rows for one node
abbrev pub put_rows : (ℕ → ℕ → Option FullRow) → ℕ → (ℕ → Option FullRow) → ℕ → ℕ → Option FullRow
put_rows rows a new b = if b == a then new else rows b

-- a row where the page g is open to the user, or hidden from it
abbrev pub user_at : ℕ → Bool → Option FullRow → Option FullRow
user_at g b None = None
user_at g b (Some r) = Some (if r.frame == g then record r { user = b } else r)

-- the rows where the page g is open to the user, or hidden from it
abbrev pub put_user : (ℕ → Option FullRow) → ℕ → Bool → ℕ → Option FullRow
put_user rows g b v = user_at g b (rows v)

-- of the two memories, the second has the same words in each page that can be read, and in frame 0
pub record PagesStay (t : Tree) (m n : Memory) : Type 0 where
  pub words : (f i : ℕ) (w : ℕ → ℕ) → t.words f ≡ Some w → word_at n f i ≡ word_at m f i
  pub frame_zero : (i : ℕ) → word_at n 0 i ≡ word_at m 0 i
