-- The words of the frames that lay a tree out, and trees compared by them.
use Rattle.std.specs.Prelude.{◌≡◌, ℕ, ◌<◌, if◌then◌else◌, find, length, Option, Some, None, is_some}
use Rattle.pip_base.specs.Memory.{IsMemory, Memory, word_at}
use Rattle.pip_model.specs.Lists.{In, has}
use Rattle.pip_model.specs.Tree.{Node, Tree, nodes, config, word_of}
use Rattle.pip_model.specs.NodeWords.{Role, role, role_word}
use Rattle.pip_model.specs.FullRows.{cells_of, full_rows}

-- word i of a page that has this role in the configuration of node x
abbrev pub config_word : Tree → Node → Option Role → ℕ → ℕ
config_word t x None i = 0
config_word t x (Some r) i = role_word x (cells_of (full_rows t x)) r i

-- word i of frame f, where node x has it in its configuration
abbrev pub owned_word : Tree → ℕ → ℕ → Option Node → ℕ
owned_word t f i None = 0
owned_word t f i (Some x) = config_word t x (role x f) i

-- word i of frame f: of a page that can be read, or of the configuration of the node that owns it. Frame 0
-- is neither
unfoldable pub layout : Tree → ℕ → ℕ → ℕ
layout t f i = if is_some (t.words f) then word_of (t.words f) i
    else owned_word t f i (find (λ x. has (config x) f) (nodes t))

-- a memory lays the tree out where every word is the tree's
pub record LaysOut (t : Tree) (m : Memory) : Type 0 where
  pub shape : IsMemory m
  pub count : length m ≡ t.frames
  pub word : (f i : ℕ) → f < t.frames → i < 1024 → word_at m f i ≡ layout t f i

-- two trees of the same frames whose layouts have the same words
pub record HasSameLayout (t u : Tree) : Type 0 where
  pub frames : t.frames ≡ u.frames
  pub word : (f i : ℕ) → f < t.frames → i < 1024 → layout t f i ≡ layout u f i

-- two trees are the same up to the order of their nodes
pub record AreSame (t u : Tree) : Type 0 where
  pub frames : t.frames ≡ u.frames
  pub root : t.root ≡ u.root
  pub to : (x : Node) → In x (nodes t) → In x (nodes u)
  pub from : (x : Node) → In x (nodes u) → In x (nodes t)
  pub pages : (g : ℕ) → is_some (t.words g) ≡ is_some (u.words g)
  pub words : (g i : ℕ) → i < 1024 → word_of (t.words g) i ≡ word_of (u.words g) i
