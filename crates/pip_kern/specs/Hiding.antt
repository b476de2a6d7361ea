-- A page hidden from the user, or opened, in a partition and all its ancestors.
use Rattle.std.specs.Prelude.{◌≡◌, ℕ, Bool, Option, Some, None}
use Rattle.pip_base.specs.Words.{shadow2_word}
use Rattle.pip_base.specs.Memory.{Memory}
use Rattle.pip_model.specs.FullRows.{FullRow}
use Rattle.pip_model.specs.Midway.{MidwayOnChain, OffChainStays, OnChain, put_user}
use Rattle.pip_model.specs.NodeIn.{OthersStay, Space, put_row}
use Rattle.pip_model.specs.Sound.{IsSound}
use Rattle.pip_model.specs.Tree.{Node, Tree, find_node}
use Rattle.pip_kern.specs.declared.hiding.Above.{Above}

-- in the middle of a call the caller has a row at the vpage
pub record CanSetUser (m : Memory) (caller v : ℕ) : Type 0 where
  pub tree : Tree
  pub rows : ℕ → ℕ → Option FullRow
  pub node : Node
  pub row : FullRow
  pub sound : IsSound tree
  pub midway : MidwayOnChain m tree caller rows
  pub found : find_node tree caller ≡ Some node
  pub at : rows caller v ≡ Some row

-- the page's user bit is set in the caller and its ancestors, and no other frame is written
pub record UserSet (t : Tree) (rows : ℕ → ℕ → Option FullRow) (caller g : ℕ) (b : Bool) (m n : Memory) : Type 0 where
  pub each : (a : ℕ) (y : Node) → find_node t a ≡ Some y → OnChain t a caller → Space n y (put_user (rows a) g b)
  pub rest : OffChainStays t caller m n

-- whatever tree's middle the memory holds, where the caller has a row at the vpage
abbrev pub OnEachChain : Memory → ℕ → ℕ → (Tree → (ℕ → ℕ → Option FullRow) → FullRow → Type 0) → Type 0
OnEachChain m caller v P = (t : Tree) (rows : ℕ → ℕ → Option FullRow) (x : Node) (r : FullRow) → IsSound t
    → MidwayOnChain m t caller rows
    → find_node t caller ≡ Some x → rows caller v ≡ Some r → P t rows r

-- the user bit of the page that the caller has at the vpage is set so
abbrev pub SetsUser : ℕ → ℕ → Bool → Memory → Memory → Type 0
SetsUser caller v b m n = OnEachChain m caller v (λ t rows r. UserSet t rows caller r.frame b m n)

-- ---- one partition

-- where a page is one level up, by the parent's name and the word of the second shadow: nowhere for the root
abbrev pub IsAbove : ℕ → ℕ → Option Above → Type 0
IsAbove up from None = from ≡ 0
IsAbove up from (Some a) = (a.part ≡ up) × (from ≡ shadow2_word a.v)

-- the user bit of the row at the vpage is set, no other frame is written, and the page is found one level up
pub record UserSetIn (x : Node) (rows : ℕ → Option FullRow)
    (v : ℕ) (r : FullRow) (b : Bool) (m n : Memory) (up : Option Above) : Type 0 where
  pub space : Space n x (put_row rows v (Some (record r { user = b })))
  pub others : OthersStay x m n
  pub above : IsAbove x.up r.from up
