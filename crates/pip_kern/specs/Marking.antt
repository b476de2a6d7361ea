-- Pages that a partition gives to a child or takes back, one after another: what rows say of them in the middle of a
-- call.
use Rattle.std.specs.Prelude.{◌≡◌, ℕ, ◌==◌, if◌then◌else◌, Bool, List, Option, Some, option_map}
use Rattle.pip_model.specs.Accepted.{IsUnheld}
use Rattle.pip_base.specs.Memory.{Memory}
use Rattle.pip_model.specs.FullRows.{FullRow}
use Rattle.pip_model.specs.Lists.{has}
use Rattle.pip_model.specs.Midway.{Midway, PagesStay}
use Rattle.pip_model.specs.Sound.{IsSound}
use Rattle.pip_model.specs.Tree.{Node, Row, Tree, find_node, row_at}

-- a row when these pages were marked: whether such a page is open, and in the partition's own rows to whom it is given
abbrev pub row_marked : Bool → (ℕ → ℕ) → List ℕ → Bool → FullRow → FullRow
row_marked user word gs own r =
    if has gs r.frame then record r { user = user; given = if own then word r.frame else r.given } else r

-- the rows by node when p marked these pages
abbrev pub rows_marked : (ℕ → ℕ → Option FullRow) → ℕ → Bool → (ℕ → ℕ) → List ℕ → ℕ → ℕ → Option FullRow
rows_marked rows p user word gs a v = option_map (row_marked user word gs (p == a)) (rows a v)

-- p can mark the page g, which it has at vpage v and no child of it holds
pub record CanMark (t : Tree) (p v g : ℕ) : Type 0 where
  pub sound : IsSound t
  pub taker : Node
  pub found : find_node t p ≡ Some taker
  pub row : Row
  pub at : row_at taker.rows v ≡ Some row
  pub page : row.frame ≡ g
  pub unheld : IsUnheld t p g

-- of the two memories, the second is in the middle of a call in which p marked these pages
pub record HasMarked (t : Tree) (rows : ℕ → ℕ → Option FullRow) (p : ℕ) (user : Bool) (word : ℕ → ℕ) (gs : List ℕ)
    (m n : Memory) : Type 0 where
  pub midway : Midway n t (rows_marked rows p user word gs)
  pub stay : PagesStay t m n
