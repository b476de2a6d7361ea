-- Pages that a partition gives to a child as configuration, one after another.
use Rattle.std.specs.Prelude.{◌≡◌, ℕ, ◌+◌, ◌*◌, ◌≤◌, Bool, false, List, [], ◌∷◌, ◌++◌, All, Option, Some, length}
use Rattle.pip_model.specs.Accepted.{IsUnheld}
use Rattle.pip_base.specs.declared.types.Pair.{Pair}
use Rattle.pip_base.specs.Words.{as_configuration, shadow1_word}
use Rattle.pip_base.specs.Memory.{Memory}
use Rattle.pip_model.specs.FullRows.{FullRow, use_of}
use Rattle.pip_model.specs.Midway.{Midway, tree_rows}
use Rattle.pip_model.specs.Sound.{IsSound}
use Rattle.pip_model.specs.Tree.{Node, Row, Tree, chain, find_node, row_at, vpage}
use Rattle.pip_kern.specs.Marking.{HasMarked, row_marked, rows_marked}

-- what the giver's first shadow says of a page that y has
abbrev pub given_to : Node → ℕ → ℕ
given_to y g = shadow1_word (use_of y g) (vpage y.born)

-- a row when these pages were given to y: the row of such a page is hidden, and the giver's own says what y uses it for
abbrev pub row_given : Node → List ℕ → Bool → FullRow → FullRow
row_given y gs own r = row_marked false (given_to y) gs own r

-- the rows by node when these pages were given to y, a child that the tree has or will have
abbrev pub rows_given : Tree → Node → List ℕ → ℕ → ℕ → Option FullRow
rows_given t y gs = rows_marked (tree_rows t) y.up false (given_to y) gs

-- the parent of y can give it the page g, which it has at vpage v and no child of it holds, and w says so
pub record CanGive (t : Tree) (y : Node) (v w g : ℕ) : Type 0 where
  pub sound : IsSound t
  pub giver : Node
  pub found : find_node t y.up ≡ Some giver
  pub row : Row
  pub at : row_at giver.rows v ≡ Some row
  pub page : row.frame ≡ g
  pub unheld : IsUnheld t y.up g
  pub word : w ≡ shadow1_word (use_of y g) (vpage y.born)

-- of the two memories, the second is in the middle of a call that gave these pages to y
abbrev pub HasGiven : Tree → Node → List ℕ → Memory → Memory → Type 0
HasGiven t y gs m n = HasMarked t (tree_rows t) y.up false (given_to y) gs m n

-- in the middle of a call the caller can give the page at vpage v
pub record CanGivePage (m : Memory) (caller v w : ℕ) : Type 0 where
  pub tree : Tree
  pub child : Node
  pub given : List ℕ
  pub frame : ℕ
  pub can : CanGive tree child v w frame
  pub up : child.up ≡ caller
  pub midway : Midway m tree (rows_given tree child given)

-- whatever pages were given before, the page at vpage v is given too, and w says so
abbrev pub GivesPage : ℕ → ℕ → ℕ → Memory → Memory → Type 0
GivesPage caller v w m n = (t : Tree) (y : Node) (gs : List ℕ) (g : ℕ) → CanGive t y v w g → y.up ≡ caller
    → Midway m t (rows_given t y gs)
    → HasGiven t y (gs ++ g ∷ []) m n

-- the parent of y can give it each of these pages, as configuration of a child whose descriptor it has at vpage born
abbrev pub CanGiveEach : Tree → Node → ℕ → List Pair → Type 0
CanGiveEach t y born ps = All (λ (p : Pair). CanGive t y (vpage p.va) (shadow1_word as_configuration born) p.frame) ps

-- in the middle of a call the caller can give these pages
pub record CanGivePages (m : Memory) (caller born : ℕ) (ps : List Pair) : Type 0 where
  pub tree : Tree
  pub child : Node
  pub given : List ℕ
  pub each : CanGiveEach tree child born ps
  pub up : child.up ≡ caller
  pub midway : Midway m tree (rows_given tree child given)

-- whatever pages were given before, those of fs, some of these pages, are given too
abbrev pub GivesFurtherPages : ℕ → ℕ → List Pair → List ℕ → Memory → Memory → Type 0
GivesFurtherPages caller born ps fs m n = (t : Tree) (y : Node) (gs : List ℕ) → CanGiveEach t y born ps → y.up ≡ caller
    → Midway m t (rows_given t y gs)
    → HasGiven t y (gs ++ fs) m n

-- ---- in how many steps

-- the page at vpage v is given in 7 steps for each partition from the caller up to the root, and 2
abbrev pub GivesPageIn : ℕ → ℕ → ℕ → Memory → ℕ → ℕ → Type 0
GivesPageIn caller v w m before after = (t : Tree) (y : Node) (gs : List ℕ) (g : ℕ) → CanGive t y v w g
    → y.up ≡ caller → Midway m t (rows_given t y gs) → after ≤ before + 7 * length (chain t caller) + 2

-- and so are these pages, or the first of them
abbrev pub GivesPagesIn : ℕ → ℕ → List Pair → ℕ → Memory → ℕ → ℕ → Type 0
GivesPagesIn caller born ps count m before after = (t : Tree) (y : Node) (gs : List ℕ) → CanGiveEach t y born ps
    → y.up ≡ caller → Midway m t (rows_given t y gs) → after ≤ before + count * (7 * length (chain t caller) + 2)
