-- Pages that a partition takes back from a child, one after another.
use Rattle.std.specs.Prelude.{ℕ, ◌+◌, ◌*◌, ◌≤◌, true, Bool, List, [], ◌∷◌, ◌++◌, All, Option, length}
use Rattle.pip_base.specs.declared.types.Pair.{Pair}
use Rattle.pip_base.specs.Memory.{Memory}
use Rattle.pip_model.specs.FullRows.{FullRow}
use Rattle.pip_model.specs.Midway.{Midway}
use Rattle.pip_model.specs.Tree.{Tree, chain, vpage}
use Rattle.pip_kern.specs.Marking.{CanMark, HasMarked, row_marked, rows_marked}

-- a row when these pages were taken back: it is open, and the taker's own says that no child has the page
abbrev pub row_taken : List ℕ → Bool → FullRow → FullRow
row_taken gs own r = row_marked true (λ g. 0) gs own r

-- the rows by node when p took these pages back
abbrev pub rows_taken : (ℕ → ℕ → Option FullRow) → ℕ → List ℕ → ℕ → ℕ → Option FullRow
rows_taken rows p gs = rows_marked rows p true (λ g. 0) gs

-- p can take the page g back, which it has at vpage v
abbrev pub CanTake : Tree → ℕ → ℕ → ℕ → Type 0
CanTake t p v g = CanMark t p v g

-- of the two memories, the second is in the middle of a call in which p took these pages back
abbrev pub HasTaken : Tree → (ℕ → ℕ → Option FullRow) → ℕ → List ℕ → Memory → Memory → Type 0
HasTaken t rows p gs m n = HasMarked t rows p true (λ g. 0) gs m n

-- in the middle of a call the caller can take the page at vpage v back
pub record CanTakePage (m : Memory) (caller v : ℕ) : Type 0 where
  pub tree : Tree
  pub rows : ℕ → ℕ → Option FullRow
  pub taken : List ℕ
  pub frame : ℕ
  pub can : CanTake tree caller v frame
  pub midway : Midway m tree (rows_taken rows caller taken)

-- whatever pages were taken back before, the page at vpage v is too
abbrev pub TakesPage : ℕ → ℕ → Memory → Memory → Type 0
TakesPage caller v m n = (t : Tree) (rows : ℕ → ℕ → Option FullRow) (gs : List ℕ) (g : ℕ) → CanTake t caller v g
    → Midway m t (rows_taken rows caller gs)
    → HasTaken t rows caller (gs ++ g ∷ []) m n

-- p can take each of these pages back
abbrev pub CanTakeEach : Tree → ℕ → List Pair → Type 0
CanTakeEach t p ps = All (λ (q : Pair). CanTake t p (vpage q.va) q.frame) ps

-- in the middle of a call the caller can take these pages back
pub record CanTakePages (m : Memory) (caller : ℕ) (ps : List Pair) : Type 0 where
  pub tree : Tree
  pub rows : ℕ → ℕ → Option FullRow
  pub taken : List ℕ
  pub each : CanTakeEach tree caller ps
  pub midway : Midway m tree (rows_taken rows caller taken)

-- whatever pages were taken back before, those of fs, some of these pages, are too
abbrev pub TakesPages : ℕ → List Pair → List ℕ → Memory → Memory → Type 0
TakesPages caller ps fs m n = (t : Tree) (rows : ℕ → ℕ → Option FullRow) (gs : List ℕ) → CanTakeEach t caller ps
    → Midway m t (rows_taken rows caller gs)
    → HasTaken t rows caller (gs ++ fs) m n

-- ---- in how many steps

-- the page at vpage v is taken back in 7 steps for each partition from the caller up to the root, and 2
abbrev pub TakesPageIn : ℕ → ℕ → Memory → ℕ → ℕ → Type 0
TakesPageIn caller v m before after = (t : Tree) (rows : ℕ → ℕ → Option FullRow) (gs : List ℕ) (g : ℕ)
    → CanTake t caller v g → Midway m t (rows_taken rows caller gs) → after ≤ before + 7 * length (chain t caller) + 2

-- and so are these pages, or the first of them
abbrev pub TakesPagesIn : ℕ → List Pair → ℕ → Memory → ℕ → ℕ → Type 0
TakesPagesIn caller ps count m before after = (t : Tree) (rows : ℕ → ℕ → Option FullRow) (gs : List ℕ)
    → CanTakeEach t caller ps → Midway m t (rows_taken rows caller gs)
    → after ≤ before + count * (7 * length (chain t caller) + 2)
