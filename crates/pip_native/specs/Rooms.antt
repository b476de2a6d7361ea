-- What the children's pages are before child i is built.
use Rattle.std.specs.Prelude.{◌≡◌, ℕ, ◌+◌, ◌*◌, ◌≤◌, ◌<◌, ◌⊎◌, true, Some}
use Rattle.pip_model.specs.Tree.{free, vpage}
use Rattle.pip_model.specs.Worlds.{World, runs_on}
use Rattle.pip_model.specs.declared.processors.Occupant.{Occupant}
use Rattle.pip_native.specs.Watching.{page_address, pages_taken}

-- page k is one of the children from child i on
abbrev pub IsLeftPage : ℕ → ℕ → ℕ → Type 0
IsLeftPage n i k = ((i ≤ k) × (k < n)) ⊎ ((n + 12 * i ≤ k) × (k < pages_taken n))

-- the root runs on processor 0, there are enough frames, and no child has the page of the root's handlers or a page of
-- the children from child i on
pub record HasRoomForChildren (n i : ℕ) (w : World) : Type 0 where
  pub runner : Occupant
  pub runs : runs_on w 0 ≡ Some runner
  pub root : runner.name ≡ w.tree.root.name
  pub frames : pages_taken n + 13 ≤ w.tree.frames
  pub top : free w.tree w.tree.root.name (vpage 0xfffff000) ≡ true
  pub left : (k : ℕ) → IsLeftPage n i k → free w.tree w.tree.root.name (vpage (page_address k)) ≡ true
