-- What is so of the node of a name that the memory holds, whatever its tables hold.
use Rattle.std.specs.Prelude.{◌≡◌, ℕ, Option, Some}
use Rattle.pip_base.specs.Memory.{Memory}
use Rattle.pip_model.specs.FullRows.{FullRow}
use Rattle.pip_model.specs.declared.level.Level.{Level}
use Rattle.pip_model.specs.NodeIn.{NodeIn, Space}
use Rattle.pip_model.specs.Tree.{Node}

-- whatever words its tables have
abbrev pub InEachNode : Memory → ℕ → (Node → (Level → ℕ → ℕ) → Type 0) → Type 0
InEachNode m part P = (x : Node) (cells : Level → ℕ → ℕ) → NodeIn m x cells → x.name ≡ part → P x cells

-- whatever rows it has
abbrev pub InEachSpace : Memory → ℕ → (Node → (ℕ → Option FullRow) → Type 0) → Type 0
InEachSpace m part P = (x : Node) (rows : ℕ → Option FullRow) → Space m x rows → x.name ≡ part → P x rows

-- and whatever row at the vpage
abbrev pub InEachRow : Memory → ℕ → ℕ → (Node → (ℕ → Option FullRow) → FullRow → Type 0) → Type 0
InEachRow m part v P = (x : Node) (rows : ℕ → Option FullRow) (r : FullRow) → Space m x rows → x.name ≡ part
    → rows v ≡ Some r → P x rows r
