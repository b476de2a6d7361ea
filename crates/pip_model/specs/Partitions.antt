-- What a memory says of one partition, whichever sound tree it lays out.
use Rattle.std.specs.Prelude.{◌≡◌, ℕ, Some}
use Rattle.pip_base.specs.Memory.{Memory}
use Rattle.pip_model.specs.Layout.{LaysOut}
use Rattle.pip_model.specs.Sound.{IsSound}
use Rattle.pip_model.specs.Tree.{Node, Tree, find_node}

-- some sound tree is laid out by the memory and has this partition
pub record HasPartition (m : Memory) (part : ℕ) : Type 0 where
  pub tree : Tree
  pub node : Node
  pub sound : IsSound tree
  pub laid : LaysOut tree m
  pub found : find_node tree part ≡ Some node

-- a sound tree is laid out by the memory
abbrev pub IsHeld : Tree → Memory → Type 0
IsHeld t m = IsSound t × LaysOut t m

-- in each sound tree that the memory lays out, P holds of the partition of this name
abbrev pub InEach : Memory → ℕ → (Tree → Node → Type 0) → Type 0
InEach m part P = (t : Tree) (x : Node) → IsSound t → LaysOut t m → find_node t part ≡ Some x → P t x
