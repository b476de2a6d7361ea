-- What a client says of the machine that it drives.
use Rattle.std.specs.Prelude.{◌≡◌, ℕ, List}
use Rattle.pip_base.specs.declared.types.Access.{Access}
use Rattle.pip_base.specs.declared.types.Size.{Size}
use Rattle.pip_model.specs.Lists.{In}
use Rattle.pip_model.specs.Reach.{Place, reach}
use Rattle.pip_model.specs.Tree.{Node, Tree, config, nodes}
use Rattle.pip_model.specs.Worlds.{World}

-- whatever an access of any partition reaches is in no partition's configuration
abbrev pub AreIsolated : Tree → Type 0
AreIsolated t = (p va g i : ℕ) (access : Access) (size : Size) (x : Node) → reach t p va access size ≡ Place g i
    → In x (nodes t) → In g (config x) → ⊥

-- in each world that a machine stands for partitions are isolated
abbrev pub StaysIsolated : (World → Type 0) → Type 0
StaysIsolated stands = (w : World) → stands w → AreIsolated w.tree
