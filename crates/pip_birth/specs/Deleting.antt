-- Whom deletePartition asks about.
use Rattle.std.specs.Prelude.{ℕ, List, All}
use Rattle.pip_base.specs.Memory.{Memory}
use Rattle.pip_model.specs.Layout.{LaysOut}
use Rattle.pip_model.specs.Lists.{In}
use Rattle.pip_model.specs.Sound.{IsSound}
use Rattle.pip_model.specs.Tree.{Tree, names_of, nodes}

-- all these are partitions of the tree
abbrev pub ArePartitions : Tree → List ℕ → Type 0
ArePartitions t rs = All (λ (r : ℕ). In r (names_of (nodes t))) rs

-- all these are partitions of some sound tree that the memory lays out
pub record HasPartitions (m : Memory) (rs : List ℕ) : Type 0 where
  pub tree : Tree
  pub sound : IsSound tree
  pub laid : LaysOut tree m
  pub each : ArePartitions tree rs
