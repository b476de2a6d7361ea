-- One partition above another, by the chain of parents.
use Rattle.std.specs.Prelude.{◌≡◌}
use Rattle.pip_model.specs.Lists.{In}
use Rattle.pip_model.specs.Tree.{Node, Tree, nodes}

-- y is a proper ancestor of x
pub data Above (t : Tree) : Node → Node → Type 0 where
  parent : {y x : Node} → In x t.others → In y (nodes t) → x.up ≡ y.name → Above t y x
  further : {y z x : Node} → In x t.others → In z (nodes t) → x.up ≡ z.name → Above t y z → Above t y x
