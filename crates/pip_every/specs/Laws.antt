-- What the law on keys says: a key stands for one moment, but for its caches and for the order of its tree's nodes, and
-- each moment has one key.
use Rattle.std.specs.Prelude.{◌≡◌, ℕ, List}
use Rattle.pip_base.specs.Memory.{IsMemory, Memory}
use Rattle.pip_model.specs.Layout.{AreSame, HasSameLayout}
use Rattle.pip_every.specs.Keys.{IsKeyOf}
use Rattle.pip_every.specs.Moments.{Moment, Scope}

-- no moment has two keys, nor have two moments with the same turns, processors and layouts
abbrev pub MomentsHaveOneKey : Type 0
MomentsHaveOneKey = (first : Memory) (g : Scope) (m n : Moment) (key other : List ℕ) → m.turns ≡ n.turns
    → m.world.cpus ≡ n.world.cpus → HasSameLayout m.world.tree n.world.tree → IsKeyOf first g key m
    → IsKeyOf first g other n → key ≡ other

-- two moments may differ in their caches and in the order of their nodes
pub record AreAlike (m n : Moment) : Type 0 where
  pub turns : m.turns ≡ n.turns
  pub cpus : m.world.cpus ≡ n.world.cpus
  pub trees : AreSame m.world.tree n.world.tree

-- those of one key are alike
abbrev pub KeysTellMoments : Type 0
KeysTellMoments = (first : Memory) (g : Scope) (key : List ℕ) (m n : Moment) → IsMemory first → IsKeyOf first g key m
    → IsKeyOf first g key n → AreAlike m n
