-- Frames with which a machine begins.
use Rattle.std.specs.Prelude.{ℕ, ◌≤◌}
use Rattle.pip_base.specs.Memory.{Memory}
use Rattle.pip_model.specs.Boot.{boot_tree_with}
use Rattle.pip_model.specs.Layout.{LaysOut}
use Rattle.pip_model.specs.Sound.{ArePageWords}

-- they lay out the boot tree of n frames, with these words in the root's pages
pub record IsBooted (n : ℕ) (words : ℕ → ℕ → ℕ) (m : Memory) : Type 0 where
  pub least : 16 ≤ n
  pub most : n ≤ 4096
  pub small : ArePageWords words
  pub laid : LaysOut (boot_tree_with words n) m

-- there are such a number and such words
pub record HasBooted (m : Memory) : Type 0 where
  pub frames : ℕ
  pub words : ℕ → ℕ → ℕ
  pub booted : IsBooted frames words m
