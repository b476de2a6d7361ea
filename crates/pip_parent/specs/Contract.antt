-- What build says of its answers.
use Rattle.std.specs.Prelude.{◌≡◌, ℕ, ◌<◌, ◌≤◌, true, false, List, length, Some, None}
use Rattle.pip_model.specs.Worlds.{World, runs_on}
use Rattle.pip_model.specs.declared.processors.Occupant.{Occupant}
use Rattle.pip_parent.specs.declared.wants.Want.{Want}
use Rattle.pip_parent.specs.declared.built.Built.{Built}
use Rattle.pip_parent.specs.declared.built.BuildError.{BuildError}
use Rattle.pip_parent.specs.declared.built.BuildError.TheVariants as B
use Rattle.pip_parent.specs.Wants.{FirstBad, need}
use Rattle.pip_parent.specs.Pool.{pool_at, HasPool}
use Rattle.pip_parent.specs.Built.{lacks_right}
use Rattle.pip_parent.specs.Stages.{built_world, undone_world}

-- r runs on cpu, and the pool is one that it can build of
pub record CanBuild (w : World) (cpu : ℕ) (r : Occupant) (xs : List ℕ) : Type 0 where
  pub runs : runs_on w cpu ≡ Some r
  pub pool : HasPool w.tree r.name xs

-- Each answer comes exactly where it is said here, since each excludes the others. After Want and Short the machine
-- stands for the worlds of before: it was left alone.
abbrev pub RefusesToBuild : (World → Type 0) → (World → Type 0) → ℕ → List ℕ → List Want → BuildError → Type 0
RefusesToBuild before after cpu pool ws (B.Want i) = FirstBad ws (Some i) × ((w : World) → before w → after w)
RefusesToBuild before after cpu pool ws (B.Short have needs) =
    FirstBad ws None × (have ≡ length pool) × (needs ≡ need ws) × (have < needs) × ((w : World) → before w → after w)
RefusesToBuild before after cpu pool ws (B.NoRight i) = FirstBad ws None × (need ws ≤ length pool) × (i < length ws)
    × ((w : World) (r : Occupant) → CanBuild w cpu r pool → before w → (lacks_right w.tree r.name pool ws i ≡ true)
    × ((j : ℕ) → j < i → lacks_right w.tree r.name pool ws j ≡ false) × after (undone_world w cpu r pool ws i))

-- the child is built of the pool: its address, how many pages it takes, and the world after all wants
abbrev pub Builds : (World → Type 0) → (World → Type 0) → ℕ → List ℕ → List Want → Built → Type 0
Builds before after cpu pool ws b = FirstBad ws None × (need ws ≤ length pool) × (b.child ≡ pool_at pool 0)
    × (b.used ≡ need ws) × ((w : World) (r : Occupant) → CanBuild w cpu r pool → before w
    → ((j : ℕ) → j < length ws → lacks_right w.tree r.name pool ws j ≡ false) × after (built_world w cpu r pool ws))
