-- Accesses that ask a translation cache.
use Rattle.std.specs.Prelude.{ℕ, if◌then◌else◌}
use Rattle.pip_base.specs.declared.types.Access.{Access}
use Rattle.pip_base.specs.declared.types.Size.{Size}
use Rattle.pip_base.specs.Memory.{Memory}
use Rattle.pip_model.specs.Cache.{Agrees, Places, cache_after_access}
use Rattle.pip_model.specs.Partitions.{HasPartition}
use Rattle.pip_model.specs.Reach.{is_misaligned}
use Rattle.pip_model.specs.Tree.{Tree}

-- some sound tree is laid out by the memory and has this partition, and the entries of the cache are rows of it
abbrev pub HasCached : Memory → ℕ → Places → Type 0
HasCached m part c = (s : HasPartition m part) × Agrees s.tree c

-- the cache after an access; one that isn't aligned looks nothing up
abbrev pub after_access : Tree → Places → ℕ → ℕ → Access → Size → Places
after_access t c part va access size = if is_misaligned va size then c else cache_after_access t c part va access
