-- A world by its tree and its processors alone.
use Rattle.std.specs.Prelude.{List, [], Option}
use Rattle.pip_model.specs.Tree.{Tree}
use Rattle.pip_model.specs.Worlds.{World}
use Rattle.pip_model.specs.declared.processors.Occupant.{Occupant}

-- for what looks at no cache
abbrev pub plain_world : Tree → List (Option Occupant) → World
plain_world t cs = record { tree = t; cpus = cs; caches = [] }
