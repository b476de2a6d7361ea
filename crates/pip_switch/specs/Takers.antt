-- Who takes a vector.
use Rattle.std.specs.Prelude.{ℕ, if◌then◌else◌, Option, None}
use Rattle.pip_base.specs.declared.types.Ctx.{Ctx}
use Rattle.pip_model.specs.Handlers.{handler}
use Rattle.pip_model.specs.Lists.{has}
use Rattle.pip_model.specs.Worlds.{World, running}

-- where a partition handles a vector, if it doesn't run
abbrev pub free_handler : World → ℕ → ℕ → Option Ctx
free_handler w p k = if has (running w) p then None else handler w.tree p k
