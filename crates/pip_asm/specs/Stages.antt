-- Which lines stand where.
use Rattle.std.specs.Prelude.{◌≡◌, ℕ, List, Ok}
use Rattle.pip_model.specs.AsmLines.{Statement, statement}
use Rattle.pip_model.specs.declared.assembly.Stage.{Stage}

-- some line of this stage says it
abbrev pub StandsAt : Stage → Statement → Type 0
StandsAt g st = (line : List ℕ) × (statement g line ≡ Ok st)
