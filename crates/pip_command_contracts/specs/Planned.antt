-- The interrupt lines of plans.
use Rattle.std.specs.Prelude.{ℕ, List, map}
use Rattle.pip_base.specs.declared.types.Plan.{Plan}

-- the interrupt lines of plans
abbrev pub lines_planned : List Plan → List ℕ
lines_planned plans = map (λ p. p.line) plans
