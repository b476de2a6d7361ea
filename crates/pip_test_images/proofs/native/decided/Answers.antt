use Rattle.std.proofs.Common.{◌≡◌, refl, sym, ◌∙◌, Option, Some, None}
use Rattle.std.specs.Prelude.{ℕ, IsSome, option_map}
use Rattle.pip_model.specs.Worlds.{runs_on}
use Rattle.pip_model.specs.declared.processors.Occupant.{Occupant}
use Rattle.pip_test_images.proofs.native.decided.Goals as goal

-- where a partition runs, something does
named_some : (o : Option Occupant) (p : ℕ) → Some p ≡ option_map (λ r. r.name) o → IsSome o
named_some None p e = cc
named_some (Some r) p e = refl

pub decide-requires-clause-runs : goal.decide-requires-clause-runs
decide-requires-clause-runs g c w s = named_some (runs_on w 0) c.in-Some.field-0 (sym c.in-Some.is ∙ c.runs.ensures w s)
