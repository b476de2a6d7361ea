-- The interrupt lines of plans are below 16.
use Rattle.std.proofs.Common.{◌<◌, List, [], ◌∷◌}
use Rattle.std.proofs.lemmas.List.Elements.{All-cons, All-nil}
use Rattle.std.specs.List.{All, AllByRecursion}
use Rattle.pip_base.specs.declared.types.Plan.{Plan}
use Rattle.pip_command_contracts.specs.Planned.{lines_planned}

-- the lines of plans are below 16 where those of the plans are
pub lines_below : (plans : List Plan) → AllByRecursion (λ p. p.line < 16) plans
    → All (λ line. line < 16) (lines_planned plans)
lines_below [] all = All-nil (λ line. line < 16)
lines_below (p ∷ plans) all =
    All-cons (λ line. line < 16) p.line (lines_planned plans) all.0 (lines_below plans all.1)
