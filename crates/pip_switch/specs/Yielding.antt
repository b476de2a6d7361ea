-- What a yield is tested for.
use Rattle.std.specs.Prelude.{◌≡◌, ℕ, List, Option, Some, Result}
use Rattle.pip_base.specs.Memory.{Memory}
use Rattle.pip_base.specs.declared.outcome.Status.{Status}
use Rattle.pip_kern.specs.Tested.{Tested}
use Rattle.pip_model.specs.Answers.{Five}
use Rattle.pip_model.specs.Handlers.{handler}
use Rattle.pip_model.specs.Switching.{node_name, target_node, yield_place, yield_refusals}
use Rattle.pip_model.specs.Tree.{Node, find_node}
use Rattle.pip_model.specs.Worlds.{World}
use Rattle.pip_model.specs.declared.processors.Occupant.{Occupant}
use Rattle.pip_switch.specs.Blocks.{place_of}
use Rattle.pip_switch.specs.Standing.{StandsFor}
use Rattle.pip_switch.specs.declared.blocks.HandlerBlock.{HandlerBlock}

-- the target with the context of its handler, and where the caller is saved
abbrev pub IsYield : World → ℕ → Five → Option Node → Occupant × Option HandlerBlock → Type 0
IsYield w caller a q y =
    (node_name q ≡ y.0.name)
    × (handler w.tree (node_name q) a.x1 ≡ Some y.0.ctx)
    × (y.1 ≡ place_of (yield_place w.tree caller a.x2))

-- a yield by the caller is refused by the first test that isn't passed, or it is this
abbrev pub YieldTested : Memory → List (Option Occupant) → ℕ → Five → Result (Occupant × Option HandlerBlock) Status
    → Type 0
YieldTested m cs caller a result =
    (w : World) (x : Node) → StandsFor m cs w → find_node w.tree caller ≡ Some x
    → let q = target_node w.tree caller a.x0 in Tested (yield_refusals w caller a q) (IsYield w caller a q) result
