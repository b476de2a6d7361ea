use Rattle.std.proofs.Common.{◌≡◌, ◌+◌, ◌<◌, ℕ, true}
use Rattle.pip_model.specs.Layout.{LaysOut}
use Rattle.pip_model.specs.Lists.{In}
use Rattle.pip_model.specs.Sound.{IsSound}
use Rattle.pip_model.specs.Tree.{Tree}
use Rattle.pip_guests.specs.Sights as tests
use Rattle.pip_away.specs.Blind.{sight_of}
use Rattle.pip_away.proofs.lines.lines_miss.Given as goal

-- the handlers of those that were looked at miss
abbrev pub invariant-loop-line : goal.invariant-loop-line
invariant-loop-line g l = (t : Tree) → IsSound t → LaysOut t (g.M.Frames.memory l.mem) → (j : ℕ)
    → In j t.root.pending → j < l.line
    → tests.handler_passes l.blind.own.items (sight_of l.blind) t t.root.name (32 + j) ≡ true
