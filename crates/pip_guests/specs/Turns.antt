-- A turn of a processor on which a partition outside runs.
use Rattle.std.specs.Prelude.{◌≡◌, ℕ, List, [], ◌∷◌}
use Rattle.pip_model.specs.Acts.{after_acts, events_made}
use Rattle.pip_model.specs.Events.{Event}
use Rattle.pip_model.specs.Happens.{event}
use Rattle.pip_model.specs.Turn.{turn}
use Rattle.pip_model.specs.Worlds.{World}
use Rattle.pip_guests.specs.Outside.{Alike, ReadsOutside}

-- no event of a list, each at its moment, reads anything of words but what is seen
abbrev pub AllReadOutside : List ℕ → (ℕ → ℕ → ℕ → ℕ) → World → List Event → Type 0
AllReadOutside own look w [] = Unit {0}
AllReadOutside own look w (e ∷ es) =
    ReadsOutside own look w e × AllReadOutside own look (event w e).world es

-- no event of a turn does. What is fetched is that of a partition outside
abbrev pub TurnReadsOutside : List ℕ → (ℕ → ℕ → ℕ → ℕ) → World → ℕ → ℕ → Type 0
TurnReadsOutside own look w cpu step = AllReadOutside own look w (events_made (turn w cpu step))

-- the turn is one in both worlds, event by event and line by line, and they look alike again
pub record IsOneTurn (own : List ℕ) (look : ℕ → ℕ → ℕ → ℕ) (cpu step : ℕ) (w v : World) : Type 0 where
  pub acts : turn w cpu step ≡ turn v cpu step
  pub world : Alike own look (after_acts w (turn w cpu step)) (after_acts v (turn v cpu step))

-- that is so of every turn that reads nothing else
abbrev pub TurnsDependOnOutside : Type 0
TurnsDependOnOutside = (own : List ℕ) (look : ℕ → ℕ → ℕ → ℕ) (w v : World) (cpu step : ℕ) → Alike own look w v
    → TurnReadsOutside own look w cpu step → IsOneTurn own look cpu step w v
