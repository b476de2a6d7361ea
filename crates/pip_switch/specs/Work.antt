-- In how many steps machines run.
use Rattle.std.specs.Prelude.{◌≡◌, ℕ, ◌+◌, ◌≤◌, List, [], ◌∷◌}
use Rattle.pip_base.specs.declared.outcome.Outcome.{Outcome}
use Rattle.pip_model.specs.Events.{Event}
use Rattle.pip_model.specs.Port.{TakesAtMost}
use Rattle.pip_model.specs.Work.{events_work}
use Rattle.pip_model.specs.Worlds.{World}
use Rattle.pip_switch.specs.Isolation.{Takes}
use Rattle.pip_switch.specs.Standing.{StandsAs, State}

-- events one after another, with these outcomes, from one number of steps to the other, as Port promises of each
abbrev pub WorksAll : State → List Event → List Outcome → State → ℕ → ℕ → Type 0
WorksAll p [] [] q before after = (p ≡ q) × (before ≡ after)
WorksAll p [] (o ∷ os) q before after = ⊥
WorksAll p (e ∷ es) [] q before after = ⊥
WorksAll p (e ∷ es) (o ∷ os) q before after = (r : State) × (between : ℕ) × Takes p e o r
    × TakesAtMost (StandsAs p) e before between × WorksAll r es os q between after

-- they take no more steps than all of them may in the model
abbrev pub RunsTakeNoMore : Type 0
RunsTakeNoMore = (p q : State) (es : List Event) (os : List Outcome) (before after : ℕ)
    → WorksAll p es os q before after → (w : World) → StandsAs p w → after ≤ before + events_work w es
