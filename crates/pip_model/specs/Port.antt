-- What a machine promises of its events.
use Rattle.std.specs.Prelude.{◌≡◌, ℕ, ◌+◌, ◌≤◌, List}
use Rattle.pip_base.specs.declared.outcome.Outcome.{Outcome}
use Rattle.pip_base.specs.declared.types.Ctx.{Ctx}
use Rattle.pip_model.specs.Acts.{Act, events_made}
use Rattle.pip_model.specs.Events as E
use Rattle.pip_model.specs.Events.{Event}
use Rattle.pip_model.specs.Happens.{event}
use Rattle.pip_model.specs.Work.{event_work, events_work}
use Rattle.pip_model.specs.Worlds.{World, ctx_on}

-- from the worlds for which a machine stands before to those for which it stands after: for each before, the outcome is
-- that of the event, and the world of the event is one after
abbrev pub Follows : (World → Type 0) → (World → Type 0) → Event → Outcome → Type 0
Follows before after e outcome = (w : World) → before w → (outcome ≡ (event w e).outcome) × after (event w e).world

-- what runs on a processor gets the context that f makes of its own, in each world for which the machine stands
abbrev pub Changes : (World → Type 0) → (World → Type 0) → ℕ → (Ctx → Ctx) → Type 0
Changes before after cpu f = (w : World) → before w → after (event w (E.SetContext cpu (f (ctx_on w cpu)))).world

-- it stands for some world
abbrev pub StandsForSome : (World → Type 0) → Type 0
StandsForSome stands = ∥ ((w : World) × stands w) ∥₁

-- in each world for which a machine stands, the event takes no more steps than it may there
abbrev pub TakesAtMost : (World → Type 0) → Event → ℕ → ℕ → Type 0
TakesAtMost stands e before after = (w : World) → stands w → after ≤ before + event_work w e

-- nor do the events that these acts make
abbrev pub TakesNoMore : (World → Type 0) → (World → List Act) → ℕ → ℕ → Type 0
TakesNoMore stands acts before after =
    (w : World) → stands w → after ≤ before + events_work w (events_made (acts w))
