-- What is asked of a machine, as events.
use Rattle.std.specs.Prelude.{◌≡◌, ℕ, ◌+◌, ◌^◌, ◌<◌, List, [], ◌∷◌}
use Rattle.pip_base.specs.declared.types.Size.TheVariants.{Word}
use Rattle.pip_model.specs.Events as E
use Rattle.pip_model.specs.Events.{Event}
use Rattle.pip_model.specs.Answers.{five_of}
use Rattle.pip_model.specs.Soak.{Drawn, drawn}
use Rattle.pip_soak.specs.declared.asks.Ask.{Ask}
use Rattle.pip_soak.specs.declared.asks.Ask.TheVariants.{Load, Store, Call, Raise, Poll}
use Rattle.pip_soak.specs.declared.asks.LoadStep.{LoadStep}
use Rattle.pip_soak.specs.declared.asks.LoadStep.TheVariants.{One, Prepare}

-- the event of one ask
abbrev pub event_of : Ask → Event
event_of (Load cpu va) = E.Load cpu va Word
event_of (Store cpu va word) = E.Store cpu va Word word
event_of (Call cpu number args) = E.Call cpu number (five_of args)
event_of (Raise line) = E.Raise line
event_of (Poll cpu) = E.Poll cpu

-- the events of a step: that of one ask, or two stores that link pages, and the prepare that takes them
abbrev pub events_of : LoadStep → List Event
events_of (One a) = event_of a ∷ []
events_of (Prepare cpu x page place) = E.Store cpu x Word (x + 4096) ∷ E.Store cpu (x + 4096) Word (x + 8192)
    ∷ E.Call cpu 3 (five_of (page ∷ place ∷ x ∷ 0 ∷ 0 ∷ [])) ∷ []

-- a machine of that many processors can be asked this
abbrev pub IsAskOf : ℕ → Ask → Type 0
IsAskOf cpus (Load cpu va) = cpu < cpus
IsAskOf cpus (Store cpu va word) = cpu < cpus
IsAskOf cpus (Call cpu number args) = cpu < cpus
IsAskOf cpus (Raise line) = line < 16
IsAskOf cpus (Poll cpu) = cpu < cpus

-- a step's processors and addresses are in their ranges
abbrev pub AreAsksOf : ℕ → LoadStep → Type 0
AreAsksOf cpus (One a) = IsAskOf cpus a
AreAsksOf cpus (Prepare cpu x page place) = (cpu < cpus) × (x + 8192 < 2 ^ 32)

-- what is drawn in one state is this step, and the other state is left
abbrev pub IsDrawn : (ℕ → Drawn) → ℕ → ℕ → LoadStep → Type 0
IsDrawn draws old new step = draws old ≡ drawn (events_of step) new
