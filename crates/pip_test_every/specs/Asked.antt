-- What is asked of a machine, as events.
use Rattle.std.specs.Prelude.{ℕ, ◌&&◌, nat_lt, Bool, true, List, [], ◌∷◌}
use Rattle.pip_base.specs.declared.types.Size.TheVariants.{Word}
use Rattle.pip_model.specs.Answers.{five_of}
use Rattle.pip_model.specs.Events as E
use Rattle.pip_model.specs.Events.{Event}
use Rattle.pip_test_every.specs.declared.asks.Ask.{Ask}
use Rattle.pip_test_every.specs.declared.asks.Ask.TheVariants.{Load, Store, Fetch, Trap, Call, Raise, Poll, SetContext}

-- the event that is asked for
abbrev pub asked : Ask → Event
asked (Load cpu va) = E.Load cpu va Word
asked (Store cpu va word) = E.Store cpu va Word word
asked (Fetch cpu) = E.Fetch cpu
asked (Trap cpu k a b) = E.Trap cpu k a b
asked (Call cpu number args) = E.Call cpu number (five_of args)
asked (Raise j) = E.Raise j
asked (Poll cpu) = E.Poll cpu
asked (SetContext cpu c) = E.SetContext cpu c

-- the events of a list
abbrev pub all_asked : List Ask → List Event
all_asked [] = []
all_asked (a ∷ more) = asked a ∷ all_asked more

-- a machine of that many processors can take it
abbrev pub can_take : ℕ → Ask → Bool
can_take cpus (Load cpu va) = nat_lt cpu cpus
can_take cpus (Store cpu va word) = nat_lt cpu cpus
can_take cpus (Fetch cpu) = nat_lt cpu cpus
can_take cpus (Trap cpu k a b) = nat_lt cpu cpus
can_take cpus (Call cpu number args) = nat_lt cpu cpus
can_take cpus (Raise j) = nat_lt j 16
can_take cpus (Poll cpu) = nat_lt cpu cpus
can_take cpus (SetContext cpu c) = nat_lt cpu cpus

-- it can take all of a list
abbrev pub can_take_all : ℕ → List Ask → Bool
can_take_all cpus [] = true
can_take_all cpus (a ∷ more) = can_take cpus a && can_take_all cpus more
