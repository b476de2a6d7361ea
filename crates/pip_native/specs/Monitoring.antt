-- What a monitor keeps, and what a decision does.
use Rattle.std.specs.Prelude.{ℕ, ◌-◌, ◌^◌, ◌==◌, if◌then◌else◌, List, [], ◌∷◌, length, bit_and, slice_index}
use Rattle.pip_base.specs.declared.outcome.Outcome.{Outcome}
use Rattle.pip_base.specs.declared.outcome.Outcome.TheVariants as O
use Rattle.pip_model.specs.Acts.{Act, Makes}
use Rattle.pip_model.specs.Answers.{Five}
use Rattle.pip_model.specs.Events as E
use Rattle.pip_model.specs.Events.{Event}
use Rattle.pip_model.specs.Happens.{event}
use Rattle.pip_model.specs.Worlds.{World}
use Rattle.pip_native.specs.Choice.{next_of}
use Rattle.pip_native.specs.declared.decision.Decision.{Decision}
use Rattle.pip_native.specs.declared.decision.Decision.TheVariants as D

-- the addresses of the children's descriptors, the bits of those that are alive, and the one that was chosen last
pub record Children : Type 0 where
  pub children : List ℕ
  pub alive : ℕ
  pub last : ℕ

-- at first
abbrev pub all_alive : List ℕ → Children
all_alive children = record { children = children; alive = 2 ^ length children - 1; last = length children - 1 }

-- the next child; the number of children where none is alive
abbrev pub choice : Children → ℕ
choice m = next_of (length m.children) m.alive m.last

-- the words of a yield to the next child: vector 63, and nothing is saved
abbrev pub visit_words : Children → Five
visit_words m = record { x0 = slice_index m.children (choice m); x1 = 63; x2 = 256; x3 = 0; x4 = 0 }

-- the event of a visit: what runs on cpu yields to the next child
abbrev pub visit : ℕ → Children → Event
visit cpu m = E.Call cpu 8 (visit_words m)

-- the acts of a visit; none where no child is alive
abbrev pub visit_acts : ℕ → Children → List Act
visit_acts cpu m = if choice m == length m.children then [] else Makes (visit cpu m) ∷ []

-- by the outcome: a call that replies was refused
abbrev pub decision_of : ℕ → Outcome → Decision
decision_of i (O.Reply status value) = D.Dropped i status
decision_of i _ = D.Ran i

-- the bits without that of i
abbrev pub without_child : ℕ → ℕ → ℕ
without_child alive i = bit_and alive (2 ^ 32 - 1 - 2 ^ i)

-- the monitor after the outcome of its visit of i
abbrev pub heard : Children → ℕ → Outcome → Children
heard m i (O.Reply status value) = record m { alive = without_child m.alive i; last = i }
heard m i _ = record m { last = i }

-- what is decided in a world
abbrev pub decision_in : World → ℕ → Children → Decision
decision_in w cpu m = if choice m == length m.children then D.Nobody
    else decision_of (choice m) (event w (visit cpu m)).outcome

-- the monitor after a decision
abbrev pub monitor_after : World → ℕ → Children → Children
monitor_after w cpu m = if choice m == length m.children then m else heard m (choice m) (event w (visit cpu m)).outcome

-- a decision runs a child
abbrev pub RunsChild : Decision → Type 0
RunsChild (D.Ran child) = Unit {0}
RunsChild (D.Dropped child status) = ⊥
RunsChild D.Nobody = ⊥

-- an outcome is a switch of control: the processor entered a partition
abbrev pub HasSwitched : Outcome → Type 0
HasSwitched (O.Switched from to vector) = Unit {0}
HasSwitched _ = ⊥
