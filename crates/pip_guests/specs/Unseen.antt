-- What a partition does that nobody outside sees.
use Rattle.std.specs.Prelude.{◌≡◌, ℕ, true, List, Option, Some, None, is_some}
use Rattle.pip_base.specs.declared.outcome.Outcome.{Outcome}
use Rattle.pip_base.specs.declared.outcome.Outcome.TheVariants as O
use Rattle.pip_base.specs.declared.types.Access.TheVariants.{Load, Store, Fetch}
use Rattle.pip_base.specs.declared.types.Size.{Size}
use Rattle.pip_base.specs.declared.types.Size.TheVariants.{Word}
use Rattle.pip_model.specs.Events.{Event}
use Rattle.pip_model.specs.Events as E
use Rattle.pip_model.specs.Happens.{event, written_over}
use Rattle.pip_model.specs.Lists.{In}
use Rattle.pip_model.specs.Reach.{Faulted, Place, Reached, reach}
use Rattle.pip_model.specs.Tree.{Tree, word_of}
use Rattle.pip_model.specs.Worlds.{World, runs_on}
use Rattle.pip_model.specs.declared.processors.Occupant.{Occupant}
use Rattle.pip_guests.specs.Outside.{Alike, AlikeTrees}

-- one of these partitions runs, of which this holds
abbrev pub ByOneOf : List ℕ → Option Occupant → (Occupant → Type 0) → Type 0
ByOneOf own None P = ⊥
ByOneOf own (Some r) P = In r.name own × P r

-- an access doesn't fault
abbrev pub Answers : Reached → Type 0
Answers (Place g i) = Unit {0}
Answers (Faulted f) = ⊥

-- a store of n goes to a page that has words, and what is seen of the word there stays
abbrev pub GoesTo : (ℕ → ℕ → ℕ → ℕ) → Tree → ℕ → Size → ℕ → Reached → Type 0
GoesTo look t va z n (Place g i) = (look g i (written_over va z n (word_of (t.words g) i))
    ≡ look g i (word_of (t.words g) i)) × (is_some (t.words g) ≡ true)
GoesTo look t va z n (Faulted f) = ⊥

-- a call is replied to, or is a yield of a partition to itself
abbrev pub StaysThere : Outcome → Type 0
StaysThere (O.Reply s v) = Unit {0}
StaysThere (O.Word x) = ⊥
StaysThere O.Done = ⊥
StaysThere (O.Switched p q k) = q ≡ p
StaysThere (O.Parked p k) = ⊥
StaysThere O.Idle = ⊥

-- an event of one of these partitions stays inside: a load or a fetch that is answered, a store that changes nothing
-- that is seen, a context that is set; a call that is replied to, or a yield to itself, after which the tree looks as
-- before
abbrev pub IsUnseen : List ℕ → (ℕ → ℕ → ℕ → ℕ) → World → Event → Type 0
IsUnseen own look w (E.Load cpu va z) =
    ByOneOf own (runs_on w cpu) (λ r. Answers (reach w.tree r.name va Load z))
IsUnseen own look w (E.Store cpu va z x) =
    ByOneOf own (runs_on w cpu) (λ r. GoesTo look w.tree va z x (reach w.tree r.name va Store z))
IsUnseen own look w (E.Fetch cpu) =
    ByOneOf own (runs_on w cpu) (λ r. Answers (reach w.tree r.name r.ctx.pc Fetch Word))
IsUnseen own look w (E.Trap cpu k a b) = ⊥
IsUnseen own look w (E.Call cpu number a) = ByOneOf own (runs_on w cpu) (λ r. Unit {0})
    × StaysThere (event w (E.Call cpu number a)).outcome
    × AlikeTrees look (event w (E.Call cpu number a)).world.tree w.tree
IsUnseen own look w (E.Raise j) = ⊥
IsUnseen own look w (E.Poll cpu) = ⊥
IsUnseen own look w (E.SetContext cpu c) = ByOneOf own (runs_on w cpu) (λ r. Unit {0})

-- after such an event the world looks from outside as before
abbrev pub UnseenIsUnseen : Type 0
UnseenIsUnseen =
    (own : List ℕ) (look : ℕ → ℕ → ℕ → ℕ) (w : World) (e : Event) → IsUnseen own look w e
    → Alike own look (event w e).world w
