-- What an event of one partition leaves alone, and what it depends on.
use Rattle.std.specs.Prelude.{◌≡◌, ◌≢◌, ℕ, ◌<◌, ◌↔◌, ◌⊎◌, Bool, false, cond, List, [], ◌∷◌, length, Option, Some}
use Rattle.std.specs.Prelude.{option_map}
use Rattle.std.specs.List.{AllByRecursion}
use Rattle.pip_base.specs.declared.outcome.Outcome.{Outcome}
use Rattle.pip_base.specs.declared.outcome.Outcome.TheVariants as O
use Rattle.pip_base.specs.declared.types.Access.{Access}
use Rattle.pip_base.specs.declared.types.Size.{Size}
use Rattle.pip_model.specs.Events.{Event, IsEvent}
use Rattle.pip_model.specs.Happens.{IsSwitching, after, outcomes, call_named, event}
use Rattle.pip_model.specs.declared.call_name.MemoryCall.TheVariants.{DeletePartition}
use Rattle.pip_model.specs.declared.call_name.CallName.TheVariants.{OnMemory}
use Rattle.pip_model.specs.Lists.{In, has}
use Rattle.pip_model.specs.Poll.{occupant_name}
use Rattle.pip_model.specs.Reach.{reach}
use Rattle.pip_model.specs.Switching.{with_zeros}
use Rattle.pip_model.specs.Tree.{Node, Tree, ancestry, names_of, node, nodes, row_pages, word_of}
use Rattle.pip_model.specs.Worlds.{IsSoundWorld, World, running, runs_on}
use Rattle.pip_model.specs.declared.processors.Occupant.{Occupant}
use Rattle.pip_model.specs.Events as E

-- x is p or is below it
abbrev pub IsBelow : Tree → ℕ → Node → Type 0
IsBelow t p x = In x (nodes t) × In p (ancestry t x.name)

-- x is neither
abbrev pub IsOutside : Tree → ℕ → Node → Type 0
IsOutside t p x = In x (nodes t) × (In p (ancestry t x.name) → ⊥)

-- q is neither p, nor below it, nor above it
pub record IsAside (t : Tree) (p q : ℕ) : Type 0 where
  pub there : In q (names_of (nodes t))
  pub not_below : In p (ancestry t q) → ⊥
  pub not_above : In q (ancestry t p) → ⊥

-- the processor of an event
abbrev pub cpu_of : Event → ℕ
cpu_of (E.Load cpu va size) = cpu
cpu_of (E.Store cpu va size word) = cpu
cpu_of (E.Fetch cpu) = cpu
cpu_of (E.Trap cpu k a b) = cpu
cpu_of (E.Call cpu number a) = cpu
cpu_of (E.Raise j) = 0
cpu_of (E.Poll cpu) = cpu
cpu_of (E.SetContext cpu c) = cpu

-- the name of the partition that runs on the processor of an event; 0 where none runs
abbrev pub actor : World → Event → ℕ
actor w e = occupant_name (runs_on w (cpu_of e))

-- an access came so where it did not fault
abbrev pub Succeeded : Outcome → Type 0
Succeeded (O.Word w) = Unit {0}
Succeeded O.Done = Unit {0}
Succeeded (O.Reply s v) = ⊥
Succeeded (O.Switched from to k) = ⊥
Succeeded (O.Parked p k) = ⊥
Succeeded O.Idle = ⊥

-- an access that succeeds, or a call that does not switch
abbrev pub IsPlain : World → Event → Type 0
IsPlain w (E.Call cpu number a) = IsSwitching (call_named number) → ⊥
IsPlain w (E.Load cpu va size) = Succeeded (event w (E.Load cpu va size)).outcome
IsPlain w (E.Store cpu va size word) = Succeeded (event w (E.Store cpu va size word)).outcome
IsPlain w (E.Fetch cpu) = Succeeded (event w (E.Fetch cpu)).outcome
IsPlain w (E.Trap cpu k a b) = ⊥
IsPlain w (E.Raise j) = ⊥
IsPlain w (E.Poll cpu) = ⊥
IsPlain w (E.SetContext cpu c) = ⊥

-- the event is a deletePartition
abbrev pub IsDeletion : Event → Type 0
IsDeletion (E.Call cpu number a) = call_named number ≡ OnMemory DeletePartition
IsDeletion (E.Load cpu va size) = ⊥
IsDeletion (E.Store cpu va size word) = ⊥
IsDeletion (E.Fetch cpu) = ⊥
IsDeletion (E.Trap cpu k a b) = ⊥
IsDeletion (E.Raise j) = ⊥
IsDeletion (E.Poll cpu) = ⊥
IsDeletion (E.SetContext cpu c) = ⊥

-- two nodes that differ in the mask at most; what runs, but for r0 and r1
abbrev pub IsButForMask : Node → Node → Type 0
IsButForMask x y = record x { masked = false } ≡ record y { masked = false }

-- what runs on a processor, with zeros in r0 and r1
abbrev pub but_reply : Option Occupant → Option Occupant
but_reply o = option_map {T = Occupant} (λ r. record r { ctx = with_zeros r.ctx }) o

-- what an event of p on cpu leaves alone
pub record LeavesOthers (p here : ℕ) (w v : World) : Type 0 where
  pub outside : (x : Node) → IsOutside w.tree p x ↔ IsOutside v.tree p x
  pub own : IsButForMask (node w.tree p) (node v.tree p)
  pub words : (g : ℕ) → (In g (row_pages (node w.tree p)) → ⊥) → v.tree.words g ≡ w.tree.words g
  pub cpus : (i : ℕ) → i ≢ here → runs_on v i ≡ runs_on w i
  pub cpu : but_reply (runs_on v here) ≡ but_reply (runs_on w here)
  pub count : length v.cpus ≡ length w.cpus
  pub reach : (q va : ℕ) (access : Access) (size : Size) → IsAside w.tree p q
      → reach v.tree q va access size ≡ reach w.tree q va access size

-- an access that succeeds, and a call that doesn't switch, change nothing of the other partitions
abbrev pub LeavesOthersAlone : Type 0
LeavesOthersAlone = (w : World) (e : Event) (r : Occupant) → IsSoundWorld w → IsEvent e → IsPlain w e
    → runs_on w (cpu_of e) ≡ Some r → LeavesOthers r.name (cpu_of e) w (event w e).world

-- two worlds that agree on what is below p: its nodes, and the words of p's pages.
-- Which of these pages have words is then the same, since which are hidden is
pub record AgreeBelow (p : ℕ) (w v : World) : Type 0 where
  pub nodes : (x : Node) → IsBelow w.tree p x ↔ IsBelow v.tree p x
  pub words : (g i : ℕ) → In g (row_pages (node w.tree p)) → i < 1024
      → word_of (v.tree.words g) i ≡ word_of (w.tree.words g) i

-- which of the partitions below p run
abbrev pub SameRun : ℕ → World → World → Type 0
SameRun p w v = (x : Node) → IsBelow w.tree p x → has (running w) x.name ≡ has (running v) x.name

-- e has the same outcome in both worlds, and they agree again
pub record IsSameAgain (p : ℕ) (e : Event) (w v : World) : Type 0 where
  pub outcome : (event w e).outcome ≡ (event v e).outcome
  pub below : AgreeBelow p (event w e).world (event v e).world
  pub cpu : runs_on (event w e).world (cpu_of e) ≡ runs_on (event v e).world (cpu_of e)
  pub run : SameRun p w v → SameRun p (event w e).world (event v e).world

-- what such an event of p answers and does depends only on what is below p
abbrev pub DependsOnBelow : Type 0
DependsOnBelow = (w v : World) (e : Event) (r : Occupant) → IsSoundWorld w → IsSoundWorld v → IsEvent e → IsPlain w e
    → runs_on w (cpu_of e) ≡ Some r → runs_on v (cpu_of e) ≡ Some r
    → AgreeBelow r.name w v → (IsDeletion e → SameRun r.name w v) → IsSameAgain r.name e w v

-- Over lists. t is the first tree. An event of the kind above, or a set
abbrev pub IsPlainOrSet : World → Event → Type 0
IsPlainOrSet w (E.SetContext cpu c) = Unit {0}
IsPlainOrSet w (E.Load cpu va size) = IsPlain w (E.Load cpu va size)
IsPlainOrSet w (E.Store cpu va size word) = IsPlain w (E.Store cpu va size word)
IsPlainOrSet w (E.Fetch cpu) = IsPlain w (E.Fetch cpu)
IsPlainOrSet w (E.Trap cpu k a b) = ⊥
IsPlainOrSet w (E.Call cpu number a) = IsPlain w (E.Call cpu number a)
IsPlainOrSet w (E.Raise j) = ⊥
IsPlainOrSet w (E.Poll cpu) = ⊥

-- each is made by a partition of the subtree of p, or by one that is aside
abbrev pub AreFit : Tree → ℕ → World → List Event → Type 0
AreFit t p w [] = Unit {0}
AreFit t p w (e ∷ es) = IsPlainOrSet w e × (In (actor w e) (names_of (nodes t)) × In p (ancestry t (actor w e))
    ⊎ IsAside t p (actor w e)) × AreFit t p (event w e).world es

-- an event is made by a partition of the subtree of p
abbrev pub by_below : Tree → ℕ → World → Event → Bool
by_below t p w e = has (ancestry t (actor w e)) p

-- the events by partitions of the subtree of p, and what they answer among all
abbrev pub only_below : Tree → ℕ → World → List Event → List Event
only_below t p w [] = []
only_below t p w (e ∷ es) =
    cond (by_below t p w e) (e ∷ only_below t p (event w e).world es) (only_below t p (event w e).world es)

-- what the events of the subtree of p answer, when all events of the list happen
abbrev pub outcomes_below : Tree → ℕ → World → List Event → List Outcome
outcomes_below t p w [] = []
outcomes_below t p w (e ∷ es) = cond (by_below t p w e) ((event w e).outcome ∷ outcomes_below t p (event w e).world es)
    (outcomes_below t p (event w e).world es)

-- the last worlds, v where all others are left out
pub record IsUntouched (t : Tree) (p : ℕ) (w v : World) : Type 0 where
  pub below : AgreeBelow p w v
  pub cpus : (i : ℕ) (r : Occupant) → In p (ancestry t r.name) → (runs_on w i ≡ Some r) ↔ (runs_on v i ≡ Some r)

-- the subtree of p sees the same answers whether the other partitions act or not
abbrev pub OthersDoNotMatter : Type 0
OthersDoNotMatter = (w : World) (p : ℕ) (es : List Event) → IsSoundWorld w → In p (names_of (nodes w.tree))
    → AllByRecursion IsEvent es → AreFit w.tree p w es
    → (outcomes_below w.tree p w es ≡ outcomes w (only_below w.tree p w es))
    × IsUntouched w.tree p (after w es) (after w (only_below w.tree p w es))
