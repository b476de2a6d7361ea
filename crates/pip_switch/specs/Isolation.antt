-- What machines promise the partitions that run on them: what an event of one leaves alone and what it depends on, and
-- what a partition has again when its child is gone. A machine is what contracts see of it, a state, and an event takes
-- it from one state to another as each method of Port promises.
use Rattle.std.specs.Prelude.{◌≡◌, ℕ, cond, List, [], ◌∷◌, Some}
use Rattle.std.specs.List.{AllByRecursion}
use Rattle.pip_base.specs.declared.outcome.Outcome.{Outcome}
use Rattle.pip_model.specs.Answers.{Five}
use Rattle.pip_model.specs.Events.{Event, IsEvent}
use Rattle.pip_model.specs.Events as E
use Rattle.pip_model.specs.GiveBack.{IsGivenBack, IsLife, creation}
use Rattle.pip_model.specs.Happens.{IsSwitching, after, call_named, event, outcomes}
use Rattle.pip_model.specs.Lists.{In}
use Rattle.pip_model.specs.Local.{AgreeBelow, AreFit, Succeeded, IsDeletion, IsUntouched, LeavesOthers, SameRun}
use Rattle.pip_model.specs.Local.{by_below, cpu_of, only_below}
use Rattle.pip_model.specs.Port.{Follows}
use Rattle.pip_model.specs.Tree.{Tree, names_of, nodes}
use Rattle.pip_model.specs.Worlds.{World}
use Rattle.pip_model.specs.declared.processors.Occupant.{Occupant}
use Rattle.pip_switch.specs.Occupied.{on_cpu}
use Rattle.pip_switch.specs.Standing.{StandsAs, State}

-- an event with this outcome takes a machine from p to q
abbrev pub Takes : State → Event → Outcome → State → Type 0
Takes p e o q = Follows (StandsAs p) (StandsAs q) e o

-- events one after another, with these outcomes
abbrev pub TakesAll : State → List Event → List Outcome → State → Type 0
TakesAll p [] [] q = p ≡ q
TakesAll p [] (o ∷ os) q = ⊥
TakesAll p (e ∷ es) [] q = ⊥
TakesAll p (e ∷ es) (o ∷ os) q = (r : State) × Takes p e o r × TakesAll r es os q

-- a run of a machine is one of the model
abbrev pub RunsAreTheModels : Type 0
RunsAreTheModels = (p q : State) (es : List Event) (os : List Outcome) → TakesAll p es os q → (w : World) → StandsAs p w
    → (os ≡ outcomes w es) × StandsAs q (after w es)

-- an access that is answered, or a call that does not switch
abbrev pub IsPlainTo : Event → Outcome → Type 0
IsPlainTo (E.Call cpu number a) o = IsSwitching (call_named number) → ⊥
IsPlainTo (E.Load cpu va size) o = Succeeded o
IsPlainTo (E.Store cpu va size word) o = Succeeded o
IsPlainTo (E.Fetch cpu) o = Succeeded o
IsPlainTo (E.Trap cpu k a b) o = ⊥
IsPlainTo (E.Raise j) o = ⊥
IsPlainTo (E.Poll cpu) o = ⊥
IsPlainTo (E.SetContext cpu c) o = ⊥

-- such an event of r leaves alone what it is not to change
abbrev pub MachinesLeaveOthersAlone : Type 0
MachinesLeaveOthersAlone = (p q : State) (e : Event) (o : Outcome) (r : Occupant) → Takes p e o q → IsEvent e
    → IsPlainTo e o → on_cpu p.cpus (cpu_of e) ≡ Some r
    → (w : World) → StandsAs p w → (v : World) × StandsAs q v × LeavesOthers r.name (cpu_of e) w v

-- two machines that such an event of the partition a took to q and s answered the same, and agree below a
pub record EndAlike (a : ℕ) (e : Event) (o o2 : Outcome) (q s : State) (w w2 : World) : Type 0 where
  pub outcome : o ≡ o2
  pub left : World
  pub right : World
  pub stands_left : StandsAs q left
  pub stands_right : StandsAs s right
  pub below : AgreeBelow a left right
  pub cpu : on_cpu q.cpus (cpu_of e) ≡ on_cpu s.cpus (cpu_of e)
  pub run : SameRun a w w2 → SameRun a left right

-- an event that is no switch, by the same partition in two machines that agree below it, is answered the same in both
-- and leaves them in agreement below it
abbrev pub MachinesDependOnBelow : Type 0
MachinesDependOnBelow = (p q p2 q2 : State) (e : Event) (o o2 : Outcome) (r : Occupant) → Takes p e o q → Takes p2 e o2
    q2 → IsEvent e → IsPlainTo e o → on_cpu p.cpus (cpu_of e) ≡ Some r → on_cpu p2.cpus (cpu_of e) ≡ Some r
    → (w w2 : World) → StandsAs p w → StandsAs p2 w2 → AgreeBelow r.name w w2 → (IsDeletion e → SameRun r.name w w2)
    → EndAlike r.name e o o2 q q2 w w2

-- of what events answered, what those by partitions below a answered; t is the first tree
abbrev pub told_below : Tree → ℕ → World → List Event → List Outcome → List Outcome
told_below t a w [] os = []
told_below t a w (e ∷ es) [] = []
told_below t a w (e ∷ es) (o ∷ os) =
    cond (by_below t a w e) (o ∷ told_below t a (event w e).world es os) (told_below t a (event w e).world es os)

-- two machines that stand for one world: one takes all events, the other those by partitions below a alone
abbrev pub OthersDoNotMatterToMachines : Type 0
OthersDoNotMatterToMachines = (w : World) (a : ℕ) (es : List Event) (p q p2 q2 : State) (os os2 : List Outcome)
    → StandsAs p w → StandsAs p2 w → TakesAll p es os q → TakesAll p2 (only_below w.tree a w es) os2 q2
    → In a (names_of (nodes w.tree)) → AllByRecursion IsEvent es → AreFit w.tree a w es
    → (told_below w.tree a w es os ≡ os2)
    × ((v : World) × (v2 : World) × StandsAs q v × StandsAs q2 v2 × IsUntouched w.tree a v v2)

-- a partition makes a child, by call 0, and ends it later, by call 1: it has back what it gave
abbrev pub MachinesGiveBack : Type 0
MachinesGiveBack = (p q r s : State) (i : ℕ) (a : Five) (es : List Event) (os : List Outcome)
    (j : ℕ) (b : Five) (o o2 : Outcome) → Takes p (E.Call i 0 a) o q → TakesAll q es os r → Takes r (E.Call j 1 b) o2 s
    → IsEvent (E.Call i 0 a) → AllByRecursion IsEvent es → IsEvent (E.Call j 1 b) → (w : World) (x c : ℕ) → StandsAs p w
    → IsLife w i a es j b x c
    → (v : World) × StandsAs s v × IsGivenBack w (creation w i a).world es v.tree x c
