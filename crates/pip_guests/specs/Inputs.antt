-- What partitions above do to a guest, as its inputs: a guest depends on its own events and on these, and on nothing
-- else.
use Rattle.std.specs.Prelude.{◌≡◌, ◌≢◌, ℕ, ◌%◌, ◌<◌, true, false, List, [], ◌∷◌, None}
use Rattle.std.specs.List.{AllByRecursion}
use Rattle.pip_base.specs.declared.outcome.Outcome.TheVariants as O
use Rattle.pip_base.specs.declared.types.Access.TheVariants.{Store}
use Rattle.pip_base.specs.declared.types.Size.{Size}
use Rattle.pip_model.specs.AddVAddr.{add_refusals}
use Rattle.pip_model.specs.Answers.{Five, child_name, first_met, page_of}
use Rattle.pip_model.specs.Events.{Event, IsEvent}
use Rattle.pip_model.specs.Events as E
use Rattle.pip_model.specs.Happens.{IsSwitching, after, call_named, event}
use Rattle.pip_model.specs.Lists.{In}
use Rattle.pip_model.specs.Local.{AgreeBelow, actor}
use Rattle.pip_model.specs.Reach.{Place, reach}
use Rattle.pip_model.specs.Switching.{yield_place}
use Rattle.pip_model.specs.Tree.{ancestry, names_of, node, nodes, row_pages, word_of}
use Rattle.pip_model.specs.Worlds.{IsSoundWorld, World}
use Rattle.pip_model.specs.declared.call_name.CallName.TheVariants.{OnMemory, Yields}
use Rattle.pip_model.specs.declared.call_name.MemoryCall.TheVariants.{AddVAddr}
use Rattle.pip_guests.specs.Guests.{AsksParent, IsApart, IsSameGuest, StaysOrLeaves, is_of_guest, is_own, learns}
use Rattle.pip_guests.specs.Guests.{learns_own}

-- ---- inputs

-- an input: events e of one run and f of another that are not the guest's, after which the guest is there, and the same
-- in both
pub record IsInput (p : ℕ) (e f : Event) (w v : World) : Type 0 where
  pub others : is_of_guest p w e ≡ false
  pub others_there : is_of_guest p v f ≡ false
  pub name : In p (names_of (nodes (event w e).world.tree))
  pub guest : IsSameGuest p (event w e).world (event v f).world

-- p yields to its parent, and learns the same of it in both worlds: that it was accepted, or with which status it was
-- refused
pub record IsAsking (p : ℕ) (e : Event) (w v : World) : Type 0 where
  pub own : is_own e ≡ true
  pub asks : AsksParent p (actor w e) e
  pub answer : learns p w e ≡ learns p v e

-- two runs, from w by es and from v by fs, in which the guest has the same events of its own and the same inputs, what
-- it learns of a yield of p to its parent being an input, too. Between these each run has events of its own that leave
-- the guest the same
pub data RunAlike (p : ℕ) : World → List Event → World → List Event → Type 0 where
  ended : {w v : World} → RunAlike p w [] v []
  own : {w v : World} {es fs : List Event} (e : Event) → StaysOrLeaves p w e
      → RunAlike p (event w e).world es (event v e).world fs → RunAlike p w (e ∷ es) v (e ∷ fs)
  asked : {w v : World} {es fs : List Event} (e : Event) → IsAsking p e w v
      → RunAlike p (event w e).world es (event v e).world fs → RunAlike p w (e ∷ es) v (e ∷ fs)
  input : {w v : World} {es fs : List Event} (e f : Event) → IsInput p e f w v
      → RunAlike p (event w e).world es (event v f).world fs → RunAlike p w (e ∷ es) v (f ∷ fs)
  first : {w v : World} {es fs : List Event} (e : Event) → IsApart p w e → RunAlike p (event w e).world es v fs
      → RunAlike p w (e ∷ es) v fs
  second : {w v : World} {es fs : List Event} (f : Event) → IsApart p v f → RunAlike p w es (event v f).world fs
      → RunAlike p w es v (f ∷ fs)

-- in two such runs the guest learns the same, and is the same in the end
abbrev pub GuestsDependOnInputs : Type 0
GuestsDependOnInputs = (w v : World) (p : ℕ) (es fs : List Event) → IsSoundWorld w → IsSoundWorld v
    → In p (names_of (nodes w.tree)) → p ≢ w.tree.root.name → IsSameGuest p w v
    → AllByRecursion IsEvent es → AllByRecursion IsEvent fs → RunAlike p w es v fs
    → (learns_own p w es ≡ learns_own p v fs) × IsSameGuest p (after w es) (after v fs)

-- ---- which events are inputs

-- a partition that is not of the guest makes a call, a yield to q that is accepted, and is saved to no page of the
-- guest
pub record Enters (p q k : ℕ) (w : World) (cpu number : ℕ) (a : Five) : Type 0 where
  pub yields : call_named number ≡ Yields
  pub outside : In p (ancestry w.tree (actor w (E.Call cpu number a))) → ⊥
  pub target : In p (ancestry w.tree q)
  pub switched : (event w (E.Call cpu number a)).outcome ≡ O.Switched (actor w (E.Call cpu number a)) q k
  pub saved : (g i : ℕ) → yield_place w.tree (actor w (E.Call cpu number a)) a.x2 ≡ Place g i
      → In g (row_pages (node w.tree p)) → ⊥

-- yields into the guest with one target and one vector are an input, whoever yields: the context is that of the guest's
-- own block
abbrev pub EntriesAreInputs : Type 0
EntriesAreInputs = (w v : World) (p q k cpu number number2 : ℕ) (a b : Five) → IsSoundWorld w → IsSoundWorld v
    → IsEvent (E.Call cpu number a) → IsEvent (E.Call cpu number2 b) → p ≢ w.tree.root.name → IsSameGuest p w v
    → Enters p q k w cpu number a → Enters p q k v cpu number2 b
    → IsInput p (E.Call cpu number a) (E.Call cpu number2 b) w v

-- a partition that is not of the guest stores a value that goes to word i of page g
pub record StoresTo (p g i : ℕ) (w : World) (cpu va : ℕ) (size : Size) (x : ℕ) : Type 0 where
  pub outside : In p (ancestry w.tree (actor w (E.Store cpu va size x))) → ⊥
  pub runs : In (actor w (E.Store cpu va size x)) (names_of (nodes w.tree))
  pub place : reach w.tree (actor w (E.Store cpu va size x)) va Store size ≡ Place g i

-- a store of one value to one place, and there to one byte of the word, is an input, whichever partition makes it, and
-- by whatever address
abbrev pub StoresAreInputs : Type 0
StoresAreInputs = (w v : World) (p g i cpu cpu2 va va2 : ℕ) (size : Size) (x : ℕ) → IsSoundWorld w → IsSoundWorld v
    → IsEvent (E.Store cpu va size x) → IsEvent (E.Store cpu2 va2 size x) → va % 4 ≡ va2 % 4
    → In p (names_of (nodes w.tree)) → p ≢ w.tree.root.name → IsSameGuest p w v
    → StoresTo p g i w cpu va size x → StoresTo p g i v cpu2 va2 size x
    → IsInput p (E.Store cpu va size x) (E.Store cpu2 va2 size x) w v

-- a partition that is not of the guest makes a call other than yield, after which the guest is there
pub record CallsOn (p : ℕ) (w : World) (cpu number : ℕ) (a : Five) : Type 0 where
  pub plain : IsSwitching (call_named number) → ⊥
  pub outside : In p (ancestry w.tree (actor w (E.Call cpu number a))) → ⊥
  pub runs : In (actor w (E.Call cpu number a)) (names_of (nodes w.tree))
  pub name : In p (names_of (nodes (event w (E.Call cpu number a)).world.tree))

-- such calls are an input where they make the same of the guest's subtree and of the words of its pages
abbrev pub CallsAreInputs : Type 0
CallsAreInputs = (w v : World) (p cpu cpu2 number number2 : ℕ) (a b : Five) → IsSoundWorld w → IsSoundWorld v
    → In p (names_of (nodes w.tree)) → IsSameGuest p w v → CallsOn p w cpu number a → CallsOn p v cpu2 number2 b
    → AgreeBelow p (event w (E.Call cpu number a)).world (event v (E.Call cpu2 number2 b)).world
    → IsInput p (E.Call cpu number a) (E.Call cpu2 number2 b) w v

-- a partition that is not of the guest lends it page g, by an addVAddr that no test refuses: for this address of the
-- guest, and with these rights
pub record LendsPage (p g cv rights : ℕ) (w : World) (cpu number : ℕ) (a : Five) : Type 0 where
  pub adds : call_named number ≡ OnMemory AddVAddr
  pub outside : In p (ancestry w.tree (actor w (E.Call cpu number a))) → ⊥
  pub runs : In (actor w (E.Call cpu number a)) (names_of (nodes w.tree))
  pub child : child_name w.tree (actor w (E.Call cpu number a)) a.x1 ≡ p
  pub page : page_of w.tree (actor w (E.Call cpu number a)) a.x0 ≡ g
  pub address : a.x2 ≡ cv
  pub rights_are : a.x3 ≡ rights
  pub accepted :
      first_met (add_refusals w.tree (actor w (E.Call cpu number a)) a.x0 a.x1 a.x2 a.x3) ≡ None

-- that is an input, if the page has the same words, whoever lends it and by whatever address of its own
abbrev pub LendingsAreInputs : Type 0
LendingsAreInputs = (w v : World) (p g cv rights cpu cpu2 number number2 : ℕ) (a b : Five) → IsSoundWorld w
    → IsSoundWorld v → IsEvent (E.Call cpu number a) → IsEvent (E.Call cpu2 number2 b) → In p (names_of (nodes w.tree))
    → IsSameGuest p w v → LendsPage p g cv rights w cpu number a → LendsPage p g cv rights v cpu2 number2 b
    → ((i : ℕ) → i < 1024 → word_of (v.tree.words g) i ≡ word_of (w.tree.words g) i)
    → IsInput p (E.Call cpu number a) (E.Call cpu2 number2 b) w v

-- a line of vector k is taken on a processor on which the guest runs
pub record Interrupts (p cpu k : ℕ) (w : World) : Type 0 where
  pub below : In p (ancestry w.tree (actor w (E.Poll cpu)))
  pub taken : (event w (E.Poll cpu)).outcome ≡ O.Switched (actor w (E.Poll cpu)) w.tree.root.name k

-- that is an input, whichever line it is
abbrev pub InterruptsAreInputs : Type 0
InterruptsAreInputs = (w v : World) (p cpu k l : ℕ) → IsSoundWorld w → IsSoundWorld v → p ≢ w.tree.root.name
    → IsSameGuest p w v → Interrupts p cpu k w → Interrupts p cpu l v → IsInput p (E.Poll cpu) (E.Poll cpu) w v
