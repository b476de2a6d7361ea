-- Which events of a partition do the same, and which of them leave it.
use Rattle.std.specs.Prelude.{◌≡◌, ◌≢◌, ℕ, ◌+◌, ◌-◌, ◌*◌, ◌<◌, ◌≤◌, ◌⊎◌, Bool, true}
use Rattle.std.specs.Prelude.{◌==◌, List, filter, length, Some, None, bit_and, is_some}
use Rattle.pip_base.specs.declared.outcome.Outcome.{Outcome}
use Rattle.pip_base.specs.declared.outcome.Outcome.TheVariants as O
use Rattle.pip_base.specs.declared.outcome.Status.{Status}
use Rattle.pip_base.specs.declared.outcome.Status.TheVariants as S
use Rattle.pip_base.specs.declared.types.Access.TheVariants.{Load, Store, Fetch}
use Rattle.pip_base.specs.declared.types.Size.{Size}
use Rattle.pip_base.specs.declared.types.Size.TheVariants.{Word}
use Rattle.pip_model.specs.Answers.{Five, first_met}
use Rattle.pip_model.specs.CreatePartition.{create_refusals}
use Rattle.pip_base.specs.declared.types.Ctx.{Ctx}
use Rattle.pip_model.specs.Deliver.{nearest_taker}
use Rattle.pip_model.specs.Handlers.{context_word}
use Rattle.pip_model.specs.Events.{Event}
use Rattle.pip_model.specs.Events as E
use Rattle.pip_model.specs.Happens.{call_named, event, fault_number, fault_vector, what_happens, written_over}
use Rattle.pip_model.specs.Lists.{In}
use Rattle.pip_model.specs.Reach.{Fault, Faulted, Place, Reached, reach}
use Rattle.pip_model.specs.Sound.{IsSound}
use Rattle.pip_model.specs.Switching.{with_zeros, yield_place}
use Rattle.pip_model.specs.Tree.{Row, Tree, child_at, names_of, node, nodes, word_of}
use Rattle.pip_model.specs.Worlds.{World, ctx_on, runs_on}
use Rattle.pip_model.specs.declared.call_name.CallName.TheVariants.{Masks, OnMemory, Yields}
use Rattle.pip_model.specs.declared.call_name.MemoryCall.TheVariants.{CreatePartition}
use Rattle.pip_model.specs.declared.processors.Occupant.{Occupant}
use Rattle.pip_guests.specs.Outside.{AlikeTrees}
use Rattle.pip_guests.specs.Unseen.{IsUnseen}

-- ---- faults and traps

-- a load that faults does what a trap does, with the vector of its fault, its address and its kind
abbrev pub LoadFaultsAreTraps : Type 0
LoadFaultsAreTraps = (w : World) (cpu va : ℕ) (z : Size) (r : Occupant) (f : Fault) → runs_on w cpu ≡ Some r
    → reach w.tree r.name va Load z ≡ Faulted f
    → what_happens w (E.Load cpu va z) ≡ what_happens w (E.Trap cpu (fault_vector f) va (16 * 0 + fault_number f))

-- so does a store
abbrev pub StoreFaultsAreTraps : Type 0
StoreFaultsAreTraps = (w : World) (cpu va : ℕ) (z : Size) (x : ℕ) (r : Occupant) (f : Fault)
    → runs_on w cpu ≡ Some r → reach w.tree r.name va Store z ≡ Faulted f
    → what_happens w (E.Store cpu va z x) ≡ what_happens w (E.Trap cpu (fault_vector f) va (16 * 1 + fault_number f))

-- and a fetch
abbrev pub FetchFaultsAreTraps : Type 0
FetchFaultsAreTraps = (w : World) (cpu : ℕ) (r : Occupant) (f : Fault) → runs_on w cpu ≡ Some r
    → reach w.tree r.name r.ctx.pc Fetch Word ≡ Faulted f
    → what_happens w (E.Fetch cpu) ≡ what_happens w (E.Trap cpu (fault_vector f) r.ctx.pc (16 * 2 + fault_number f))

-- the words of a vector that no partition takes have no effect
abbrev pub UntakenWordsDoNotMatter : Type 0
UntakenWordsDoNotMatter = (w : World) (cpu k a b c d : ℕ) (r : Occupant) → runs_on w cpu ≡ Some r
    → nearest_taker w r.name k ≡ None → what_happens w (E.Trap cpu k a b) ≡ what_happens w (E.Trap cpu k c d)

-- ---- calls that are refused

-- each of them is seen by nobody
abbrev pub RefusedIsUnseen : Type 0
RefusedIsUnseen = (own : List ℕ) (look : ℕ → ℕ → ℕ → ℕ) (w : World) (cpu number : ℕ) (a : Five) (r : Occupant)
    (s : Status) (v : ℕ)
    → runs_on w cpu ≡ Some r → In r.name own → (event w (E.Call cpu number a)).outcome ≡ O.Reply s v → s ≢ S.Ok
    → IsUnseen own look w (E.Call cpu number a)

-- so is each vcli and vsti of a partition that isn't the root
abbrev pub MasksAreUnseen : Type 0
MasksAreUnseen = (own : List ℕ) (look : ℕ → ℕ → ℕ → ℕ) (w : World) (cpu number : ℕ) (a : Five) (r : Occupant) (b : Bool)
    → runs_on w cpu ≡ Some r → In r.name own → r.name ≢ w.tree.root.name → call_named number ≡ Masks b
    → IsUnseen own look w (E.Call cpu number a)

-- ---- partitions that can't do more

-- a partition, not the root, without children. (The last is so in each sound tree: what a partition reaches has words)
pub record IsConfined (t : Tree) (p : ℕ) : Type 0 where
  pub leaf : (d : ℕ) → child_at t p d ≡ None
  pub other : p ≢ t.root.name
  pub there : (va g i : ℕ) (z : Size) → reach t p va Store z ≡ Place g i → is_some (t.words g) ≡ true

-- an access faults
abbrev pub Faults : Reached → Type 0
Faults (Place g i) = ⊥
Faults (Faulted f) = Unit {0}

-- an outcome takes the processor from p
abbrev pub GoesAway : ℕ → Outcome → Type 0
GoesAway p (O.Switched from to k) = to ≢ p
GoesAway p (O.Parked from k) = Unit {0}
GoesAway p (O.Word x) = ⊥
GoesAway p O.Done = ⊥
GoesAway p (O.Reply s v) = ⊥
GoesAway p O.Idle = ⊥

-- a store of n faults, or changes what is seen of a word
abbrev pub IsSeen : (ℕ → ℕ → ℕ → ℕ) → Tree → ℕ → Size → ℕ → Reached → Type 0
IsSeen look t va z n (Place g i) =
    look g i (written_over va z n (word_of (t.words g) i)) ≢ look g i (word_of (t.words g) i)
IsSeen look t va z n (Faulted f) = Unit {0}

-- a save of c changes what is seen of some word
abbrev pub SaveIsSeen : (ℕ → ℕ → ℕ → ℕ) → Tree → Ctx → Reached → Type 0
SaveIsSeen look t c (Place g i) = (j : ℕ) × (i ≤ j) × (j < i + 17)
    × (look g j (context_word c (j - i)) ≢ look g j (word_of (t.words g) j))
SaveIsSeen look t c (Faulted f) = ⊥

-- p makes an access that faults, a store that changes what is seen of a word, a trap, a yield that enters another or
-- saves so, or a child
abbrev pub IsExit : (ℕ → ℕ → ℕ → ℕ) → World → ℕ → Event → Type 0
IsExit look w p (E.Load cpu va z) = Faults (reach w.tree p va Load z)
IsExit look w p (E.Store cpu va z x) = IsSeen look w.tree va z x (reach w.tree p va Store z)
IsExit look w p (E.Fetch cpu) = Faults (reach w.tree p (ctx_on w cpu).pc Fetch Word)
IsExit look w p (E.Trap cpu k a b) = Unit {0}
IsExit look w p (E.Call cpu number a) = GoesAway p (event w (E.Call cpu number a)).outcome
    ⊎ (((call_named number ≡ Yields) × SaveIsSeen look w.tree (with_zeros (ctx_on w cpu)) (yield_place w.tree p a.x2))
    ⊎ ((call_named number ≡ OnMemory CreatePartition) × (first_met (create_refusals w.tree p a) ≡ None)))
IsExit look w p (E.Raise j) = ⊥
IsExit look w p (E.Poll cpu) = ⊥
IsExit look w p (E.SetContext cpu c) = ⊥

-- an event that what runs on a processor makes
abbrev pub IsMadeOn : ℕ → Event → Type 0
IsMadeOn cpu (E.Load c va z) = c ≡ cpu
IsMadeOn cpu (E.Store c va z x) = c ≡ cpu
IsMadeOn cpu (E.Fetch c) = c ≡ cpu
IsMadeOn cpu (E.Trap c k a b) = c ≡ cpu
IsMadeOn cpu (E.Call c number a) = c ≡ cpu
IsMadeOn cpu (E.Raise j) = ⊥
IsMadeOn cpu (E.Poll c) = ⊥
IsMadeOn cpu (E.SetContext c x) = c ≡ cpu

-- each other event of such a partition stays inside
abbrev pub ConfinedStaysOrExits : Type 0
ConfinedStaysOrExits = (own : List ℕ) (look : ℕ → ℕ → ℕ → ℕ) (w : World) (cpu : ℕ) (e : Event) (r : Occupant)
    → runs_on w cpu ≡ Some r → In r.name own → IsConfined w.tree r.name → IsMadeOn cpu e
    → IsUnseen own look w e ⊎ IsExit look w r.name e

-- that a partition is confined depends on no words and masks
abbrev pub ConfinedAlike : Type 0
ConfinedAlike =
    (look : ℕ → ℕ → ℕ → ℕ) (t u : Tree) (p : ℕ) → AlikeTrees look t u → IsConfined t p → IsConfined u p

-- in a sound tree: a partition of the tree, not the root, without children
abbrev pub SoundConfines : Type 0
SoundConfines = (t : Tree) (p : ℕ) → IsSound t → In p (names_of (nodes t)) → p ≢ t.root.name
    → ((d : ℕ) → child_at t p d ≡ None) → IsConfined t p

-- the rows of p's pages that it may read and write
abbrev pub writable_rows : Tree → ℕ → List Row
writable_rows t p = filter (λ r. bit_and 3 r.rights == 3) (node t p).rows

-- a partition that has fewer than five of them is always refused createPartition
abbrev pub FewPagesCreateNone : Type 0
FewPagesCreateNone = (t : Tree) (p : ℕ) → length (writable_rows t p) < 5 → (a : Five)
    → first_met (create_refusals t p a) ≢ None
