-- A test of an event, by which a search can say that nothing outside reads what isn't seen of words.
use Rattle.std.specs.Prelude.{◌≡◌, ℕ, zero, suc, ◌+◌, ◌&&◌, ◌||◌, nat_lt, not, Bool, true, List, [], ◌∷◌}
use Rattle.std.specs.Prelude.{◌==◌, Option, Some, None, length}
use Rattle.pip_base.specs.declared.types.Access.TheVariants.{Load, Store, Fetch}
use Rattle.pip_base.specs.declared.types.Size.{Size}
use Rattle.pip_base.specs.declared.types.Size.TheVariants.{Word}
use Rattle.pip_model.specs.Answers.{Five, page_of}
use Rattle.pip_model.specs.Events.{Event}
use Rattle.pip_model.specs.Events as E
use Rattle.pip_model.specs.Handlers.{block, save_place}
use Rattle.pip_model.specs.Happens.{call_named, event, fault_vector}
use Rattle.pip_model.specs.Lists.{has}
use Rattle.pip_model.specs.Prepare.{next_in_chain}
use Rattle.pip_model.specs.Reach.{Faulted, Place, Reached, reach}
use Rattle.pip_model.specs.Switching.{target_node}
use Rattle.pip_model.specs.Tree.{Node, Tree, chain, children}
use Rattle.pip_model.specs.Worlds.{World, running, runs_on}
use Rattle.pip_model.specs.declared.call_name.CallName.{CallName}
use Rattle.pip_model.specs.declared.call_name.CallName.TheVariants.{Masks, OnMemory, Unknown, Yields}
use Rattle.pip_model.specs.declared.call_name.MemoryCall.{MemoryCall}
use Rattle.pip_model.specs.declared.call_name.MemoryCall.TheVariants.{Prepare}
use Rattle.pip_model.specs.declared.processors.Occupant.{Occupant}
use Rattle.pip_guests.specs.Outside.{AllSeen, EntryMisses, NoneSeen, ReadsOutside, StoresSeen, block_place}
use Rattle.pip_guests.specs.Outside.{entry_place}

-- ---- words

-- a test of n numbers from i on
abbrev pub each_from : (ℕ → Bool) → ℕ → ℕ → Bool
each_from f zero i = true
each_from f (suc n) i = f i && each_from f n (i + 1)

-- by which tests a search says that nothing outside reads what isn't seen of words: all of a word is seen; nothing is;
-- the entry of a partition is read by it alone; what is seen of a word after a store depends on what was before
pub record Sight : Type 0 where
  pub seen : ℕ → ℕ → Bool
  pub blind : ℕ → ℕ → Bool
  pub entry : Tree → ℕ → ℕ → ℕ → Bool
  pub stores : Size → ℕ → ℕ → Bool

-- the entry of p that is reached
abbrev pub entry_passes : Sight → Tree → ℕ → Reached → Bool
entry_passes s t p (Place g i) = s.entry t p g i
entry_passes s t p (Faulted f) = true

-- no word of a block is
abbrev pub block_passes : Sight → Reached → Bool
block_passes s (Place g i) = each_from (λ j. s.seen g j) 17 i
block_passes s (Faulted f) = true

-- each word of a block is
abbrev pub block_blind : Sight → Reached → Bool
block_blind s (Place g i) = each_from (λ j. s.blind g j) 17 i
block_blind s (Faulted f) = true

-- ---- handlers, and saves

-- p's entry for vector k, and its block unless p is one of these partitions
abbrev pub handler_passes : List ℕ → Sight → Tree → ℕ → ℕ → Bool
handler_passes own s t p k =
    entry_passes s t p (entry_place t p k) && (has own p || block_passes s (block_place t p (block t p k)))

-- those of partitions of a list that don't run
abbrev pub handlers_pass : List ℕ → Sight → World → ℕ → List Node → Bool
handlers_pass own s w k [] = true
handlers_pass own s w k (q ∷ qs) =
    (has (running w) q.name || handler_passes own s w.tree q.name k) && handlers_pass own s w k qs

-- and above the first of a list
abbrev pub above_pass : List ℕ → Sight → World → ℕ → List Node → Bool
above_pass own s w k [] = true
above_pass own s w k (p ∷ qs) = handlers_pass own s w k qs

-- a save of p in its block for vector k
abbrev pub save_passes : List ℕ → Sight → Tree → ℕ → ℕ → Bool
save_passes own s t p k =
    entry_passes s t p (entry_place t p k) && (not (has own p) || block_blind s (save_place t p k))

-- a vector that is delivered for what p does
abbrev pub delivery_passes : List ℕ → Sight → World → ℕ → ℕ → Bool
delivery_passes own s w p k =
    above_pass own s w k (chain w.tree p) && save_passes own s w.tree p 63

-- ---- events

-- a load or a fetch, by what it reaches
abbrev pub load_passes : List ℕ → Sight → World → ℕ → Reached → Bool
load_passes own s w p (Place g i) = s.seen g i
load_passes own s w p (Faulted f) = delivery_passes own s w p (fault_vector f)

-- a store, by what it reaches
abbrev pub store_passes : List ℕ → Sight → World → ℕ → Size → Reached → Bool
store_passes own s w p z (Place g i) = s.stores z g i
store_passes own s w p z (Faulted f) = delivery_passes own s w p (fault_vector f)

-- the first pages of a chain from an address on
abbrev pub chain_passes : Sight → Tree → ℕ → ℕ → ℕ → Bool
chain_passes s t p zero a = true
chain_passes s t p (suc k) a =
    s.seen (page_of t p a) 0 && chain_passes s t p k (next_in_chain t p a)

-- a call on memory. A chain has four pages at most, and the last isn't looked at
abbrev pub memory_passes : Sight → Tree → ℕ → Five → MemoryCall → Bool
memory_passes s t p a Prepare = chain_passes s t p 3 a.x2
memory_passes s t p a _ = true

-- the target of a yield, if there is one
abbrev pub target_passes : List ℕ → Sight → Tree → ℕ → Option Node → Bool
target_passes own s t k None = true
target_passes own s t k (Some x) = handler_passes own s t x.name k

-- a yield
abbrev pub yield_passes : List ℕ → Sight → Tree → ℕ → Five → Bool
yield_passes own s t p a = target_passes own s t a.x1 (target_node t p a.x0)
    && (not (nat_lt a.x2 256) || save_passes own s t p a.x2)

-- a call
abbrev pub call_passes : List ℕ → Sight → Tree → ℕ → Five → CallName → Bool
call_passes own s t p a (OnMemory c) = memory_passes s t p a c
call_passes own s t p a Yields = yield_passes own s t p a
call_passes own s t p a (Masks b) = true
call_passes own s t p a Unknown = true

-- the root's handlers of these lines
abbrev pub lines_pass : List ℕ → Sight → Tree → List ℕ → Bool
lines_pass own s t [] = true
lines_pass own s t (j ∷ js) = handler_passes own s t t.root.name (32 + j) && lines_pass own s t js

-- by what runs on a processor, if anything does
abbrev pub if_runs : Option Occupant → (Occupant → Bool) → Bool
if_runs None f = true
if_runs (Some r) f = f r

-- an event reads no word that is left out
abbrev pub event_passes : List ℕ → Sight → World → Event → Bool
event_passes own s w (E.Load cpu va z) =
    if_runs (runs_on w cpu) (λ r. load_passes own s w r.name (reach w.tree r.name va Load z))
event_passes own s w (E.Store cpu va z x) =
    if_runs (runs_on w cpu) (λ r. store_passes own s w r.name z (reach w.tree r.name va Store z))
event_passes own s w (E.Fetch cpu) = if_runs (runs_on w cpu)
    (λ r. not (has own r.name) && load_passes own s w r.name (reach w.tree r.name r.ctx.pc Fetch Word))
event_passes own s w (E.Trap cpu k a b) =
    if_runs (runs_on w cpu) (λ r. delivery_passes own s w r.name k)
event_passes own s w (E.Call cpu number a) =
    if_runs (runs_on w cpu) (λ r. call_passes own s w.tree r.name a (call_named number))
event_passes own s w (E.Raise j) = true
event_passes own s w (E.Poll cpu) = lines_pass own s w.tree w.tree.root.pending
    && if_runs (runs_on w cpu) (λ r. save_passes own s w.tree r.name 63)
event_passes own s w (E.SetContext cpu c) = true

-- no event of a list, each at its moment, does
abbrev pub events_pass : List ℕ → Sight → World → List Event → Bool
events_pass own s w [] = true
events_pass own s w (e ∷ es) =
    event_passes own s w e && events_pass own s (event w e).world es

-- a partition that runs is one of these, no root, and has no children
abbrev pub has_no_child : List ℕ → Tree → Occupant → Bool
has_no_child own t r = has own r.name && (not (r.name == t.root.name) && nat_lt (length (children t r.name)) 1)

-- ---- what the tests say

-- these tests say so of what is seen of words
pub record IsSight (own : List ℕ) (look : ℕ → ℕ → ℕ → ℕ) (s : Sight) : Type 0 where
  pub seen : (g i : ℕ) → s.seen g i ≡ true → AllSeen look g i
  pub blind : (g i : ℕ) → s.blind g i ≡ true → NoneSeen look g i
  pub entry : (t : Tree) (p g i : ℕ) → s.entry t p g i ≡ true → EntryMisses own look t p (Place g i)
  pub stores : (va : ℕ) (z : Size) (g i : ℕ) → s.stores z g i ≡ true → StoresSeen look va z g i

-- an event that passes reads nothing else
abbrev pub SightsPass : Type 0
SightsPass = (own : List ℕ) (look : ℕ → ℕ → ℕ → ℕ) (s : Sight) (w : World) (e : Event) → IsSight own look s
    → event_passes own s w e ≡ true → ReadsOutside own look w e
