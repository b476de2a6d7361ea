-- Where all of each word is seen, every event reads outside: the premise of the law can be met.
use Rattle.std.proofs.Common.{ℕ, zero, suc, ◌+◌, List, [], ◌∷◌, inl, Option, Some, None}
use Rattle.pip_base.specs.declared.types.Size.{Size}
use Rattle.pip_model.specs.Answers.{Five, child_of}
use Rattle.pip_model.specs.CountToMap.{pages_needed}
use Rattle.pip_model.specs.Events.{Event}
use Rattle.pip_model.specs.Events as E
use Rattle.pip_model.specs.Happens.{call_named, fault_vector}
use Rattle.pip_model.specs.Prepare.{next_in_chain}
use Rattle.pip_model.specs.Reach.{Faulted, Place, Reached}
use Rattle.pip_model.specs.Tree.{Node, Tree, chain, vpage}
use Rattle.pip_model.specs.Worlds.{World, runs_on}
use Rattle.pip_model.specs.declared.call_name.CallName.{CallName}
use Rattle.pip_model.specs.declared.call_name.CallName.TheVariants.{Masks, OnMemory, Unknown, Yields}
use Rattle.pip_model.specs.declared.call_name.MemoryCall.{MemoryCall}
use Rattle.pip_model.specs.declared.call_name.MemoryCall.TheVariants.{AddVAddr, Collect, CountToMap, CreatePartition}
use Rattle.pip_model.specs.declared.call_name.MemoryCall.TheVariants.{DeletePartition, MappedInChild, Prepare}
use Rattle.pip_model.specs.declared.call_name.MemoryCall.TheVariants.{RemoveVAddr}
use Rattle.pip_model.specs.declared.processors.Occupant.{Occupant}
use Rattle.pip_guests.specs.Outside.{AboveMiss, BlockMisses, ByRunner, CallMisses, ChainMisses, DeliveryMisses}
use Rattle.pip_guests.specs.Outside.{EntryMisses}
use Rattle.pip_guests.specs.Outside.{HandlerMisses, HandlersMiss, LinesMiss, LoadMisses, MemoryMisses}
use Rattle.pip_guests.specs.Outside.{NothingLeftOut, RunnerSaved, SaveMisses, StoreMisses}
use Rattle.pip_guests.specs.Outside.{whole_word}

block_misses : (q : Reached) → BlockMisses whole_word q
block_misses (Place g i) = λ j l k x y e. e
block_misses (Faulted f) = tt

entry_misses : (t : Tree) (p : ℕ) (q : Reached) → EntryMisses [] whole_word t p q
entry_misses t p (Place g i) = λ y e. inl e
entry_misses t p (Faulted f) = tt

handler_misses : (t : Tree) (p k : ℕ) → HandlerMisses [] whole_word t p k
handler_misses t p k = record { entry = entry_misses t p _; block = λ n. block_misses _ }

save_misses : (t : Tree) (p k : ℕ) → SaveMisses [] whole_word t p k
save_misses t p k = record { entry = entry_misses t p _; lands = λ i. absurd i }

handlers_miss : (w : World) (k : ℕ) (qs : List Node) → HandlersMiss [] whole_word w k qs
handlers_miss w k [] = tt
handlers_miss w k (q ∷ qs) = ((λ e. handler_misses w.tree q.name k), handlers_miss w k qs)

above_miss : (w : World) (k : ℕ) (qs : List Node) → AboveMiss [] whole_word w k qs
above_miss w k [] = tt
above_miss w k (q ∷ qs) = handlers_miss w k qs

delivery_misses : (w : World) (p k : ℕ) → DeliveryMisses [] whole_word w p k
delivery_misses w p k = record { handlers = above_miss w k (chain w.tree p); save = save_misses w.tree p 63 }

load_misses : (w : World) (p : ℕ) (q : Reached) → LoadMisses [] whole_word w p q
load_misses w p (Place g i) = λ x y e. e
load_misses w p (Faulted f) = delivery_misses w p (fault_vector f)

store_misses : (w : World) (p va : ℕ) (z : Size) (q : Reached) → StoreMisses [] whole_word w p va z q
store_misses w p va z (Place g i) = λ n x y e. rw e
store_misses w p va z (Faulted f) = delivery_misses w p (fault_vector f)

chain_misses : (t : Tree) (p k : ℕ) (seen : List ℕ) (a : ℕ) → ChainMisses whole_word t p k seen a
chain_misses t p zero seen a = tt
chain_misses t p (suc zero) seen a = tt
chain_misses t p (suc (suc k)) seen a = ((λ x y e. e), chain_misses t p (suc k) (a ∷ seen) (next_in_chain t p a))

memory_misses : (t : Tree) (p : ℕ) (a : Five) (c : MemoryCall) → MemoryMisses whole_word t p a c
memory_misses t p a CreatePartition = tt
memory_misses t p a DeletePartition = tt
memory_misses t p a CountToMap = tt
memory_misses t p a Prepare = chain_misses t p (pages_needed (child_of t p a.x0) (vpage a.x1)) [] a.x2
memory_misses t p a Collect = tt
memory_misses t p a AddVAddr = tt
memory_misses t p a RemoveVAddr = tt
memory_misses t p a MappedInChild = tt

call_misses : (w : World) (p : ℕ) (a : Five) (c : CallName) → CallMisses [] whole_word w p a c
call_misses w p a (OnMemory c) = memory_misses w.tree p a c
call_misses w p a Yields =
    record { target = λ x e. handler_misses w.tree x.name a.x1; save = λ e. save_misses w.tree p a.x2 }
call_misses w p a (Masks b) = tt
call_misses w p a Unknown = tt

lines_miss : (t : Tree) (js : List ℕ) → LinesMiss [] whole_word t js
lines_miss t [] = tt
lines_miss t (j ∷ js) = (handler_misses t t.root.name (32 + j), lines_miss t js)

runner_saved : (t : Tree) (o : Option Occupant) → RunnerSaved [] whole_word t o
runner_saved t None = tt
runner_saved t (Some r) = save_misses t r.name 63

by_runner : (o : Option Occupant) (P : Occupant → Type 0) → ((r : Occupant) → P r) → ByRunner o P
by_runner None P f = tt
by_runner (Some r) P f = f r

pub nothing_left_out : NothingLeftOut
nothing_left_out w (E.Load cpu va z) = by_runner (runs_on w cpu) _ (λ r. load_misses w r.name _)
nothing_left_out w (E.Store cpu va z x) = by_runner (runs_on w cpu) _ (λ r. store_misses w r.name va z _)
nothing_left_out w (E.Fetch cpu) = by_runner (runs_on w cpu) _ (λ r. ((λ i. i), load_misses w r.name _))
nothing_left_out w (E.Trap cpu k a b) = by_runner (runs_on w cpu) _ (λ r. delivery_misses w r.name k)
nothing_left_out w (E.Call cpu number a) = by_runner (runs_on w cpu) _ (λ r. call_misses w r.name a (call_named number))
nothing_left_out w (E.Raise j) = tt
nothing_left_out w (E.Poll cpu) =
    record { lines = lines_miss w.tree w.tree.root.pending; save = runner_saved w.tree (runs_on w cpu) }
nothing_left_out w (E.SetContext cpu c) = tt
