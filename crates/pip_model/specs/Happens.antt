-- What an event does to a world: its outcome, and the world after it.
use Rattle.std.specs.Prelude.{ℕ, ◌+◌, ◌-◌, ◌*◌, ◌/◌, ◌%◌, ◌^◌, ◌==◌, ◌&&◌, not, Bool, true, false, if◌then◌else◌, List}
use Rattle.std.specs.Prelude.{[], ◌∷◌, Option, Some, None, unwrap_or, slice_get}
use Rattle.pip_base.specs.declared.types.Access.{Access}
use Rattle.pip_base.specs.declared.types.Access.TheVariants.{Load, Store, Fetch}
use Rattle.pip_base.specs.declared.types.Size.{Size}
use Rattle.pip_base.specs.declared.types.Size.TheVariants.{Byte, Word}
use Rattle.pip_base.specs.declared.outcome.Status.{Status}
use Rattle.pip_base.specs.declared.outcome.Status.TheVariants as S
use Rattle.pip_base.specs.declared.outcome.Outcome.{Outcome}
use Rattle.pip_base.specs.declared.outcome.Outcome.TheVariants as O
use Rattle.pip_model.specs.Tree.{Tree, word_of}
use Rattle.pip_model.specs.Answers.{Answer, Five, accept, refuse}
use Rattle.pip_model.specs.CreatePartition.{create_partition}
use Rattle.pip_model.specs.DeletePartition.{delete_partition}
use Rattle.pip_model.specs.CountToMap.{count_to_map}
use Rattle.pip_model.specs.Prepare.{prepare}
use Rattle.pip_model.specs.Collect.{collect}
use Rattle.pip_model.specs.AddVAddr.{add_vaddr}
use Rattle.pip_model.specs.RemoveVAddr.{remove_vaddr}
use Rattle.pip_model.specs.MappedInChild.{mapped_in_child}
use Rattle.pip_model.specs.Reach.{Fault, Alignment, Unmapped, Hidden, Right, Reached, Place, Faulted, reach}
use Rattle.pip_model.specs.Cache.{Places, places_after_access, all_emptied}
use Rattle.pip_model.specs.Worlds.{World, Happened, with_caches, nothing, done, runs_on, running, with_running}
use Rattle.pip_model.specs.Worlds.{with_masked, with_pending}
use Rattle.pip_model.specs.declared.call_name.CallName.{CallName}
use Rattle.pip_model.specs.declared.call_name.CallName.TheVariants.{OnMemory, Yields, Masks, Unknown}
use Rattle.pip_model.specs.declared.call_name.MemoryCall.{MemoryCall}
use Rattle.pip_model.specs.declared.call_name.MemoryCall.TheVariants.{CreatePartition, DeletePartition, CountToMap}
use Rattle.pip_model.specs.declared.call_name.MemoryCall.TheVariants.{Prepare, Collect, AddVAddr, RemoveVAddr}
use Rattle.pip_model.specs.declared.call_name.MemoryCall.TheVariants.{MappedInChild}
use Rattle.pip_model.specs.declared.processors.Occupant.{Occupant}
use Rattle.pip_model.specs.Deliver.{deliver}
use Rattle.pip_model.specs.Switching.{reply_happens, yield}
use Rattle.pip_model.specs.Poll.{lines_with, poll}
use Rattle.pip_model.specs.Events as E
use Rattle.pip_model.specs.Events.{Event}

-- ---- accesses

-- what an access reads of a word: all of it, or one byte, the lowest first
abbrev pub read_of : ℕ → Size → ℕ → ℕ
read_of va Word w = w
read_of va Byte w = w / 256 ^ (va % 4) % 256

-- the word w with x written over that part
abbrev pub written_over : ℕ → Size → ℕ → ℕ → ℕ
written_over va Word x w = x
written_over va Byte x w = w + x * 256 ^ (va % 4) - read_of va Byte w * 256 ^ (va % 4)

-- the tree with x as word i of page g
abbrev pub with_word : Tree → ℕ → ℕ → ℕ → Tree
with_word t g i x =
    record t { words = λ h. if h == g then Some (λ j. if j == i then x else word_of (t.words g) j) else t.words h }

-- the kind of an access, as a handler is given it
abbrev pub access_number : Access → ℕ
access_number Load = 0
access_number Store = 1
access_number Fetch = 2

-- the kind of a fault, as a handler is given it
abbrev pub fault_number : Fault → ℕ
fault_number Alignment = 0
fault_number Unmapped = 1
fault_number Hidden = 2
fault_number Right = 3

-- the vector of a fault: 17 for alignment, 14 for the others
abbrev pub fault_vector : Fault → ℕ
fault_vector Alignment = 17
fault_vector Unmapped = 14
fault_vector Hidden = 14
fault_vector Right = 14

-- a fault of an access is delivered, with the address and a word that gives the kinds of access and fault
abbrev pub deliver_fault : World → ℕ → Occupant → ℕ → Access → Fault → Happened
deliver_fault w cpu r va access f = deliver w cpu r (fault_vector f) va (16 * access_number access + fault_number f)

-- what a load or a fetch answers, by what it reached
abbrev pub load_happens : World → ℕ → Occupant → ℕ → Access → Size → Reached → Happened
load_happens w cpu r va access size (Place g i) =
    record { outcome = O.Word (read_of va size (word_of (w.tree.words g) i)); world = w }
load_happens w cpu r va access size (Faulted f) = deliver_fault w cpu r va access f

-- what a store answers and changes, by what it reached
abbrev pub wrote : World → ℕ → Occupant → ℕ → Size → ℕ → Reached → Happened
wrote w cpu r va size x (Place g i) =
    done (record w { tree = with_word w.tree g i (written_over va size x (word_of (w.tree.words g) i)) })
wrote w cpu r va size x (Faulted f) = deliver_fault w cpu r va Store f

-- ---- calls

-- the calls in the order of their numbers, from 0 on
abbrev pub call_names : List CallName
call_names =
    OnMemory CreatePartition
    ∷ OnMemory DeletePartition
    ∷ OnMemory CountToMap
    ∷ OnMemory Prepare
    ∷ OnMemory Collect
    ∷ OnMemory AddVAddr
    ∷ OnMemory RemoveVAddr
    ∷ OnMemory MappedInChild
    ∷ Yields
    ∷ Unknown
    ∷ Masks true
    ∷ Masks false
    ∷ []

-- the call of this number
abbrev pub call_named : ℕ → CallName
call_named number = unwrap_or (slice_get call_names number) Unknown

-- what a call on memory by p answers
abbrev pub answer : MemoryCall → World → ℕ → Five → Answer
answer CreatePartition w p a = create_partition w.tree p a
answer DeletePartition w p a = delete_partition w.tree (running w) p a.x0
answer CountToMap w p a = count_to_map w.tree p a.x0 a.x1
answer Prepare w p a = prepare w.tree p a.x0 a.x1 a.x2
answer Collect w p a = collect w.tree p a.x0 a.x1
answer AddVAddr w p a = add_vaddr w.tree p a.x0 a.x1 a.x2 a.x3
answer RemoveVAddr w p a = remove_vaddr w.tree p a.x0 a.x1
answer MappedInChild w p a = mapped_in_child w.tree p a.x0

-- r runs on cpu and calls
abbrev pub call : CallName → World → ℕ → Occupant → Five → Happened
call (OnMemory c) w cpu r a = reply_happens w cpu r (answer c w r.name a)
call Yields w cpu r a = yield w cpu r a
call (Masks b) w cpu r a = reply_happens w cpu r (accept 0 (with_masked r.name b w.tree))
call Unknown w cpu r a = reply_happens w cpu r (refuse w.tree S.UnknownCall)

-- the call switches control, where it is accepted
abbrev pub IsSwitching : CallName → Type 0
IsSwitching (OnMemory c) = ⊥
IsSwitching Yields = Unit {0}
IsSwitching (Masks b) = ⊥
IsSwitching Unknown = ⊥

-- ---- events

-- what an event does where a partition runs on its processor; nothing happens where none does
abbrev pub on_running : World → ℕ → Option Occupant → (Occupant → Happened) → Happened
on_running w cpu None f = nothing w
on_running w cpu (Some r) f = f r

-- what runs on cpu, if anything, makes the call of this name
abbrev pub call_happens : CallName → World → ℕ → Five → Happened
call_happens name w cpu a = on_running w cpu (runs_on w cpu) (λ r. call name w cpu r a)

-- what an event answers, and what it makes of the tree and the processors
abbrev pub what_happens : World → Event → Happened
what_happens w (E.Load cpu va size) =
    on_running w cpu (runs_on w cpu) (λ r. load_happens w cpu r va Load size (reach w.tree r.name va Load size))
what_happens w (E.Store cpu va size x) =
    on_running w cpu (runs_on w cpu) (λ r. wrote w cpu r va size x (reach w.tree r.name va Store size))
what_happens w (E.Fetch cpu) =
    on_running w cpu (runs_on w cpu)
    (λ r. load_happens w cpu r r.ctx.pc Fetch Word (reach w.tree r.name r.ctx.pc Fetch Word))
what_happens w (E.Trap cpu k a b) = on_running w cpu (runs_on w cpu) (λ r. deliver w cpu r k a b)
what_happens w (E.Call cpu number a) = call_happens (call_named number) w cpu a
what_happens w (E.Raise j) = done (record w { tree = with_pending (lines_with j w.tree.root.pending) w.tree })
what_happens w (E.Poll cpu) = poll w cpu (runs_on w cpu)
what_happens w (E.SetContext cpu c) =
    on_running w cpu (runs_on w cpu) (λ r. done (with_running w cpu (Some (record r { ctx = c }))))

-- ---- caches

-- a call's status is Ok
abbrev pub is_accepted : Status → Bool
is_accepted S.Ok = true
is_accepted _ = false

-- a call that takes pages from a partition, by its value: rows may be gone then, or pages hidden
abbrev pub takes_pages : MemoryCall → ℕ → Bool
takes_pages CreatePartition v = true
takes_pages DeletePartition v = true
takes_pages CountToMap v = false
takes_pages Prepare v = not (v == 0)
takes_pages Collect v = true
takes_pages AddVAddr v = false
takes_pages RemoveVAddr v = true
takes_pages MappedInChild v = false

-- accepted, it empties the caches of all processors
abbrev pub empties : CallName → World → ℕ → Five → Bool
empties (OnMemory c) w p a = is_accepted (answer c w p a).status && takes_pages c (answer c w p a).value
empties Yields w p a = false
empties (Masks b) w p a = false
empties Unknown w p a = false

-- the caches after what a partition does; nothing changes where none runs
abbrev pub by_runner : List Places → Option Occupant → (Occupant → List Places) → List Places
by_runner cs None f = cs
by_runner cs (Some r) f = f r

-- the caches after an event. What the kernel itself reads of handlers and saves of contexts uses none
abbrev pub caches_after : World → Event → List Places
caches_after w (E.Load cpu va size) =
    by_runner w.caches (runs_on w cpu) (λ r. places_after_access w.tree w.caches cpu r.name va Load size)
caches_after w (E.Store cpu va size x) =
    by_runner w.caches (runs_on w cpu) (λ r. places_after_access w.tree w.caches cpu r.name va Store size)
caches_after w (E.Fetch cpu) =
    by_runner w.caches (runs_on w cpu) (λ r. places_after_access w.tree w.caches cpu r.name r.ctx.pc Fetch Word)
caches_after w (E.Trap cpu k a b) = w.caches
caches_after w (E.Call cpu number a) = by_runner w.caches (runs_on w cpu)
    (λ r. if empties (call_named number) w r.name a then all_emptied w.caches else w.caches)
caches_after w (E.Raise j) = w.caches
caches_after w (E.Poll cpu) = w.caches
caches_after w (E.SetContext cpu c) = w.caches

-- ---- an event as a whole

-- what an event answers, and the world after it with its caches
abbrev pub event : World → Event → Happened
event w e = with_caches (caches_after w e) (what_happens w e)

-- the world after a list of events, and what they answer
abbrev pub after : World → List Event → World
after w [] = w
after w (e ∷ es) = after (event w e).world es

-- what the events of a list answer, in order
abbrev pub outcomes : World → List Event → List Outcome
outcomes w [] = []
outcomes w (e ∷ es) = (event w e).outcome ∷ outcomes (event w e).world es

-- the worlds from w on, to the last
abbrev pub moments : World → List Event → List World
moments w [] = w ∷ []
moments w (e ∷ es) = w ∷ moments (event w e).world es
