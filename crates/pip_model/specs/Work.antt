-- At most how many steps an event takes, each a read of a word of a frame. From p up to the root there are
-- length (chain t p) partitions, both counted.
use Rattle.std.specs.Prelude.{ℕ, ◌+◌, ◌*◌, List, [], ◌∷◌, flat_map, length, Option, Some, None, sum_by}
use Rattle.pip_model.specs.Answers.{Five}
use Rattle.pip_model.specs.Events as E
use Rattle.pip_model.specs.Events.{Event}
use Rattle.pip_model.specs.Happens.{call_named, event}
use Rattle.pip_model.specs.Tree.{Node, Tree, below, chain, child_at, config, node}
use Rattle.pip_model.specs.Worlds.{World, running, runs_on}
use Rattle.pip_model.specs.declared.call_name.CallName.{CallName}
use Rattle.pip_model.specs.declared.call_name.CallName.TheVariants as C
use Rattle.pip_model.specs.declared.call_name.MemoryCall.{MemoryCall}
use Rattle.pip_model.specs.declared.call_name.MemoryCall.TheVariants as M
use Rattle.pip_model.specs.declared.processors.Occupant.{Occupant}

-- ---- calls on memory by p

-- to see whether one of those that run is a partition or below it
abbrev pub climbing_work : Tree → List ℕ → ℕ
climbing_work t rs = sum_by (λ r. length (chain t r)) rs

-- to end the child c of p with all below it: 102 for each table of p, and for each page of configuration of what ends
-- 67, and 7 for each partition from p up to the root
abbrev pub ending_work : Tree → ℕ → ℕ → ℕ
ending_work t p c =
    35 + 102 * length (node t p).tables + (7 * length (chain t p) + 67) * length (flat_map config (below t c))

-- the same, where there is such a child
abbrev pub deleting_work : Tree → ℕ → Option Node → ℕ
deleting_work t p None = 0
deleting_work t p (Some c) = ending_work t p c.name

-- to find the slot of a table in the list of the child from which it is collected
abbrev pub slots_work : Option Node → ℕ
slots_work None = 0
slots_work (Some c) = length c.tables

-- rs are the partitions that run
abbrev pub memory_work : MemoryCall → Tree → List ℕ → ℕ → Five → ℕ
memory_work M.CreatePartition t rs p a = 35 * length (chain t p) + 55
memory_work M.DeletePartition t rs p a = 6 + climbing_work t rs + deleting_work t p (child_at t p a.x0)
memory_work M.CountToMap t rs p a = 9
memory_work M.Prepare t rs p a = 28 * length (chain t p) + 74
memory_work M.Collect t rs p a = 28 * length (chain t p) + 106 + slots_work (child_at t p a.x0)
memory_work M.AddVAddr t rs p a = 34
memory_work M.RemoveVAddr t rs p a = 23
memory_work M.MappedInChild t rs p a = 6

-- ---- events

-- any call
abbrev pub call_work : CallName → Tree → List ℕ → ℕ → Five → ℕ
call_work (C.OnMemory c) t rs p a = memory_work c t rs p a
call_work C.Yields t rs p a = 88
call_work C.Unknown t rs p a = 0
call_work (C.Masks b) t rs p a = 0

-- what the partition that runs on a processor makes; nothing where none does
abbrev pub runner_work : Option Occupant → (ℕ → ℕ) → ℕ
runner_work None f = 0
runner_work (Some r) f = f r.name

-- an event: where an access or a trap is delivered, 8 for each partition up to the root
abbrev pub event_work : World → Event → ℕ
event_work w (E.Load cpu va size) = runner_work (runs_on w cpu) (λ p. 8 * length (chain w.tree p) + 80)
event_work w (E.Store cpu va size word) = runner_work (runs_on w cpu) (λ p. 8 * length (chain w.tree p) + 80)
event_work w (E.Fetch cpu) = runner_work (runs_on w cpu) (λ p. 8 * length (chain w.tree p) + 80)
event_work w (E.Trap cpu k a b) = runner_work (runs_on w cpu) (λ p. 8 * length (chain w.tree p) + 76)
event_work w (E.Call cpu number a) =
    runner_work (runs_on w cpu) (λ p. call_work (call_named number) w.tree (running w) p a)
event_work w (E.Raise j) = 1
event_work w (E.Poll cpu) = 190
event_work w (E.SetContext cpu c) = 0

-- events one after another
abbrev pub events_work : World → List Event → ℕ
events_work w [] = 0
events_work w (e ∷ es) = event_work w e + events_work (event w e).world es

-- ---- by the number of frames

-- no event takes more
abbrev pub most_event_work : ℕ → ℕ
most_event_work n = 104489 + (7 * n + 71) * n

-- nor does a turn: a poll, a fetch, and one event at most
abbrev pub most_turn_work : ℕ → ℕ
most_turn_work n = 190 + (8 * n + 80) + most_event_work n
