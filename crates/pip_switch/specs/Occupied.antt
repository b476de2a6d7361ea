-- What runs on processors, and what of it can be saved.
use Rattle.std.specs.Prelude.{◌≡◌, ◌==◌, ℕ, Bool, false, List, map, filter_map, slice_get, slice_set, unwrap_or}
use Rattle.std.specs.Prelude.{option_map, Option, Some, None}
use Rattle.pip_base.specs.Memory.{Memory}
use Rattle.pip_base.specs.Status.{status_number}
use Rattle.pip_base.specs.declared.outcome.Status.{Status}
use Rattle.pip_base.specs.declared.types.Ctx.{Ctx}
use Rattle.pip_model.specs.Partitions.{HasPartition}
use Rattle.pip_model.specs.Sound.{IsContext}
use Rattle.pip_model.specs.Switching.{with_reply}
use Rattle.pip_model.specs.Tree.{Node, Tree, find_node}
use Rattle.pip_model.specs.declared.processors.Occupant.{Occupant}

-- what runs on a processor
abbrev pub on_cpu : List (Option Occupant) → ℕ → Option Occupant
on_cpu cs cpu = unwrap_or (slice_get cs cpu) None

-- the partition that runs on a processor
abbrev pub part_on : List (Option Occupant) → ℕ → Option ℕ
part_on cs cpu = option_map (λ r. r.name) (on_cpu cs cpu)

-- this partition runs on a processor
abbrev pub runs_name : ℕ → Option Occupant → Bool
runs_name p None = false
runs_name p (Some r) = r.name == p

-- the names that run on processors
abbrev pub names_on : List (Option Occupant) → List ℕ
names_on cs = map (λ r. r.name) (filter_map (λ o. o) cs)

-- what runs, with a status in r0 and a value in r1
abbrev pub with_answer : Status → ℕ → Occupant → Occupant
with_answer s v r = record r { ctx = record r.ctx { regs = with_reply (status_number s) v r.ctx.regs } }

-- this is what runs on a processor now, if anything does
abbrev pub Replies : List (Option Occupant) → ℕ → Status → ℕ → List (Option Occupant) → Type 0
Replies cs cpu s v ds =
    (r : Occupant) → on_cpu cs cpu ≡ Some r → ds ≡ slice_set cs cpu (Some (with_answer s v r))

-- what runs on a processor, if anything does, has its context changed so
abbrev pub with_ctx_on : List (Option Occupant) → ℕ → (Ctx → Ctx) → List (Option Occupant)
with_ctx_on cs cpu f = slice_set cs cpu (option_map {T = Occupant} (λ r. record r { ctx = f r.ctx }) (on_cpu cs cpu))

-- what runs is a partition of the tree; nothing is
abbrev pub IsNamed : Tree → Option Occupant → Type 0
IsNamed t None = Unit {0}
IsNamed t (Some r) = (x : Node) × (find_node t r.name ≡ Some x)

-- its partition stands in the memory, and its context is one
abbrev pub CanSave : Memory → Option Occupant → Type 0
CanSave m None = Unit {0}
CanSave m (Some r) = HasPartition m r.name × IsContext r.ctx
