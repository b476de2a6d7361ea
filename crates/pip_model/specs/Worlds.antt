-- A tree with its processors, and the two moves of control: a context is saved, a partition is entered.
use Rattle.std.specs.Prelude.{◌≡◌, ℕ, zero, suc, ◌≤◌, Bool, ◌==◌, if◌then◌else◌, List, [], ◌∷◌, map, filter_map, length}
use Rattle.std.specs.Prelude.{Option, Some, None, unwrap_or, slice_get, slice_set}
use Rattle.pip_base.specs.declared.types.Ctx.{Ctx}
use Rattle.pip_base.specs.declared.outcome.Outcome.{Outcome}
use Rattle.pip_base.specs.declared.outcome.Outcome.TheVariants as O
use Rattle.pip_model.specs.declared.processors.Occupant.{Occupant}
use Rattle.pip_model.specs.Lists.{In, Distinct}
use Rattle.pip_model.specs.Tree.{Node, Tree, nodes, names_of, on_nodes}
use Rattle.pip_model.specs.Sound.{IsSound, IsContext}
use Rattle.pip_model.specs.Boot.{boot_tree_with, zero_words}
use Rattle.pip_model.specs.Cache.{AllAgree, Places, empty_caches}
use Rattle.pip_model.specs.Handlers.{save}

-- each processor runs a partition, or nothing, and has a translation cache. No outcome depends on the caches
pub record World : Type 0 where
  pub tree : Tree
  pub cpus : List (Option Occupant)
  pub caches : List Places

-- what runs on a processor; nothing on one that is not there
abbrev pub runs_on : World → ℕ → Option Occupant
runs_on w cpu = unwrap_or (slice_get w.cpus cpu) None

-- the context that the root begins with
abbrev pub first_ctx : Ctx
first_ctx = record { pc = 0x400000; regs = 0 ∷ 0 ∷ 0 ∷ 0 ∷ 0 ∷ 0 ∷ 0 ∷ 0 ∷ 0 ∷ 0 ∷ 0 ∷ 0 ∷ 0 ∷ 0 ∷ 0 ∷ 0 ∷ [] }

-- the context of what runs on a processor; the first one where nothing does
abbrev pub ctx_of : Option Occupant → Ctx
ctx_of None = first_ctx
ctx_of (Some r) = r.ctx

-- the context of what runs on a processor
abbrev pub ctx_on : World → ℕ → Ctx
ctx_on w cpu = ctx_of (runs_on w cpu)

-- the names that run on processors
abbrev pub running : World → List ℕ
running w = map (λ r. r.name) (filter_map (λ o. o) w.cpus)

-- the world in which this runs on a processor
abbrev pub with_running : World → ℕ → Option Occupant → World
with_running w cpu o = record w { cpus = slice_set w.cpus cpu o }

-- 1 to 4 processors over a sound tree, each idle or running a node of it; no name runs on two
pub record IsSoundWorld (w : World) : Type 0 where
  pub tree : IsSound w.tree
  pub at_least_one : 1 ≤ length w.cpus
  pub at_most_four : length w.cpus ≤ 4
  pub one_processor_each : Distinct (running w)
  pub names_nodes : (p : ℕ) → In p (running w) → In p (names_of (nodes w.tree))
  pub contexts : (i : ℕ) (r : Occupant) → runs_on w i ≡ Some r → IsContext r.ctx

-- what the caches hold is what the tree says now
abbrev pub IsCached : World → Type 0
IsCached w = AllAgree w.tree w.caches

-- the boot world of n frames and c processors: processor 0 runs the root at 0x400000, and the caches are empty
abbrev pub idle_cpus : ℕ → List (Option Occupant)
idle_cpus zero = []
idle_cpus (suc n) = None ∷ idle_cpus n

-- the processors at boot: the first runs the root, the others nothing
abbrev pub boot_cpus : ℕ → List (Option Occupant)
boot_cpus zero = []
boot_cpus (suc c) = Some (record { name = 1; ctx = first_ctx }) ∷ idle_cpus c

-- the world at boot, with these words in the root's pages
abbrev pub boot_world_with : (ℕ → ℕ → ℕ) → ℕ → ℕ → World
boot_world_with words n c = record { tree = boot_tree_with words n; cpus = boot_cpus c; caches = empty_caches c }

-- the world at boot, with zeros in the root's pages
abbrev pub boot_world : ℕ → ℕ → World
boot_world n c = boot_world_with (λ g. zero_words) n c

-- what an event answers, and the world after it
pub record Happened : Type 0 where
  pub outcome : Outcome
  pub world : World

-- an event on a processor that runs nothing: it is idle, and nothing changes
abbrev pub nothing : World → Happened
nothing w = record { outcome = O.Idle; world = w }

-- an event that was done, and the world after it
abbrev pub done : World → Happened
done w = record { outcome = O.Done; world = w }

-- an event's answer, with these caches in the world after it
abbrev pub with_caches : List Places → Happened → Happened
with_caches cs h = record h { world = record h.world { caches = cs } }

-- a node whose mask is set or cleared, if p is its name
abbrev pub masked_node : ℕ → Bool → Node → Node
masked_node p b x = record x { masked = if x.name == p then b else x.masked }

-- the tree in which p's mask is set or cleared
abbrev pub with_masked : ℕ → Bool → Tree → Tree
with_masked p b t = on_nodes (masked_node p b) t

-- a node that has these lines pending, if p is its name
abbrev pub lines_in : ℕ → List ℕ → Node → Node
lines_in p lines x = record x { pending = if x.name == p then lines else x.pending }

-- the tree in which the root has these lines pending
abbrev pub with_pending : List ℕ → Tree → Tree
with_pending lines t = on_nodes (lines_in t.root.name lines) t

-- the context of what runs is saved in its block of vector 63
abbrev pub save_running : Tree → Option Occupant → Tree
save_running t None = t
save_running t (Some r) = save t r.name 63 r.ctx

-- the processor runs q with a context
abbrev pub enter : World → ℕ → ℕ → Ctx → World
enter w cpu q c = with_running w cpu (Some (record { name = q; ctx = c }))

-- the registers of a handler's context, with the vector k in r0, two words in r1 and r2, and r3
abbrev pub with_four : ℕ → ℕ → ℕ → ℕ → List ℕ → List ℕ
with_four k a b born (r0 ∷ r1 ∷ r2 ∷ r3 ∷ rs) = k ∷ a ∷ b ∷ born ∷ rs
with_four k a b born rs = rs

-- a handler's context, with the vector, two words and the child on the way in its registers
abbrev pub handler_context : Ctx → ℕ → ℕ → ℕ → ℕ → Ctx
handler_context c k a b born = record c { regs = with_four k a b born c.regs }
