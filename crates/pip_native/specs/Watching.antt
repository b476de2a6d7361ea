-- A native run: the root's children are built, and a monitor runs them.
use Rattle.std.specs.Prelude.{ℕ, zero, suc, ◌+◌, ◌-◌, ◌*◌, ◌==◌, Bool, false, if◌then◌else◌, List, [], ◌∷◌, ◌++◌}
use Rattle.std.specs.Prelude.{length, Option, Some, None, codes, decimal}
use Rattle.pip_base.specs.Status.{status_number}
use Rattle.pip_base.specs.declared.types.Plan.{Plan}
use Rattle.pip_base.specs.declared.types.Size.TheVariants.{Word}
use Rattle.pip_model.specs.Acts.{Act, Writes, after_acts, text_of}
use Rattle.pip_model.specs.Events as E
use Rattle.pip_model.specs.Happens.{event}
use Rattle.pip_model.specs.Images.{Image}
use Rattle.pip_model.specs.Run.{end_line, trace_image_line, image_world, raises}
use Rattle.pip_model.specs.Text.{word_text}
use Rattle.pip_model.specs.Tree.{Tree}
use Rattle.pip_model.specs.Turn.{turn}
use Rattle.pip_model.specs.Worlds.{World, runs_on}
use Rattle.pip_model.specs.declared.processors.Occupant.{Occupant}
use Rattle.pip_native.specs.Monitoring.{Children, all_alive, decision_in, monitor_after, visit_acts}
use Rattle.pip_native.specs.declared.decision.Decision.{Decision}
use Rattle.pip_native.specs.declared.decision.Decision.TheVariants as D
use Rattle.pip_parent.specs.Stages.{built_world}
use Rattle.pip_parent.specs.declared.wants.Want.{Want}

-- ---- the children, n of them

-- the address of page k of the root, from 0x400000 on
abbrev pub page_address : ℕ → ℕ
page_address k = 0x400000 + 4096 * k

-- page j of the twelve that child i takes beside its own program's; the n programs stand before them
abbrev pub fresh : ℕ → ℕ → ℕ → ℕ
fresh n i j = page_address (n + 12 * i + j)

-- how many pages the children take
abbrev pub pages_taken : ℕ → ℕ
pages_taken n = 13 * n

-- the pages of child i, in the order in which it is built of them: its program's is the one after the first eight
abbrev pub pool_of : ℕ → ℕ → List ℕ
pool_of n i =
    fresh n i 0 ∷ fresh n i 1 ∷ fresh n i 2 ∷ fresh n i 3 ∷ fresh n i 4 ∷ fresh n i 5 ∷ fresh n i 6 ∷ fresh n i 7
    ∷ page_address i
    ∷ fresh n i 8 ∷ fresh n i 9 ∷ fresh n i 10 ∷ fresh n i 11 ∷ []

-- a child has its program at 0x400000, and its handlers' page at the top
abbrev pub child_wants : List Want
child_wants = record { va = 0x400000; rights = 7 } ∷ record { va = 0xfffff000; rights = 3 } ∷ []

-- processor 0 stores a word
abbrev pub after_store : World → ℕ → ℕ → World
after_store w va x = (event w (E.Store 0 va Word x)).world

-- the first k words of the root's handlers' page name the block at 0xfffff400
abbrev pub with_handlers : World → ℕ → World
with_handlers w zero = w
with_handlers w (suc k) = after_store (with_handlers w k) (0xfffff000 + 4 * k) 0xfffff400

-- child i's handler of vector 63 is the block at 0xfffff400, which begins at its program
abbrev pub with_entry : World → ℕ → ℕ → World
with_entry w n i = after_store (after_store w (fresh n i 11 + 0xfc) 0xfffff400) (fresh n i 11 + 0x400) 0x400000

-- who runs on processor 0 builds a child of these pages
abbrev pub with_built : World → Option Occupant → List ℕ → World
with_built w None pool = w
with_built w (Some r) pool = built_world w 0 r pool child_wants

-- child i is built, with its entry and its pool
abbrev pub with_child : World → ℕ → ℕ → World
with_child w n i = with_built (with_entry w n i) (runs_on (with_entry w n i) 0) (pool_of n i)

-- the first i of n children
abbrev pub with_children : World → ℕ → ℕ → World
with_children w n zero = w
with_children w n (suc i) = with_child (with_children w n i) n i

-- the addresses of the first i of n children
abbrev pub addresses : ℕ → ℕ → List ℕ
addresses n zero = []
addresses n (suc i) = addresses n i ++ fresh n i 0 ∷ []

-- the world with the root's handlers and all n children
abbrev pub ready_world : World → ℕ → World
ready_world w n = with_children (with_handlers w 256) n n

-- ---- the steps

-- the root is what runs
abbrev pub is_root : Tree → Option Occupant → Bool
is_root t None = false
is_root t (Some r) = r.name == t.root.name

-- the root runs on processor 0
abbrev pub root_runs : World → Bool
root_runs w = is_root w.tree (runs_on w 0)

-- the line of a decision at step t
abbrev pub decision_line : ℕ → Decision → List ℕ
decision_line t D.Nobody = []
decision_line t (D.Ran i) = decimal t ++ codes " 0 run " ++ decimal i ++ codes "\n"
decision_line t (D.Dropped i s) =
    decimal t ++ codes " 0 drop " ++ decimal i ++ codes " " ++ decimal (status_number s) ++ codes "\n"

-- where the root runs on processor 0, its monitor decides; else the processor takes its turn
abbrev pub watch_step : World → Children → ℕ → List Act
watch_step w m t = if root_runs w
    then visit_acts 0 m ++ Writes (decision_line t (decision_in w 0 m)) ∷ [] else turn w 0 t

-- the children that are alive after the monitor's turn; it has one where the root runs
abbrev pub monitor_next : World → Children → Children
monitor_next w m = if root_runs w then monitor_after w 0 m else m

-- step t: the lines that are due are raised, and then one of both
abbrev pub watched_step : World → List Plan → Children → ℕ → List Act
watched_step w plans m t = raises plans t ++ watch_step (after_acts w (raises plans t)) m t

-- that many steps from step t on
abbrev pub watched_steps : World → List Plan → Children → ℕ → ℕ → List Act
watched_steps w plans m zero t = []
watched_steps w plans m (suc k) t =
    watched_step w plans m t
    ++ watched_steps (after_acts w (watched_step w plans m t)) plans (monitor_next (after_acts w (raises plans t)) m) k
    (t + 1)

-- ---- the command: n children, and then `count` steps, of an image

-- the acts of that many steps
abbrev pub native_steps : Image → ℕ → ℕ → List Act
native_steps image n count =
    watched_steps (ready_world (image_world image) n) image.plans (all_alive (addresses n n)) count 0

-- the world after that many steps
abbrev pub native_world : Image → ℕ → ℕ → World
native_world image n count = after_acts (ready_world (image_world image) n) (native_steps image n count)

-- the line of child i
abbrev pub built_line : ℕ → ℕ → List ℕ
built_line i address = codes "built " ++ decimal i ++ codes " " ++ word_text address ++ codes "\n"

-- from child i on
abbrev pub built_from : ℕ → List ℕ → List ℕ
built_from i [] = []
built_from i (a ∷ rest) = built_line i a ++ built_from (i + 1) rest

-- the whole text: the image line, a line for each child, the lines of the steps, and the last line
abbrev pub native_text : Image → ℕ → ℕ → List ℕ
native_text image n count =
    trace_image_line image.frames image.cpus (length image.plans) (length image.pages)
    ++ (built_from 0 (addresses n n) ++ (text_of (native_steps image n count) ++ end_line count))

-- too few frames: that many pages can be had, and that many are needed
abbrev pub short_line : ℕ → ℕ → List ℕ
short_line frames n = codes "short " ++ decimal (frames - 13) ++ codes " " ++ decimal (pages_taken n) ++ codes "\n"
