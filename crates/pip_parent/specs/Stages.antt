-- The worlds that p, which runs on cpu and builds a child, goes through.
use Rattle.std.specs.Prelude.{◌≡◌, ℕ, zero, suc, ◌+◌, ◌<◌, ◌&&◌, Bool, true, false, not, if◌then◌else◌, List, length}
use Rattle.std.specs.Prelude.{Option, Some}
use Rattle.pip_base.specs.declared.outcome.Outcome.{Outcome}
use Rattle.pip_base.specs.Status.{status_number}
use Rattle.pip_model.specs.Answers.{Answer, page_of}
use Rattle.pip_model.specs.Tree.{Tree}
use Rattle.pip_base.specs.declared.types.Access.TheVariants.{Store}
use Rattle.pip_base.specs.declared.types.Size.TheVariants.{Word}
use Rattle.pip_model.specs.Cache.{Places, places_after_access, all_emptied}
use Rattle.pip_model.specs.Happens.{is_accepted, takes_pages, with_word}
use Rattle.pip_model.specs.declared.call_name.MemoryCall.{MemoryCall}
use Rattle.pip_model.specs.Reach.{Place, reach}
use Rattle.pip_model.specs.Switching.{reply_happens, with_reply}
use Rattle.pip_model.specs.Worlds.{IsSoundWorld, World, with_running, runs_on, with_caches}
use Rattle.pip_model.specs.declared.processors.Occupant.{Occupant}
use Rattle.pip_parent.specs.declared.wants.Want.{Want}
use Rattle.pip_parent.specs.Wants.{opens, opened_before, pages_used}
use Rattle.pip_parent.specs.Pool.{pool_at, HasPool}
use Rattle.pip_parent.specs.Built.{lists_more, built_before, lacks_right, built_with_table, tree_without_child}
use Rattle.pip_base.specs.declared.outcome.Status.TheVariants as S
use Rattle.pip_base.specs.declared.outcome.Outcome.TheVariants as O

-- the words where word 0 of a number of pages, from place k on, is the address of the next
abbrev pub link_words : Tree → ℕ → List ℕ → ℕ → ℕ → ℕ → Option (ℕ → ℕ)
link_words t p pool k zero = t.words
link_words t p pool k (suc n) = (with_word (record t { words = link_words t p pool k n })
    (page_of t p (pool_at pool (k + n))) 0 (pool_at pool (suc (k + n)))).words

-- the caches after these stores by p on cpu
abbrev pub link_caches : Tree → List Places → ℕ → ℕ → List ℕ → ℕ → ℕ → List Places
link_caches t cs cpu p pool k zero = cs
link_caches t cs cpu p pool k (suc n) =
    places_after_access t (link_caches t cs cpu p pool k n) cpu p (pool_at pool (k + n)) Store Word

-- p can store there
abbrev pub CanLink : Tree → ℕ → List ℕ → ℕ → ℕ → Type 0
CanLink t p pool k n = (m : ℕ) → m < n
    → reach t p (pool_at pool (k + m)) Store Word ≡ Place (page_of t p (pool_at pool (k + m))) 0

-- the caches after the wants before i, where p builds on cpu: making the child and giving it a table empties them
abbrev pub caches_before : World → ℕ → ℕ → List ℕ → List Want → ℕ → List Places
caches_before w cpu p pool ws zero = all_emptied w.caches
caches_before w cpu p pool ws (suc i) =
    if opens ws i
    then all_emptied (link_caches (built_before w.tree p pool ws i) (caches_before w cpu p pool ws i) cpu p pool
    (pages_used ws i) (suc (suc (lists_more (opened_before ws i)))))
    else caches_before w cpu p pool ws i

-- the caches after a call: one that takes pages empties those of all processors
abbrev pub caches_with : MemoryCall → List Places → Answer → List Places
caches_with c cs a = if is_accepted a.status && takes_pages c a.value then all_emptied cs else cs

-- the world after r's call, by its answer
abbrev pub world_after_answer : MemoryCall → World → ℕ → Occupant → Answer → World
world_after_answer c w cpu r a = (with_caches (caches_with c w.caches a) (reply_happens w cpu r a)).world

-- r, which runs on cpu, calls: a machine that stood for a world now stands for the one after the call
abbrev pub Called : (World → Type 0) → (World → Type 0) → ℕ → MemoryCall → (Tree → ℕ → Answer) → Type 0
Called before after cpu c call = (w : World) → before w → (r : Occupant) → runs_on w cpu ≡ Some r
    → after (world_after_answer c w cpu r (call w.tree r.name))

-- r, which runs on cpu, makes a call whose answer also depends on what runs
abbrev pub CalledIn : (World → Type 0) → (World → Type 0) → ℕ → MemoryCall → (World → ℕ → Answer) → Type 0
CalledIn before after cpu c call = (w : World) → before w → (r : Occupant) → runs_on w cpu ≡ Some r
    → after (world_after_answer c w cpu r (call w r.name))

-- whether a call was accepted
abbrev pub is_accepted_reply : Outcome → Bool
is_accepted_reply (O.Reply status value) = is_accepted status
is_accepted_reply _ = false

-- what runs, with a status and a value in r0 and r1
abbrev pub replying : Occupant → ℕ → ℕ → Occupant
replying r s v = record r { ctx = record r.ctx { regs = with_reply s v r.ctx.regs } }

-- the world with this tree and these caches, where r runs on cpu with a status and a value in r0 and r1
abbrev pub world_at : World → ℕ → Occupant → Tree → List Places → ℕ → ℕ → World
world_at w cpu r t cs s v = with_running (record w { tree = t; caches = cs }) cpu (Some (replying r s v))

-- the world after the wants before i, where r runs on cpu and builds
abbrev pub world_before : World → ℕ → Occupant → List ℕ → List Want → ℕ → World
world_before w cpu r pool ws i =
    world_at w cpu r (built_before w.tree r.name pool ws i) (caches_before w cpu r.name pool ws i) 0 0

-- the world after all wants, where r runs on cpu and builds
abbrev pub built_world : World → ℕ → Occupant → List ℕ → List Want → World
built_world w cpu r pool ws = world_before w cpu r pool ws (length ws)

-- the value of the last call where want i has its table
abbrev pub value_of : List Want → ℕ → ℕ
value_of ws i = if opens ws i then suc (suc (suc (lists_more (opened_before ws i)))) else 0

-- the world in which want i has its table but not its row, with what the last call left in r0 and r1
abbrev pub tabled_world : World → ℕ → Occupant → List ℕ → List Want → ℕ → ℕ → ℕ → World
tabled_world w cpu r pool ws i s v =
    world_at w cpu r (built_with_table w.tree r.name pool ws i) (caches_before w cpu r.name pool ws (suc i)) s v

-- the world after want i was tried: where it isn't met, the last answer is NoRight
abbrev pub met_world : World → ℕ → Occupant → List ℕ → List Want → ℕ → Bool → World
met_world w cpu r pool ws i true = world_before w cpu r pool ws (suc i)
met_world w cpu r pool ws i false = tabled_world w cpu r pool ws i (status_number S.NoRight) 0

-- the world where the child was deleted that has the table of want i, but not its page
abbrev pub undone_world : World → ℕ → Occupant → List ℕ → List Want → ℕ → World
undone_world w cpu r pool ws i =
    world_at w cpu r (tree_without_child w.tree r.name pool ws i)
    (all_emptied (caches_before w cpu r.name pool ws (suc i))) 0 0

-- r runs on cpu and can build of the pool
pub record IsBuilder (w : World) (cpu : ℕ) (r : Occupant) (xs : List ℕ) : Type 0 where
  pub world : IsSoundWorld w
  pub runs : runs_on w cpu ≡ Some r
  pub pool : HasPool w.tree r.name xs

-- after the wants before i, want i is met exactly where the caller has the rights
abbrev pub Meets : (World → Type 0) → (World → Type 0) → ℕ → List ℕ → List Want → ℕ → Bool → Type 0
Meets before after cpu pool ws i answer = (w : World) (r : Occupant) → IsBuilder w cpu r pool
    → before (world_before w cpu r pool ws i)
    → (answer ≡ not (lacks_right w.tree r.name pool ws i)) × after (met_world w cpu r pool ws i answer)
