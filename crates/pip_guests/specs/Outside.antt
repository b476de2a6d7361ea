-- What partitions outside of others depend on: the tree, what runs, and the words that they read. What isn't seen of
-- words, and the registers of some partitions, have no effect on an event that doesn't read them.
use Rattle.std.specs.Prelude.{◌≡◌, ℕ, zero, suc, ◌+◌, ◌*◌, ◌<◌, ◌≤◌, nat_lt, Bool, true, false, List, [], ◌∷◌, map}
use Rattle.std.specs.Prelude.{Option}
use Rattle.std.specs.Prelude.{Some, None, is_some, ◌⊎◌, if◌then◌else◌}
use Rattle.pip_base.specs.declared.types.Access.TheVariants.{Load, Store, Fetch}
use Rattle.pip_base.specs.declared.types.Size.{Size}
use Rattle.pip_base.specs.declared.types.Size.TheVariants.{Word}
use Rattle.pip_model.specs.Answers.{Five, child_of, page_of}
use Rattle.pip_model.specs.CountToMap.{pages_needed}
use Rattle.pip_model.specs.Events.{Event}
use Rattle.pip_model.specs.Events as E
use Rattle.pip_model.specs.Handlers.{block, block_at, save_place, store_at}
use Rattle.pip_model.specs.Happens.{call_named, event, fault_vector, written_over}
use Rattle.pip_model.specs.Lists.{In, has}
use Rattle.pip_model.specs.Prepare.{next_in_chain}
use Rattle.pip_model.specs.Reach.{Faulted, Place, Reached, Unmapped, reach}
use Rattle.pip_model.specs.Switching.{target_node}
use Rattle.pip_model.specs.Tree.{Node, Tree, chain, vpage, word_of}
use Rattle.pip_model.specs.Worlds.{World, running, runs_on}
use Rattle.pip_model.specs.declared.call_name.CallName.{CallName}
use Rattle.pip_model.specs.declared.call_name.CallName.TheVariants.{Masks, OnMemory, Unknown, Yields}
use Rattle.pip_model.specs.declared.call_name.MemoryCall.{MemoryCall}
use Rattle.pip_model.specs.declared.call_name.MemoryCall.TheVariants.{Prepare}
use Rattle.pip_model.specs.declared.processors.Occupant.{Occupant}

-- ---- looking alike

-- on a processor nothing runs in either world, or one partition, and with one context, unless it is one of these
abbrev pub AlikeOn : List ℕ → Option Occupant → Option Occupant → Type 0
AlikeOn own None None = Unit {0}
AlikeOn own None (Some q) = ⊥
AlikeOn own (Some r) None = ⊥
AlikeOn own (Some r) (Some q) = (r.name ≡ q.name) × ((In r.name own → ⊥) → r.ctx ≡ q.ctx)

-- so it is on each processor
abbrev pub AlikeCpus : List ℕ → List (Option Occupant) → List (Option Occupant) → Type 0
AlikeCpus own [] [] = Unit {0}
AlikeCpus own [] (p ∷ ps) = ⊥
AlikeCpus own (o ∷ os) [] = ⊥
AlikeCpus own (o ∷ os) (p ∷ ps) = AlikeOn own o p × AlikeCpus own os ps

-- What is seen of a word is a number, by its page, its index in it, and the word: the word itself, the same number for
-- all words, or which class of words it is of. A page has words in both trees or in neither, and they look the same
pub record AlikeWord (look : ℕ → ℕ → ℕ → ℕ) (g : ℕ) (o p : Option (ℕ → ℕ)) : Type 0 where
  pub there : is_some o ≡ is_some p
  pub words : (i : ℕ) → look g i (word_of o i) ≡ look g i (word_of p i)

-- a node without its mask
abbrev pub unmasked : Node → Node
unmasked x = record x { masked = false }

-- a tree with the mask of the root alone: no event reads another
abbrev pub one_mask : Tree → Tree
one_mask t = record t { others = map unmasked t.others }

-- two trees that differ in the masks of partitions other than the root, and in what isn't seen of words, alone
pub record AlikeTrees (look : ℕ → ℕ → ℕ → ℕ) (t u : Tree) : Type 0 where
  pub nodes : record (one_mask t) { words = u.words } ≡ one_mask u
  pub words : (g : ℕ) → AlikeWord look g (t.words g) (u.words g)

-- two worlds that look alike from outside of these partitions. Caches may differ
pub record Alike (own : List ℕ) (look : ℕ → ℕ → ℕ → ℕ) (w v : World) : Type 0 where
  pub tree : AlikeTrees look w.tree v.tree
  pub cpus : AlikeCpus own w.cpus v.cpus

-- ---- what is read

-- all of a word is seen
abbrev pub AllSeen : (ℕ → ℕ → ℕ → ℕ) → ℕ → ℕ → Type 0
AllSeen look g i = (x y : ℕ) → look g i x ≡ look g i y → x ≡ y

-- nothing is: the word is left out
abbrev pub NoneSeen : (ℕ → ℕ → ℕ → ℕ) → ℕ → ℕ → Type 0
NoneSeen look g i = (x y : ℕ) → look g i x ≡ look g i y

-- all of a block is
abbrev pub BlockMisses : (ℕ → ℕ → ℕ → ℕ) → Reached → Type 0
BlockMisses look (Place g i) = (j : ℕ) → i ≤ j → j < i + 17 → AllSeen look g j
BlockMisses look (Faulted f) = Unit {0}

-- nothing of a block is
abbrev pub Lands : (ℕ → ℕ → ℕ → ℕ) → Reached → Type 0
Lands look (Place g i) = (j : ℕ) → i ≤ j → j < i + 17 → NoneSeen look g j
Lands look (Faulted f) = Unit {0}

-- where p's handler table has the address of its block for vector k
abbrev pub entry_place : Tree → ℕ → ℕ → Reached
entry_place t p k = reach t p (0xfffff000 + 4 * k) Load Word

-- where this block is
abbrev pub block_place : Tree → ℕ → Option ℕ → Reached
block_place t p None = Faulted Unmapped
block_place t p (Some a) = reach t p a Load Word

-- of two places to save to, neither can be saved to, or both, and nothing is seen of either
abbrev pub BothLand : (ℕ → ℕ → ℕ → ℕ) → Reached → Reached → Type 0
BothLand look (Place g i) (Place h j) = Lands look (Place g i) × Lands look (Place h j)
BothLand look (Place g i) (Faulted f) = ⊥
BothLand look (Faulted f) (Place h j) = ⊥
BothLand look (Faulted f) (Faulted e) = Unit {0}

-- p does the same with two words in an entry of its handler table, seen from outside: it has a block by neither or by
-- both, and saves so
pub record IsOneUse (look : ℕ → ℕ → ℕ → ℕ) (t : Tree) (p x y : ℕ) : Type 0 where
  pub block : is_some (block_at t p (Some x)) ≡ is_some (block_at t p (Some y))
  pub saves : BothLand look (store_at t p (block_at t p (Some x))) (store_at t p (block_at t p (Some y)))

-- an entry of p is a word that is seen; or p is one of these partitions, and does the same with each word that looks so
abbrev pub EntryMisses : List ℕ → (ℕ → ℕ → ℕ → ℕ) → Tree → ℕ → Reached → Type 0
EntryMisses own look t p (Place g i) = (y : ℕ) → look g i (word_of (t.words g) i) ≡ look g i y
    → (word_of (t.words g) i ≡ y) ⊎ (In p own × IsOneUse look t p (word_of (t.words g) i) y)
EntryMisses own look t p (Faulted f) = Unit {0}

-- so is p's entry for vector k; its block is seen, unless p is one of these partitions
pub record HandlerMisses (own : List ℕ) (look : ℕ → ℕ → ℕ → ℕ) (t : Tree) (p k : ℕ) : Type 0 where
  pub entry : EntryMisses own look t p (entry_place t p k)
  pub block : (In p own → ⊥) → BlockMisses look (block_place t p (block t p k))

-- so it is of each partition of a list that doesn't run
abbrev pub HandlersMiss : List ℕ → (ℕ → ℕ → ℕ → ℕ) → World → ℕ → List Node → Type 0
HandlersMiss own look w k [] = Unit {0}
HandlersMiss own look w k (q ∷ qs) =
    (has (running w) q.name ≡ false → HandlerMisses own look w.tree q.name k) × HandlersMiss own look w k qs

-- and above the first of a list
abbrev pub AboveMiss : List ℕ → (ℕ → ℕ → ℕ → ℕ) → World → ℕ → List Node → Type 0
AboveMiss own look w k [] = Unit {0}
AboveMiss own look w k (p ∷ qs) = HandlersMiss own look w k qs

-- a save of p in its block for vector k finds the block so, and nothing is seen of it if p is one of these partitions,
-- whose registers may differ
pub record SaveMisses (own : List ℕ) (look : ℕ → ℕ → ℕ → ℕ) (t : Tree) (p k : ℕ) : Type 0 where
  pub entry : EntryMisses own look t p (entry_place t p k)
  pub lands : In p own → Lands look (save_place t p k)

-- a vector that is delivered for what p does
pub record DeliveryMisses (own : List ℕ) (look : ℕ → ℕ → ℕ → ℕ) (w : World) (p k : ℕ) : Type 0 where
  pub handlers : AboveMiss own look w k (chain w.tree p)
  pub save : SaveMisses own look w.tree p 63

-- a load or a fetch, by what it reaches
abbrev pub LoadMisses : List ℕ → (ℕ → ℕ → ℕ → ℕ) → World → ℕ → Reached → Type 0
LoadMisses own look w p (Place g i) = AllSeen look g i
LoadMisses own look w p (Faulted f) = DeliveryMisses own look w p (fault_vector f)

-- what is seen of a word after a store to it depends on what was seen of it before, and on what is stored
abbrev pub StoresSeen : (ℕ → ℕ → ℕ → ℕ) → ℕ → Size → ℕ → ℕ → Type 0
StoresSeen look va z g i = (n x y : ℕ) → look g i x ≡ look g i y
    → look g i (written_over va z n x) ≡ look g i (written_over va z n y)

-- a store, by what it reaches. (So is each that stores a word)
abbrev pub StoreMisses : List ℕ → (ℕ → ℕ → ℕ → ℕ) → World → ℕ → ℕ → Size → Reached → Type 0
StoreMisses own look w p va z (Place g i) = StoresSeen look va z g i
StoreMisses own look w p va z (Faulted f) = DeliveryMisses own look w p (fault_vector f)

-- the pages of a chain that are looked at: all but the last, whose first word isn't read
abbrev pub ChainMisses : (ℕ → ℕ → ℕ → ℕ) → Tree → ℕ → ℕ → List ℕ → ℕ → Type 0
ChainMisses look t p zero seen a = Unit {0}
ChainMisses look t p (suc zero) seen a = Unit {0}
ChainMisses look t p (suc (suc k)) seen a =
    AllSeen look (page_of t p a) 0 × ChainMisses look t p (suc k) (a ∷ seen) (next_in_chain t p a)

-- a call on memory
abbrev pub MemoryMisses : (ℕ → ℕ → ℕ → ℕ) → Tree → ℕ → Five → MemoryCall → Type 0
MemoryMisses look t p a Prepare =
    ChainMisses look t p (pages_needed (child_of t p a.x0) (vpage a.x1)) [] a.x2
MemoryMisses look t p a _ = Unit {0}

-- a yield: the handler of its target, and where the caller is saved
pub record YieldMisses (own : List ℕ) (look : ℕ → ℕ → ℕ → ℕ) (w : World) (p : ℕ) (a : Five) : Type 0 where
  pub target : (x : Node) → target_node w.tree p a.x0 ≡ Some x → HandlerMisses own look w.tree x.name a.x1
  pub save : nat_lt a.x2 256 ≡ true → SaveMisses own look w.tree p a.x2

-- a call
abbrev pub CallMisses : List ℕ → (ℕ → ℕ → ℕ → ℕ) → World → ℕ → Five → CallName → Type 0
CallMisses own look w p a (OnMemory c) = MemoryMisses look w.tree p a c
CallMisses own look w p a Yields = YieldMisses own look w p a
CallMisses own look w p a (Masks b) = Unit {0}
CallMisses own look w p a Unknown = Unit {0}

-- where the handlers of the root for lines are looked up, and what runs is saved
abbrev pub LinesMiss : List ℕ → (ℕ → ℕ → ℕ → ℕ) → Tree → List ℕ → Type 0
LinesMiss own look t [] = Unit {0}
LinesMiss own look t (j ∷ js) = HandlerMisses own look t t.root.name (32 + j) × LinesMiss own look t js

-- what runs is saved so, if something does
abbrev pub RunnerSaved : List ℕ → (ℕ → ℕ → ℕ → ℕ) → Tree → Option Occupant → Type 0
RunnerSaved own look t None = Unit {0}
RunnerSaved own look t (Some r) = SaveMisses own look t r.name 63

-- a poll
pub record PollMisses (own : List ℕ) (look : ℕ → ℕ → ℕ → ℕ) (w : World) (o : Option Occupant) : Type 0 where
  pub lines : LinesMiss own look w.tree w.tree.root.pending
  pub save : RunnerSaved own look w.tree o

-- by what runs on a processor, if anything does
abbrev pub ByRunner : Option Occupant → (Occupant → Type 0) → Type 0
ByRunner None P = Unit {0}
ByRunner (Some r) P = P r

-- an event reads nothing of words but what is seen, but by a partition of these that is entered. Nothing is seen of
-- what is saved of these partitions. The pc of a fetch is that of a partition outside
abbrev pub ReadsOutside : List ℕ → (ℕ → ℕ → ℕ → ℕ) → World → Event → Type 0
ReadsOutside own look w (E.Load cpu va z) =
    ByRunner (runs_on w cpu) (λ r. LoadMisses own look w r.name (reach w.tree r.name va Load z))
ReadsOutside own look w (E.Store cpu va z x) =
    ByRunner (runs_on w cpu) (λ r. StoreMisses own look w r.name va z (reach w.tree r.name va Store z))
ReadsOutside own look w (E.Fetch cpu) = ByRunner (runs_on w cpu)
    (λ r. (In r.name own → ⊥) × LoadMisses own look w r.name (reach w.tree r.name r.ctx.pc Fetch Word))
ReadsOutside own look w (E.Trap cpu k a b) =
    ByRunner (runs_on w cpu) (λ r. DeliveryMisses own look w r.name k)
ReadsOutside own look w (E.Call cpu number a) =
    ByRunner (runs_on w cpu) (λ r. CallMisses own look w r.name a (call_named number))
ReadsOutside own look w (E.Raise j) = Unit {0}
ReadsOutside own look w (E.Poll cpu) = PollMisses own look w (runs_on w cpu)
ReadsOutside own look w (E.SetContext cpu c) = Unit {0}

-- ---- the law

-- an event has one outcome in both worlds, and they look alike again
pub record IsAlike (own : List ℕ) (look : ℕ → ℕ → ℕ → ℕ) (e : Event) (w v : World) : Type 0 where
  pub outcome : (event w e).outcome ≡ (event v e).outcome
  pub world : Alike own look (event w e).world (event v e).world

-- that is so of every event that reads nothing else, whichever partition makes it
abbrev pub OutsideDependsOnOutside : Type 0
OutsideDependsOnOutside = (own : List ℕ) (look : ℕ → ℕ → ℕ → ℕ) (w v : World) (e : Event) → Alike own look w v
    → ReadsOutside own look w e → IsAlike own look e w v

-- all words are seen
abbrev pub whole_word : ℕ → ℕ → ℕ → ℕ
whole_word g i x = x

-- then, and with no partition whose registers may differ, each event is such a one
abbrev pub NothingLeftOut : Type 0
NothingLeftOut = (w : World) (e : Event) → ReadsOutside [] whole_word w e

-- all words are seen, but for those for which a test is true: they are left out
abbrev pub seen_but : (ℕ → ℕ → Bool) → ℕ → ℕ → ℕ → ℕ
seen_but blind g i x = if blind g i then 0 else x
