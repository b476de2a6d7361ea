-- What a partition has again when its child is gone.
use Rattle.std.specs.Prelude.{◌≡◌, ◌≢◌, ℕ, ◌<◌, ◌==◌, ◌⊎◌, ◌↔◌, ◌&&◌, Bool, true, false, cond, List, [], ◌∷◌, Option}
use Rattle.std.specs.Prelude.{Some, None}
use Rattle.std.specs.List.{AllByRecursion}
use Rattle.pip_base.specs.declared.types.Size.{Size}
use Rattle.pip_base.specs.declared.types.Access.TheVariants.{Store}
use Rattle.pip_base.specs.declared.outcome.Outcome.{Outcome}
use Rattle.pip_base.specs.declared.outcome.Outcome.TheVariants as O
use Rattle.pip_base.specs.declared.outcome.Status.TheVariants as S
use Rattle.pip_model.specs.Answers.{Five, child_name, list_of, page_of}
use Rattle.pip_model.specs.Boot.{zero_words}
use Rattle.pip_model.specs.Events.{Event, IsEvent}
use Rattle.pip_model.specs.Happens.{after, call_named, event, moments, written_over}
use Rattle.pip_model.specs.declared.call_name.MemoryCall.TheVariants.{AddVAddr, RemoveVAddr}
use Rattle.pip_model.specs.declared.call_name.CallName.{CallName}
use Rattle.pip_model.specs.declared.call_name.CallName.TheVariants.{OnMemory}
use Rattle.pip_model.specs.Handlers.{saved_words, written_block}
use Rattle.pip_model.specs.Lists.{In}
use Rattle.pip_model.specs.Local.{IsBelow}
use Rattle.pip_model.specs.Poll.{occupant_name}
use Rattle.pip_model.specs.Sound.{IsWord}
use Rattle.pip_model.specs.Reach.{Faulted, Place, Reached, reach}
use Rattle.pip_model.specs.Switching.{with_zeros, yield_place}
use Rattle.pip_model.specs.Tree.{Node, Row, Tree, config, free, held_pages, hidden, names_of, node, nodes, row_pages}
use Rattle.pip_model.specs.Tree.{word_of}
use Rattle.pip_model.specs.Worlds.{Happened, IsSoundWorld, World, runs_on}
use Rattle.pip_model.specs.declared.processors.Occupant.{Occupant}
use Rattle.pip_model.specs.Events as E

-- word j of page g after a store that reached this place
abbrev pub word_after_store : ℕ → Size → ℕ → ℕ → Reached → (ℕ → ℕ) → ℕ → ℕ
word_after_store va size x g (Place h i) old j = cond (h == g && j == i) (written_over va size x (old j)) (old j)
word_after_store va size x g (Faulted f) old j = old j

-- word j of page g after a store by what runs on the processor, if anything does
abbrev pub word_after_store_by : World → Option Occupant → ℕ → Size → ℕ → ℕ → (ℕ → ℕ) → ℕ → ℕ
word_after_store_by w None va size x g old j = old j
word_after_store_by w (Some r) va size x g old j =
    word_after_store va size x g (reach w.tree r.name va Store size) old j

-- the processor of an event is left: it switches or parks
abbrev pub is_left : Outcome → Bool
is_left (O.Switched from to k) = true
is_left (O.Parked from k) = true
is_left _ = false

-- word j of page g after another event by which what ran leaves the processor: it is saved in its block of 63
abbrev pub saved_by : Bool → World → Option Occupant → ℕ → (ℕ → ℕ) → ℕ → ℕ
saved_by true w (Some r) g old j = saved_words w.tree r.name 63 r.ctx g old j
saved_by _ w _ g old j = old j

-- word j of page g after a yield by which the caller leaves the processor: it is saved in the block that it names
abbrev pub saved_by_yield : Bool → World → Option Occupant → ℕ → ℕ → (ℕ → ℕ) → ℕ → ℕ
saved_by_yield true w (Some r) s g old j = written_block (with_zeros r.ctx) g (yield_place w.tree r.name s) old j
saved_by_yield _ w _ s g old j = old j

-- word j of page g after an event, from the words that the page had before it
abbrev pub words_after : World → Event → ℕ → (ℕ → ℕ) → ℕ → ℕ
words_after w (E.Load cpu va size) g old j =
    saved_by (is_left (event w (E.Load cpu va size)).outcome) w (runs_on w cpu) g old j
words_after w (E.Store cpu va size x) g old j = saved_by (is_left (event w (E.Store cpu va size x)).outcome) w
    (runs_on w cpu) g (word_after_store_by w (runs_on w cpu) va size x g old) j
words_after w (E.Fetch cpu) g old j = saved_by (is_left (event w (E.Fetch cpu)).outcome) w (runs_on w cpu) g old j
words_after w (E.Trap cpu k a b) g old j =
    saved_by (is_left (event w (E.Trap cpu k a b)).outcome) w (runs_on w cpu) g old j
words_after w (E.Poll cpu) g old j = saved_by (is_left (event w (E.Poll cpu)).outcome) w (runs_on w cpu) g old j
words_after w (E.Call cpu number a) g old j =
    saved_by_yield (is_left (event w (E.Call cpu number a)).outcome) w (runs_on w cpu) a.x2 g old j
words_after w (E.Raise line) g old j = old j
words_after w (E.SetContext cpu c) g old j = old j

-- by all events of a list, in order
abbrev pub words_after_all : World → List Event → ℕ → (ℕ → ℕ) → ℕ → ℕ
words_after_all w [] g old j = old j
words_after_all w (e ∷ es) g old j = words_after_all (event w e).world es g (words_after w e g old) j

-- a call was accepted
abbrev pub IsReplyOk : Outcome → Type 0
IsReplyOk (O.Reply s v) = s ≡ S.Ok
IsReplyOk (O.Word w) = ⊥
IsReplyOk O.Done = ⊥
IsReplyOk (O.Switched from to k) = ⊥
IsReplyOk (O.Parked p k) = ⊥
IsReplyOk O.Idle = ⊥

-- a call of this name by p is an addVAddr or a removeVAddr that names c as the child
abbrev pub NamesChild : Tree → ℕ → CallName → Five → ℕ → Type 0
NamesChild t p name a c =
    (name ≡ OnMemory AddVAddr) × (child_name t p a.x1 ≡ c) ⊎ (name ≡ OnMemory RemoveVAddr) × (child_name t p a.x0 ≡ c)

-- such a call was accepted
abbrev pub ChangesRows : ℕ → World → Event → Type 0
ChangesRows p w (E.Call cpu number a) = IsReplyOk (event w (E.Call cpu number a)).outcome
    × NamesChild w.tree (occupant_name (runs_on w cpu)) (call_named number) a p
ChangesRows p w (E.Load cpu va size) = ⊥
ChangesRows p w (E.Store cpu va size word) = ⊥
ChangesRows p w (E.Fetch cpu) = ⊥
ChangesRows p w (E.Trap cpu k a b) = ⊥
ChangesRows p w (E.Raise line) = ⊥
ChangesRows p w (E.Poll cpu) = ⊥
ChangesRows p w (E.SetContext cpu c) = ⊥

-- no event of a list changes the rows of p: no addVAddr or removeVAddr that names p as the child is accepted
abbrev pub AreFixed : ℕ → World → List Event → Type 0
AreFixed p w [] = Unit {0}
AreFixed p w (e ∷ es) = (ChangesRows p w e → ⊥) × AreFixed p (event w e).world es

-- p makes c on processor i
abbrev pub creation : World → ℕ → Five → Happened
creation w i a = event w (E.Call i 0 a)

-- p ends c on processor j
abbrev pub deletion : World → ℕ → Five → Happened
deletion w j b = event w (E.Call j 1 b)

-- the life of a child: p makes c, events follow in which c lives and the rows of p stay, and p deletes c
pub record IsLife (w : World) (i : ℕ) (a : Five) (es : List Event) (j : ℕ) (b : Five) (p c : ℕ) : Type 0 where
  pub maker : occupant_name (runs_on w i) ≡ p
  pub makes : IsReplyOk (creation w i a).outcome
  pub child : page_of w.tree p a.x0 ≡ c
  pub lives : (v : World) → In v (moments (creation w i a).world es) → In c (names_of (nodes v.tree))
  pub fixed : AreFixed p (creation w i a).world es
  pub ender : occupant_name (runs_on (after (creation w i a).world es) j) ≡ p
  pub ends : IsReplyOk (deletion (after (creation w i a).world es) j b).outcome
  pub same : child_name (after (creation w i a).world es).tree p b.x0 ≡ c

-- p's rows and what of them is free, in the first tree and in the last
pub record HasRowsAgain (t0 t1 : Tree) (p c : ℕ) : Type 0 where
  pub rows : (node t1 p).rows ≡ (node t0 p).rows
  pub unheld : (r : Row) → In r (node t1 p).rows
      → (free t1 p r.at ≡ true) ↔ ((x : Node) → In x t1.others → x.up ≡ p → x.name ≢ c → In r.frame (held_pages x) → ⊥)
  pub again : (r : Row) → In r (node t1 p).rows → free t0 p r.at ≡ true
      → (free t1 p r.at ≡ true) ⊎ ((x : Node) × In x t1.others × (x.up ≡ p) × (x.name ≢ c) × In r.frame (held_pages x))
  pub only : (r : Row) → In r (node t1 p).rows → free t1 p r.at ≡ true
      → (free t0 p r.at ≡ true) ⊎ ((x : Node) × In x t0.others × (x.up ≡ p) × (x.name ≢ c) × In r.frame (held_pages x))

-- the words over the deletion alone
pub record AreCleared (old new : Tree) (c : ℕ) : Type 0 where
  pub zero : (g : ℕ) (x : Node) → IsBelow old c x → In g (config x) → new.words g ≡ Some zero_words
  pub kept : (g : ℕ) → hidden old g ≡ false → hidden new g ≡ false → new.words g ≡ old.words g

-- a page that is hidden at no moment from w over es to the last tree
pub record IsNeverHidden (w v : World) (es : List Event) (t : Tree) (g : ℕ) : Type 0 where
  pub first : hidden w.tree g ≡ false
  pub between : (u : World) → In u (moments v es) → hidden u.tree g ≡ false
  pub last : hidden t g ≡ false

-- what p has again once its child is deleted: its rows, its free pages, and the words of what was never hidden
pub record IsGivenBack (w v : World) (es : List Event) (t : Tree) (p c : ℕ) : Type 0 where
  pub rows : HasRowsAgain w.tree t p c
  pub cleared : AreCleared (after v es).tree t c
  pub words : (g i : ℕ) → In g (row_pages (node w.tree p)) → i < 1024 → IsNeverHidden w v es t g
      → word_of (t.words g) i ≡ words_after_all v es g (word_of (w.tree.words g)) i

-- a child that is made and deleted leaves its parent with the rows and pages that it had before
abbrev pub GivesBack : Type 0
GivesBack = (w : World) (i : ℕ) (a : Five) (es : List Event) (j : ℕ) (b : Five) (p c : ℕ) → IsSoundWorld w
    → AllByRecursion IsWord (list_of a) → AllByRecursion IsEvent es → AllByRecursion IsWord (list_of b)
    → IsLife w i a es j b p c
    → IsGivenBack w (creation w i a).world es (deletion (after (creation w i a).world es) j b).world.tree p c
