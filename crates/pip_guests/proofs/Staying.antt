-- What stays inside is seen by nobody.
use Rattle.std.proofs.Common.{◌≡◌, ℕ, ◌==◌, Bool, true, false, cond, List, refl, sym, subst}
use Rattle.std.proofs.Common.{eqb-true, Option, Some, None}
use Rattle.pip_base.specs.declared.outcome.Status.{Status}
use Rattle.pip_base.specs.declared.outcome.Status.TheVariants as S
use Rattle.pip_base.specs.declared.types.Access.{Access}
use Rattle.pip_base.specs.declared.types.Access.TheVariants.{Load, Store, Fetch}
use Rattle.pip_base.specs.declared.types.Ctx.{Ctx}
use Rattle.pip_base.specs.declared.types.Size.{Size}
use Rattle.pip_base.specs.declared.types.Size.TheVariants.{Word}
use Rattle.pip_model.specs.Answers.{Answer, Five, accept, first_met, refuse}
use Rattle.pip_model.specs.Events.{Event}
use Rattle.pip_model.specs.Events as E
use Rattle.pip_model.specs.Handlers.{handler}
use Rattle.pip_model.specs.Happens.{answer, call, call_named, load_happens, on_running, what_happens}
use Rattle.pip_model.specs.Happens.{written_over, wrote}
use Rattle.pip_model.specs.Lists.{In}
use Rattle.pip_model.specs.Reach.{Faulted, Place, Reached, reach}
use Rattle.pip_model.specs.Switching.{node_name, reply_happens, reply_unless, target_node, yield_happens}
use Rattle.pip_model.specs.Switching.{yield_refusals}
use Rattle.pip_model.specs.Tree.{Tree, word_of}
use Rattle.pip_model.specs.Worlds.{Happened, World, done, runs_on, with_masked, with_running}
use Rattle.pip_model.specs.declared.call_name.CallName.{CallName}
use Rattle.pip_model.specs.declared.call_name.CallName.TheVariants.{Masks, OnMemory, Unknown, Yields}
use Rattle.pip_model.specs.declared.processors.Occupant.{Occupant}
use Rattle.pip_guests.specs.Outside.{Alike, AlikeCpus, AlikeTrees, AlikeWord}
use Rattle.pip_guests.specs.Unseen.{Answers, ByOneOf, GoesTo, StaysThere, IsUnseen, UnseenIsUnseen}
use Rattle.pip_guests.proofs.Alikes.{alike_same, tree_alike_same, word_alike_same}
use Rattle.pip_guests.proofs.Runners.{cpus_alike_same, set_one}

module _ (own : List ℕ) (look : ℕ → ℕ → ℕ → ℕ) (w : World) (cpu : ℕ) where
  -- the tree and the processors of a world look as those of w
  record As (x : World) : Type 0 where
    tree : AlikeTrees look x.tree w.tree
    cpus : AlikeCpus own x.cpus w.cpus

  as_was : As w
  as_was = record { tree = (alike_same own look w).tree; cpus = cpus_alike_same own w.cpus }

  -- what runs there goes on with another context
  goes_on : (r : Occupant) (x : Ctx) (t : Tree) → In r.name own → runs_on w cpu ≡ Some r → AlikeTrees look t w.tree
      → As (with_running (record w { tree = t }) cpu (Some (record r { ctx = x })))
  goes_on r x t i k a = record {
    tree = a;
    cpus = set_one own w.cpus w.cpus cpu (Some (record r { ctx = x })) (cpus_alike_same own w.cpus)
        (rw k (refl, (λ n. absurd (n i))));
  }

  loads : (r : Occupant) (va : ℕ) (a : Access) (z : Size) (q : Reached) → Answers q
      → As (load_happens w cpu r va a z q).world
  loads r va a z (Place g i) m = as_was
  loads r va a z (Faulted f) m = absurd m

  stores : (r : Occupant) (va : ℕ) (z : Size) (x : ℕ) (q : Reached) → GoesTo look w.tree va z x q
      → As (wrote w cpu r va z x q).world
  stores r va z x (Faulted f) m = absurd m
  stores r va z x (Place g i) m = record {
    tree = record { nodes = refl; words = λ k. at k (k == g) refl };
    cpus = cpus_alike_same own w.cpus;
  }
    where
      word : (j : ℕ) (b : Bool) → (j == i) ≡ b
          → look g j (cond b (written_over va z x (word_of (w.tree.words g) i)) (word_of (w.tree.words g) j))
          ≡ look g j (word_of (w.tree.words g) j)
      word j false e = refl
      word j true e = rw (eqb-true j i e) m.0

      at : (k : ℕ) (b : Bool) → (k == g) ≡ b → AlikeWord look k
          (cond b (Some (λ j. cond (j == i) (written_over va z x (word_of (w.tree.words g) i))
          (word_of (w.tree.words g) j))) (w.tree.words k)) (w.tree.words k)
      at k false e = word_alike_same look k (w.tree.words k)
      at k true e =
          let s = eqb-true k g e in
          record {
            there = rw (← m.1, ← s);
            words = λ j. rw s (word j (j == i) refl);
          }

  replies : (r : Occupant) (a : Answer) → In r.name own → runs_on w cpu ≡ Some r
      → AlikeTrees look (reply_happens w cpu r a).world.tree w.tree → As (reply_happens w cpu r a).world
  replies r a i k e = goes_on r _ a.tree i k e

  yields : (r : Occupant) (a : Five) → In r.name own → runs_on w cpu ≡ Some r
      → StaysThere (call Yields w cpu r a).outcome → AlikeTrees look (call Yields w cpu r a).world.tree w.tree
      → As (call Yields w cpu r a).world
  yields r a i k =
      let q = target_node w.tree r.name a.x0 in
      by (first_met (yield_refusals w r.name a q)) (node_name q) (handler w.tree (node_name q) a.x1)
    where
      by : (o : Option Status) (n : ℕ) (c : Option Ctx)
          → StaysThere (reply_unless w cpu r o (yield_happens w cpu r a n c)).outcome
          → AlikeTrees look (reply_unless w cpu r o (yield_happens w cpu r a n c)).world.tree w.tree
          → As (reply_unless w cpu r o (yield_happens w cpu r a n c)).world
      by (Some s) n c m e = replies r (refuse w.tree s) i k e
      by None n None m e = absurd m
      by None n (Some c) m e = record {
        tree = e;
        cpus = set_one own w.cpus w.cpus cpu (Some (record { name = n; ctx = c })) (cpus_alike_same own w.cpus)
            (rw k (m, (λ f. absurd (f (subst (λ x. In x own) (sym m) i)))));
      }

  calls : (r : Occupant) (c : CallName) (a : Five) → In r.name own → runs_on w cpu ≡ Some r
      → StaysThere (call c w cpu r a).outcome → AlikeTrees look (call c w cpu r a).world.tree w.tree
      → As (call c w cpu r a).world
  calls r (OnMemory c) a i k m e = replies r (answer c w r.name a) i k e
  calls r Yields a i k m e = yields r a i k m e
  calls r (Masks b) a i k m e = replies r (accept 0 (with_masked r.name b w.tree)) i k e
  calls r Unknown a i k m e = replies r (refuse w.tree S.UnknownCall) i k e

  -- by what runs there
  by_one : (o : Option Occupant) (P : Occupant → Type 0) (f : Occupant → Happened) → runs_on w cpu ≡ o
      → ByOneOf own o P → ((r : Occupant) → In r.name own → runs_on w cpu ≡ Some r → P r → As (f r).world)
      → As (on_running w cpu o f).world
  by_one None P f e b k = absurd b
  by_one (Some r) P f e b k = k r b.0 e b.1

stays : (own : List ℕ) (look : ℕ → ℕ → ℕ → ℕ) (w : World) (e : Event) → IsUnseen own look w e
    → Alike own look (what_happens w e).world w
stays own look w e m = go e m
  where
    wrap : (cpu : ℕ) (x : World) → As own look w cpu x → Alike own look x w
    wrap cpu x a = assumption

    go : (e : Event) → IsUnseen own look w e → Alike own look (what_happens w e).world w
    go (E.Load cpu va z) m = wrap cpu _ (by_one own look w cpu (runs_on w cpu) _
        (λ r. load_happens w cpu r va Load z (reach w.tree r.name va Load z)) refl m
        (λ r i k h. loads own look w cpu r va Load z (reach w.tree r.name va Load z) h))
    go (E.Store cpu va z x) m = wrap cpu _ (by_one own look w cpu (runs_on w cpu) _
        (λ r. wrote w cpu r va z x (reach w.tree r.name va Store z)) refl m
        (λ r i k h. stores own look w cpu r va z x (reach w.tree r.name va Store z) h))
    go (E.Fetch cpu) m = wrap cpu _ (by_one own look w cpu (runs_on w cpu) _
        (λ r. load_happens w cpu r r.ctx.pc Fetch Word (reach w.tree r.name r.ctx.pc Fetch Word)) refl m
        (λ r i k h. loads own look w cpu r r.ctx.pc Fetch Word (reach w.tree r.name r.ctx.pc Fetch Word) h))
    go (E.Trap cpu k a b) m = absurd m
    go (E.Call cpu number a) m = wrap cpu _ (by (runs_on w cpu) refl m.0 m.1 m.2)
      where
        by : (o : Option Occupant) → runs_on w cpu ≡ o → ByOneOf own o (λ r. Unit {0})
            → StaysThere (on_running w cpu o (λ r. call (call_named number) w cpu r a)).outcome
            → AlikeTrees look (on_running w cpu o (λ r. call (call_named number) w cpu r a)).world.tree w.tree
            → As own look w cpu (on_running w cpu o (λ r. call (call_named number) w cpu r a)).world
        by None k b m e = absurd b
        by (Some r) k b m e = calls own look w cpu r (call_named number) a b.0 k m e
    go (E.Raise j) m = absurd m
    go (E.Poll cpu) m = absurd m
    go (E.SetContext cpu c) m = wrap cpu _ (by_one own look w cpu (runs_on w cpu) (λ r. Unit {0})
        (λ r. done (with_running w cpu (Some (record r { ctx = c })))) refl m
        (λ r i k h. goes_on own look w cpu r c w.tree i k (tree_alike_same look w.tree)))

pub unseen_is_unseen : UnseenIsUnseen
unseen_is_unseen own look w e m = let a = stays own look w e m in assumption
