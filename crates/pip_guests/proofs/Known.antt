-- Every event of a guest stays inside or leaves, or it is a yield of p to its parent.
use Rattle.std.proofs.Common.{◌≡◌, ◌≢◌, ℕ, ◌+◌, ◌*◌, ◌==◌, ◌&&◌, ◌⊎◌, inl, inr, Bool, true, false, not, cond, refl, sym}
use Rattle.std.proofs.Common.{ap, ◌∙◌, subst, arith, eqb-true, Option, Some, None}
use Rattle.std.proofs.lemmas.Bool.{cases_Bool}
use Rattle.std.proofs.lemmas.Bool.Decides.{nat_tests}
use Rattle.pip_base.specs.declared.outcome.Outcome.{Outcome}
use Rattle.pip_base.specs.declared.outcome.Outcome.TheVariants as O
use Rattle.pip_base.specs.declared.outcome.Status.{Status}
use Rattle.pip_base.specs.declared.outcome.Status.TheVariants as S
use Rattle.pip_base.specs.declared.types.Access.{Access}
use Rattle.pip_base.specs.declared.types.Access.TheVariants.{Load, Store, Fetch}
use Rattle.pip_base.specs.declared.types.Ctx.{Ctx}
use Rattle.pip_base.specs.declared.types.Size.{Size}
use Rattle.pip_base.specs.declared.types.Size.TheVariants.{Word}
use Rattle.pip_model.specs.Answers.{Five, first_met}
use Rattle.pip_model.specs.Deliver.{deliver_to, nearest_taker}
use Rattle.pip_model.specs.Events.{Event}
use Rattle.pip_model.specs.Events as E
use Rattle.pip_model.specs.Handlers.{handler}
use Rattle.pip_model.specs.Happens.{access_number, what_happens, call, call_named, event, fault_number, fault_vector}
use Rattle.pip_model.specs.Happens.{load_happens, wrote}
use Rattle.pip_model.specs.Lists.{In, has}
use Rattle.pip_model.specs.Local.{actor, cpu_of}
use Rattle.pip_model.specs.Reach.{Faulted, Place, Reached, reach}
use Rattle.pip_model.specs.Switching.{node_name, reply_unless, target_node, yield, yield_refusals, yield_happens}
use Rattle.pip_model.specs.Tree.{Node, Tree, ancestry, is_place}
use Rattle.pip_model.specs.Worlds.{IsSoundWorld, World, runs_on}
use Rattle.pip_model.specs.declared.call_name.CallName.{CallName}
use Rattle.pip_model.specs.declared.call_name.CallName.TheVariants.{Masks, OnMemory, Unknown, Yields}
use Rattle.pip_model.specs.declared.processors.Occupant.{Occupant}
use Rattle.pip_model.specs.declared.processors.Taker.{Taker}
use Rattle.pip_model.proofs.OnLists.Members.{has_in, in_has}
use Rattle.pip_model.proofs.Events.Kept.{calls_answer}
use Rattle.pip_guests.specs.Guests.{AsksParent, EventsAreKnown, Leaves, StaysBelow, StaysOrLeaves, can_fault, is_own}
use Rattle.pip_guests.proofs.Lines.{top_alone}
use Rattle.pip_guests.proofs.Moves.{call_by, fetch_by, load_by, set_by, store_by, trap_by}
use Rattle.pip_guests.proofs.Taking.{target_below}
use Rattle.pip_guests.proofs.Inside.{actor_runs}
use Rattle.pip_guests.proofs.Elsewhere.{same_world}

-- after an outcome other than Idle a partition of the subtree runs on, or none does
kind : (t : Tree) (p : ℕ) (o : Outcome) → o ≢ O.Idle → StaysBelow t p o ⊎ Leaves t p o
kind t p (O.Word x) h = inl tt
kind t p O.Done h = inl tt
kind t p (O.Reply s x) h = inl tt
kind t p (O.Switched from to k) h = elim (cases_Bool (has (ancestry t to) p)) [
  | inl e ↦ inl (has_in p _ e)
  | inr e ↦ inr (λ i. let j = in_has p _ i in absurd (grind (arith, e, j)))
]
kind t p (O.Parked from k) h = inr tt
kind t p O.Idle h = absurd (h refl)

-- ---- accesses and traps

module _ (w : World) (cpu : ℕ) (r : Occupant) where
  deliver_tells : (k a b : ℕ) (o : Option Taker) → (deliver_to w cpu r k a b o).outcome ≢ O.Idle
  deliver_tells k a b None e = cc
  deliver_tells k a b (Some y) e = cc

  loaded_tells : (va : ℕ) (c : Access) (z : Size) (q : Reached) → (load_happens w cpu r va c z q).outcome ≢ O.Idle
  loaded_tells va c z (Place g i) e = cc
  loaded_tells va c z (Faulted f) e = deliver_tells (fault_vector f) va (16 * access_number c + fault_number f)
      (nearest_taker w r.name (fault_vector f)) e

  wrote_tells : (va : ℕ) (z : Size) (x : ℕ) (q : Reached) → (wrote w cpu r va z x q).outcome ≢ O.Idle
  wrote_tells va z x (Place g i) e = cc
  wrote_tells va z x (Faulted f) e = deliver_tells (fault_vector f) va (16 * access_number Store + fault_number f)
      (nearest_taker w r.name (fault_vector f)) e

fault_tells : (w : World) (e : Event) (r : Occupant) → can_fault e ≡ true → runs_on w (cpu_of e) ≡ Some r
    → (event w e).outcome ≢ O.Idle
fault_tells w (E.Load cpu va z) r f k e = loaded_tells w cpu r va Load z (reach w.tree r.name va Load z)
    (rw (← load_by w r cpu va z k, e))
fault_tells w (E.Store cpu va z x) r f k e = wrote_tells w cpu r va z x (reach w.tree r.name va Store z)
    (rw (← store_by w r cpu va z x k, e))
fault_tells w (E.Fetch cpu) r f k e = loaded_tells w cpu r r.ctx.pc Fetch Word (reach w.tree r.name r.ctx.pc Fetch Word)
    (rw (← fetch_by w r cpu k, e))
fault_tells w (E.Trap cpu v a b) r f k e =
    deliver_tells w cpu r v a b (nearest_taker w r.name v) (rw (← trap_by w r cpu v a b k, e))
fault_tells w (E.Call cpu number a) r f k e = cc
fault_tells w (E.Raise j) r f k e = cc
fault_tells w (E.Poll cpu) r f k e = cc
fault_tells w (E.SetContext cpu c) r f k e = cc

-- what can fault asks nobody
fault_asks : (p r : ℕ) (e : Event) → can_fault e ≡ true → AsksParent p r e → ⊥
fault_asks p r (E.Load cpu va z) f h = h
fault_asks p r (E.Store cpu va z x) f h = h
fault_asks p r (E.Fetch cpu) f h = h
fault_asks p r (E.Trap cpu v a b) f h = h
fault_asks p r (E.Call cpu number a) f h = cc
fault_asks p r (E.Raise j) f h = h
fault_asks p r (E.Poll cpu) f h = h
fault_asks p r (E.SetContext cpu c) f h = h

fault_known : (w : World) (p : ℕ) (e : Event) → IsSoundWorld w → can_fault e ≡ true → is_own e ≡ true
    → In p (ancestry w.tree (actor w e)) → StaysOrLeaves p w e
fault_known w p e s f o h =
    let (r, k, q) = actor_runs w p e s h in
    elim (kind w.tree p (event w e).outcome (fault_tells w e r f k)) [
      | inl st ↦ inl (record { own = o; below = h; stays = st; asks = fault_asks p (actor w e) e f })
      | inr lv ↦ inr (record { faults = f; below = h; leaves = lv })
    ]

-- ---- calls

-- a yield that is no yield of p to its parent is refused, or its target is below p
yield_stays : (w : World) (p cpu : ℕ) (r : Occupant) (a : Five) → IsSoundWorld w → In p (ancestry w.tree r.name)
    → r.name ≢ w.tree.root.name → (r.name ≡ p → a.x0 ≡ 0 → ⊥) → (yield w cpu r a).outcome ≢ O.Idle
    → StaysBelow w.tree p (yield w cpu r a).outcome
yield_stays w p cpu r a s h d asks idle =
    go (target_node w.tree r.name a.x0) refl (first_met (yield_refusals w r.name a (target_node w.tree r.name a.x0)))
    refl (handler w.tree (node_name (target_node w.tree r.name a.x0)) a.x1) idle
  where
    refused : (b : Bool) → cond b (Some S.NotAligned) (Some S.NotChild) ≡ None → ⊥
    refused true e = cc
    refused false e = cc

    go : (q : Option Node) → target_node w.tree r.name a.x0 ≡ q → (o : Option Status)
        → first_met (yield_refusals w r.name a q) ≡ o → (c : Option Ctx)
        → (reply_unless w cpu r o (yield_happens w cpu r a (node_name q) c)).outcome ≢ O.Idle
        → StaysBelow w.tree p (reply_unless w cpu r o (yield_happens w cpu r a (node_name q) c)).outcome
    go q e (Some st) f c i = tt
    go q e None f None i = absurd (i refl)
    go (Some x) e None f (Some c) i = target_below w w p s s (same_world p w) r.name a.x0 x h d asks e
    go None e None f (Some c) i = absurd (refused (not (a.x0 == 1) && not (is_place a.x0)) f)

both : (a b : Bool) → (a && b) ≡ true → (a ≡ true) × (b ≡ true)
both true b e = (refl, e)
both false b e = cc

neither : (a b : Bool) → (a && b) ≡ false → a ≡ true → b ≡ true → ⊥
neither a b e x y = grind (arith, e, x, y)

eqb-same : (a b : ℕ) → a ≡ b → (a == b) ≡ true
eqb-same a b e = grind (arith, nat_tests, e)

call_known : (w : World) (p cpu number : ℕ) (a : Five) → IsSoundWorld w → p ≢ w.tree.root.name
    → In p (ancestry w.tree (actor w (E.Call cpu number a)))
    → StaysOrLeaves p w (E.Call cpu number a) ⊎ AsksParent p (actor w (E.Call cpu number a)) (E.Call cpu number a)
call_known w p cpu number a s m h =
    let e = E.Call cpu number a in
    let (r, k, q) = actor_runs w p e s h in
    by r k q (call_named number) refl
  where
    e : Event
    e = E.Call cpu number a

    inside : StaysBelow w.tree p (event w e).outcome → (AsksParent p (actor w e) e → ⊥)
        → StaysOrLeaves p w e ⊎ AsksParent p (actor w e) e
    inside st asks = inl (inl (record { own = refl; below = h; stays = st; asks = asks }))

    by : (r : Occupant) → runs_on w cpu ≡ Some r → actor w e ≡ r.name → (c : CallName) → call_named number ≡ c
        → StaysOrLeaves p w e ⊎ AsksParent p (actor w e) e
    by r k q (OnMemory c) z = inside (rw (call_by w r cpu number a k, z) tt)
        (λ i. let y = sym z ∙ i.0 in cc)
    by r k q (Masks b) z = inside (rw (call_by w r cpu number a k, z) tt)
        (λ i. let y = sym z ∙ i.0 in cc)
    by r k q Unknown z = inside (rw (call_by w r cpu number a k, z) tt)
        (λ i. let y = sym z ∙ i.0 in cc)
    by r k q Yields z = elim (cases_Bool (r.name == p && a.x0 == 0)) [
      | inl y ↦ inr (z, q ∙ eqb-true r.name p (both _ _ y).0, eqb-true a.x0 0 (both _ _ y).1)
      | inr y ↦
          let one : what_happens w e ≡ yield w cpu r a = rw (call_by w r cpu number a k, z) in
          let below : In p (ancestry w.tree r.name) = rw (← q) h in
          let not_root = λ (x : r.name ≡ w.tree.root.name).
          m (top_alone w.tree s.tree p (rw x at below)) in
          let asks = λ (x : r.name ≡ p) (v : a.x0 ≡ 0). neither _ _ y (eqb-same r.name p x) (eqb-same a.x0 0 v) in
          let idle = λ (x : (yield w cpu r a).outcome ≡ O.Idle).
          calls_answer w cpu number a r k (rw (one, x)) in
          inside (rw one (yield_stays w p cpu r a s below not_root asks idle)) (λ i. asks (cc (i.1)) i.2)
    ]

pub events_are_known : EventsAreKnown
events_are_known w p (E.Load cpu va z) s m o h = inl (fault_known w p (E.Load cpu va z) s refl o h)
events_are_known w p (E.Store cpu va z x) s m o h = inl (fault_known w p (E.Store cpu va z x) s refl o h)
events_are_known w p (E.Fetch cpu) s m o h = inl (fault_known w p (E.Fetch cpu) s refl o h)
events_are_known w p (E.Trap cpu v a b) s m o h = inl (fault_known w p (E.Trap cpu v a b) s refl o h)
events_are_known w p (E.Call cpu number a) s m o h = call_known w p cpu number a s m h
events_are_known w p (E.Raise j) s m o h = cc
events_are_known w p (E.Poll cpu) s m o h = cc
events_are_known w p (E.SetContext cpu c) s m o h =
    let (r, k, q) = actor_runs w p (E.SetContext cpu c) s h in
    inl (inl (record {
      own = refl;
      below = h;
      stays =
          rw (set_by w r cpu c k) tt;
      asks = λ i. i;
    }))
