-- A yield of p to its parent, of which p learns the same in two worlds in which the guest is the same: it is the same
-- again.
use Rattle.std.proofs.Common.{◌≡◌, ◌≢◌, ℕ, ◌⊎◌, inl, inr, true, cond, refl, sym, ap, ◌∙◌, subst, Option, Some, None}
use Rattle.std.proofs.lemmas.Bool.{false_from_ne_true, ne_eqb}
use Rattle.pip_base.specs.declared.outcome.Outcome.{Outcome}
use Rattle.pip_base.specs.declared.outcome.Outcome.TheVariants as O
use Rattle.pip_base.specs.declared.outcome.Status.{Status}
use Rattle.pip_base.specs.declared.types.Ctx.{Ctx}
use Rattle.pip_model.specs.Answers.{Five, first_met}
use Rattle.pip_model.specs.Events.{Event, IsEvent}
use Rattle.pip_model.specs.Events as E
use Rattle.pip_model.specs.Handlers.{handler, saved_to}
use Rattle.pip_model.specs.Happens.{what_happens, call, event}
use Rattle.pip_model.specs.Lists.{In}
use Rattle.pip_model.specs.Poll.{occupant_name}
use Rattle.pip_model.specs.Switching.{node_name, reply_unless, target_node, with_zeros, yield, yield_place}
use Rattle.pip_model.specs.Switching.{yield_refusals, yield_happens, yielded_tree}
use Rattle.pip_model.specs.Tree.{ancestry, node}
use Rattle.pip_model.specs.Worlds.{Happened, IsSoundWorld, World, runs_on}
use Rattle.pip_model.specs.declared.processors.Occupant.{Occupant}
use Rattle.pip_model.proofs.OnLists.Members.{has_in, in_has}
use Rattle.pip_model.proofs.Events.Kept.{calls_answer}
use Rattle.pip_model.proofs.Events.Soundness.{event-sound}
use Rattle.pip_model.proofs.Locality.Agree.{AgreeTrees}
use Rattle.pip_model.proofs.Locality.OneEvent.{at_set_here, own_name, to_trees, to_worlds}
use Rattle.pip_model.proofs.Trees.Free.{IsName, node_found}
use Rattle.pip_guests.specs.Guests.{IsSameGuest, is_of_guest, guest_learns}
use Rattle.pip_guests.specs.Inputs.{IsAsking}
use Rattle.pip_guests.proofs.Lines.{leaves_up, line_alike, not_top, own_line, parent_line, top_alone}
use Rattle.pip_guests.proofs.Moves.{call_by, event_moves, yielded_same}
use Rattle.pip_guests.proofs.Taking.{above_out}
use Rattle.pip_guests.proofs.Inside.{actor_runs, line_before, one_way, refused_alike, yields_agree}
use Rattle.pip_guests.proofs.Elsewhere.{name_after, same_world}
use Rattle.pip_guests.proofs.Leaving.{one_left}

-- the parent of p is not below p
parent_off : (w : World) (p : ℕ) → IsSoundWorld w → IsName w.tree p → p ≢ w.tree.root.name
    → In p (ancestry w.tree (node_name (target_node w.tree p 0))) → ⊥
parent_off w p s n m h =
    let f = parent_line w.tree s.tree p n m in
    let up = (node w.tree p).up in
    let name = ap (λ b. node_name (cond b None (Some (node w.tree up)))) (ne_eqb p w.tree.root.name m)
    ∙ (node_found w.tree up f.1).1 in
    above_out w w p s s (same_world p w) (node w.tree p) f.0 (node_found w.tree p n).1 up
    (own_line w.tree s.tree up f.1) (rw (← name) h)

-- the guest's trees agree after both, and on the processor the same runs, or nothing of the guest
record Parted (p cpu : ℕ) (a b : Happened) : Type 0 where
  trees : AgreeTrees p a.world.tree b.world.tree
  runs : (runs_on a.world cpu ≡ runs_on b.world cpu)
      ⊎ (((z : Occupant) → runs_on a.world cpu ≡ Some z → In p (ancestry a.world.tree z.name) → ⊥)
      × ((z : Occupant) → runs_on b.world cpu ≡ Some z → In p (ancestry b.world.tree z.name) → ⊥))

-- one world after a yield to a partition that is not below p
module _ (w : World) (p cpu x : ℕ) (r : Occupant) (a : Five) (s : IsSoundWorld w)
    (d : r.name ≢ w.tree.root.name) (k : runs_on w cpu ≡ Some r) (off : In p (ancestry w.tree x) → ⊥) where
  -- nothing is learned of it
  accepted : (o : Outcome) → O.Switched r.name x a.x1 ≡ o → guest_learns w.tree p o ≡ None
  accepted o e = rw (← e) (ap (λ b. cond b (Some (O.Switched r.name x a.x1)) None)
      (false_from_ne_true _ (λ z. off (has_in p _ z))))

  gone : (c : Ctx) (z : Occupant) → runs_on (yield_happens w cpu r a x (Some c)).world cpu ≡ Some z
      → In p (ancestry (yield_happens w cpu r a x (Some c)).world.tree z.name) → ⊥
  gone c z e h =
      let q : Occupant = record { name = x; ctx = c } in
      let u : Some q ≡ Some z = rw (← at_set_here (Some q) w.cpus cpu r k) e in
      let v : q ≡ z = cc in
      off (rw (← v) at (subst (λ t. In p (ancestry t z.name)) (yielded_same w.tree r a.x2 s.tree d) h))

module _ (w v : World) (p cpu : ℕ) (r : Occupant) (a : Five) (s : IsSoundWorld w) (s' : IsSoundWorld v) (g :
    IsSameGuest p w v) (m : p ≢ w.tree.root.name) (k : runs_on w cpu ≡ Some r) (h : In p (ancestry w.tree r.name)) where
  d : r.name ≢ w.tree.root.name
  d e = m (top_alone w.tree s.tree p (rw e at h))

  d' : r.name ≢ v.tree.root.name
  d' = not_top w.tree v.tree s.tree s'.tree r.name d

  k' : runs_on v cpu ≡ Some r
  k' = g.runs cpu r h k

  parted : (x y : ℕ) (o o' : Option Status) (c c' : Option Ctx) → (In p (ancestry w.tree x) → ⊥)
      → (In p (ancestry v.tree y) → ⊥)
      → (reply_unless w cpu r o (yield_happens w cpu r a x c)).outcome ≢ O.Idle
      → (reply_unless v cpu r o' (yield_happens v cpu r a y c')).outcome ≢ O.Idle
      → guest_learns w.tree p (reply_unless w cpu r o (yield_happens w cpu r a x c)).outcome
      ≡ guest_learns v.tree p (reply_unless v cpu r o' (yield_happens v cpu r a y c')).outcome
      → Parted p cpu (reply_unless w cpu r o (yield_happens w cpu r a x c))
      (reply_unless v cpu r o' (yield_happens v cpu r a y c'))
  parted x y (Some st) (Some st') c c' off off' i i' e =
      let same : st ≡ st' = cc in
      let z = refused_alike w v p cpu r s s' g m k h st in
      rw (← same) (record { trees = z.trees; runs = inl z.on })
  parted x y (Some st) None c None off off' i i' e = absurd (i' refl)
  parted x y (Some st) None c (Some q) off off' i i' e = let n = accepted v p cpu y r a s' d' k' off' _ refl in
      let u = e ∙ n in cc
  parted x y None (Some st') None c' off off' i i' e = absurd (i refl)
  parted x y None (Some st') (Some q) c' off off' i i' e = let n = accepted w p cpu x r a s d k off _ refl in
      let u = sym n ∙ e in cc
  parted x y None None None c' off off' i i' e = absurd (i refl)
  parted x y None None (Some q) None off off' i i' e = absurd (i' refl)
  parted x y None None (Some q) (Some q') off off' i i' e = record {
    trees = subst (λ t. AgreeTrees p t (yielded_tree v.tree r a.x2)) (sym (yielded_same w.tree r a.x2 s.tree d))
        (subst (AgreeTrees p (saved_to w.tree (with_zeros r.ctx) (yield_place w.tree r.name a.x2)))
        (sym (yielded_same v.tree r a.x2 s'.tree d')) (yields_agree w v p cpu r s s' g m k h (with_zeros r.ctx) a.x2));
    runs = inr (gone w p cpu x r a s d k off q, gone v p cpu y r a s' d' k' off' q');
  }

-- a yield of p to its parent
call_parted : (w v : World) (p cpu number : ℕ) (a : Five) → IsSoundWorld w → IsSoundWorld v → IsName w.tree p
    → p ≢ w.tree.root.name → IsSameGuest p w v → IsAsking p (E.Call cpu number a) w v → (r : Occupant)
    → runs_on w cpu ≡ Some r → r.name ≡ p → Parted p cpu (event w (E.Call cpu number a)) (event v (E.Call cpu number a))
call_parted w v p cpu number a s s' n m g i r k q =
    let e = E.Call cpu number a in
    let h : In p (ancestry w.tree r.name) =
    rw q (own_line w.tree s.tree p n) in
    let k' = g.runs cpu r h k in
    let n' = name_after p w.tree v.tree s.tree s'.tree n (to_trees p w v g.below) in
    let m' = not_top w.tree v.tree s.tree s'.tree p m in
    let one : what_happens w e ≡ yield w cpu r a = rw (call_by w r cpu number a k, i.asks.0) in
    let two : what_happens v e ≡ yield v cpu r a = rw (call_by v r cpu number a k', i.asks.0) in
    let x = target_node w.tree r.name a.x0 in
    let y = target_node v.tree r.name a.x0 in
    let off = λ (j : In p (ancestry w.tree (node_name x))).
    parent_off w p s n m (rw i.asks.2 at (subst (λ b. In p (ancestry w.tree (node_name (target_node w.tree b a.x0)))) q
    j)) in
    let off' = λ (j : In p (ancestry v.tree (node_name y))).
    parent_off v p s' n' m' (rw i.asks.2 at (subst (λ b. In p (ancestry v.tree (node_name (target_node v.tree b a.x0))))
    q j)) in
    let idle =
    λ (z : (yield w cpu r a).outcome ≡ O.Idle). calls_answer w cpu number a r k (rw (one, z)) in
    let idle' =
    λ (z : (yield v cpu r a).outcome ≡ O.Idle). calls_answer v cpu number a r k' (rw (two, z)) in
    let same = ap (λ b. guest_learns w.tree p b.outcome) (sym one) ∙ i.answer
    ∙ ap (λ b. guest_learns v.tree p b.outcome) two in
    let z = parted w v p cpu r a s s' g m k h (node_name x) (node_name y) (first_met (yield_refusals w r.name a x))
    (first_met (yield_refusals v r.name a y)) (handler w.tree (node_name x) a.x1)
    (handler v.tree (node_name y) a.x1) off off' idle idle' same in
    let t = subst (λ b. Parted p cpu b (what_happens v e)) (sym one)
    (rw two z) in
    assumption

pub record SameAsking (p : ℕ) (e : Event) (w v : World) : Type 0 where
  pub own : is_of_guest p w e ≡ true
  pub own_there : is_of_guest p v e ≡ true
  pub name : IsName (event w e).world.tree p
  pub guest : IsSameGuest p (event w e).world (event v e).world

pub asked_same : (w v : World) (p : ℕ) (e : Event) → IsSoundWorld w → IsSoundWorld v → IsEvent e → IsName w.tree p
    → p ≢ w.tree.root.name → IsSameGuest p w v → IsAsking p e w v → SameAsking p e w v
asked_same w v p (E.Load cpu va z) s s' ev n m g i = absurd i.asks
asked_same w v p (E.Store cpu va z x) s s' ev n m g i = absurd i.asks
asked_same w v p (E.Fetch cpu) s s' ev n m g i = absurd i.asks
asked_same w v p (E.Trap cpu k a b) s s' ev n m g i = absurd i.asks
asked_same w v p (E.Raise j) s s' ev n m g i = absurd i.asks
asked_same w v p (E.Poll cpu) s s' ev n m g i = absurd i.asks
asked_same w v p (E.SetContext cpu c) s s' ev n m g i = absurd i.asks
asked_same w v p (E.Call cpu number a) s s' ev n m g i =
    let e = E.Call cpu number a in
    let (r, k, q) =
    actor_runs w p e s (rw i.asks.1 (own_line w.tree s.tree p n)) in
    let is_p : r.name ≡ p = cc (i.asks.1) in
    let h : In p (ancestry w.tree r.name) =
    rw is_p (own_line w.tree s.tree p n) in
    let k' = g.runs cpu r h k in
    let h' = line_alike w.tree v.tree p s.tree s'.tree (to_trees p w v g.below) r.name h in
    let d : r.name ≢ w.tree.root.name = λ z. m (cc) in
    let d' = not_top w.tree v.tree s.tree s'.tree r.name d in
    let z = call_parted w v p cpu number a s s' n m g i r k is_p in
    let x = event_moves w e r s refl k d in
    let y = event_moves v e r s' refl k' d' in
    let l = leaves_up p r.name w.tree (event w e).world.tree s.tree (event-sound w e s ev).tree h x.leaves in
    let l' = leaves_up p r.name v.tree (event v e).world.tree s'.tree (event-sound v e s' ev).tree h' y.leaves in
    let before = λ (b : ℕ) (j : IsName w.tree b) (o : In p (ancestry (event w e).world.tree b)).
    line_before w.tree (event w e).world.tree p b l j o in
    let before' = λ (b : ℕ) (j : IsName v.tree b) (o : In p (ancestry (event v e).world.tree b)).
    line_before v.tree (event v e).world.tree p b l' j o in
    let guest : IsSameGuest p (event w e).world (event v e).world = elim z.runs [
      | inl on ↦ record {
        below = to_worlds p _ _ z.trees;
        runs = one_way w v (event w e).world (event v e).world p cpu s before x.cpus y.cpus on g.runs;
        runs_back = one_way v w (event v e).world (event w e).world p cpu s' before' y.cpus x.cpus (sym on) g.runs_back;
      }
      | inr off ↦ record {
        below = to_worlds p _ _ z.trees;
        runs = one_left w v (event w e).world (event v e).world p cpu s before x.cpus y.cpus off.0 g.runs;
        runs_back = one_left v w (event v e).world (event w e).world p cpu s' before' y.cpus x.cpus off.1 g.runs_back;
      }
    ] in
    record {
      own = in_has p _ (rw q h);
      own_there = in_has p _ (rw k' h');
      name = own_name p w.tree (event w e).world.tree l n;
      guest = guest;
    }
