-- An event of a guest after which control is still with it: in two worlds in which the guest is the same it is answered
-- alike, and the guest is the same again.
use Rattle.std.proofs.Common.{◌≡◌, ◌≢◌, ℕ, ◌+◌, ◌*◌, ◌==◌, ◌&&◌, ◌||◌, inl, inr, Bool, true, false, not, cond, [], ◌∷◌}
use Rattle.std.proofs.Common.{refl, sym, ap, ◌∙◌, subst, Option, Some, None}
use Rattle.std.specs.Prelude.{is_none, nat_le, nat_lt}
use Rattle.std.proofs.lemmas.Bool.{cases_eq}
use Rattle.pip_base.specs.Status.{status_number}
use Rattle.pip_base.specs.declared.outcome.Outcome.{Outcome}
use Rattle.pip_base.specs.declared.outcome.Outcome.TheVariants as O
use Rattle.pip_base.specs.declared.outcome.Status.{Status}
use Rattle.pip_base.specs.declared.outcome.Status.TheVariants as S
use Rattle.pip_base.specs.declared.types.Access.{Access}
use Rattle.pip_base.specs.declared.types.Access.TheVariants.{Load, Store, Fetch}
use Rattle.pip_base.specs.declared.types.Ctx.{Ctx}
use Rattle.pip_base.specs.declared.types.Size.{Size}
use Rattle.pip_base.specs.declared.types.Size.TheVariants.{Word}
use Rattle.pip_model.specs.Answers.{Five, first_met, refuse}
use Rattle.pip_model.specs.Deliver.{deliver, deliver_to, nearest_taker}
use Rattle.pip_model.specs.Events.{Event, IsEvent}
use Rattle.pip_model.specs.Events as E
use Rattle.pip_model.specs.Handlers.{handler, is_reached, save, save_place, saved_to}
use Rattle.pip_model.specs.Happens.{IsSwitching, access_number, what_happens, call, call_named, event, fault_number}
use Rattle.pip_model.specs.Happens.{fault_vector, load_happens, read_of, written_over, wrote}
use Rattle.pip_model.specs.Lists.{In}
use Rattle.pip_model.specs.Local.{actor, cpu_of}
use Rattle.pip_model.specs.Poll.{occupant_name}
use Rattle.pip_model.specs.Reach.{Faulted, Place, Reached, reach}
use Rattle.pip_model.specs.Sound.{IsSound}
use Rattle.pip_model.specs.Switching.{reply_happens, reply_unless, target_node, with_reply, with_zeros, yield}
use Rattle.pip_model.specs.Switching.{yield_place, yield_refusals, yield_to, yield_happens, yielded_tree}
use Rattle.pip_model.specs.Tree.{Node, Tree, ancestry, is_place}
use Rattle.pip_model.specs.Worlds.{Happened, IsSoundWorld, World, done, with_running, runs_on, handler_context}
use Rattle.pip_model.specs.declared.call_name.CallName.{CallName}
use Rattle.pip_model.specs.declared.call_name.CallName.TheVariants.{Masks, OnMemory, Unknown, Yields}
use Rattle.pip_model.specs.declared.processors.Occupant.{Occupant}
use Rattle.pip_model.specs.declared.processors.Taker.{Taker}
use Rattle.pip_model.proofs.Events.Soundness.{event-sound, runs_named}
use Rattle.pip_model.proofs.Locality.Agree.{AgreeTrees}
use Rattle.pip_model.proofs.Locality.Leaves.{LeavesTree}
use Rattle.pip_model.proofs.Locality.OneEvent.{at_set_here, event-again, reached_row, stored-agree, to_trees, to_worlds}
use Rattle.pip_model.proofs.Trees.Free.{IsName}
use Rattle.pip_model.proofs.Trees.Numbers.{reached_small}
use Rattle.pip_model.proofs.Events.Kept.{save_there, yield_there}
use Rattle.pip_model.proofs.Locality.Runs.{agree_up}
use Rattle.pip_guests.specs.Guests.{AsksParent, IsInside, IsSameGuest, IsSameInside, StaysBelow, is_own}
use Rattle.pip_guests.proofs.Lines.{agree_below, leaves_up, line_alike, line_name, line_top, line_trans, no_line}
use Rattle.pip_guests.proofs.Lines.{not_top, rows_up, top_alone}
use Rattle.pip_guests.proofs.Moves.{call_by, event_moves, fetch_by, load_by, set_by, store_by, trap_by, yielded_same}
use Rattle.pip_guests.proofs.Reading.{reach_alike, save_place_alike, saved_agree, yield_place_alike}
use Rattle.pip_guests.proofs.Taking.{handlers, runs_alike, taker_alike, target_alike, target_below, trees}

-- the partition below p that makes an event runs on its processor
pub actor_runs : (w : World) (p : ℕ) (e : Event) → IsSoundWorld w → In p (ancestry w.tree (actor w e))
    → (r : Occupant) × (runs_on w (cpu_of e) ≡ Some r) × (actor w e ≡ r.name)
actor_runs w p e s h = go (runs_on w (cpu_of e)) h
  where
    go : (o : Option Occupant) → In p (ancestry w.tree (occupant_name o))
        → (r : Occupant) × (o ≡ Some r) × (occupant_name o ≡ r.name)
    go None k = absurd (no_line w.tree s.tree p k)
    go (Some r) k = (r, refl, refl)

-- ---- one event

pub record Alike (p cpu : ℕ) (a b : Happened) : Type 0 where
  pub outcome : a.outcome ≡ b.outcome
  pub trees : AgreeTrees p a.world.tree b.world.tree
  pub on : runs_on a.world cpu ≡ runs_on b.world cpu

module _ (w v : World) (p cpu : ℕ) (r : Occupant) (s : IsSoundWorld w) (s' : IsSoundWorld v) (g : IsSameGuest p w v)
    (m : p ≢ w.tree.root.name) (k : runs_on w cpu ≡ Some r) (h : In p (ancestry w.tree r.name)) where
  k' : runs_on v cpu ≡ Some r
  k' = g.runs cpu r h k

  tr : AgreeTrees p w.tree v.tree
  tr = trees w v p s s' g

  ar : AgreeTrees r.name w.tree v.tree
  ar = agree_below w.tree v.tree p s.tree s'.tree tr r.name h

  n : IsName w.tree r.name
  n = line_name w.tree r.name p h

  n' : IsName v.tree r.name
  n' = s'.names_nodes r.name (runs_named v cpu r s' k')

  d : r.name ≢ w.tree.root.name
  d e = m (top_alone w.tree s.tree p (rw e at h))

  d' : r.name ≢ v.tree.root.name
  d' = not_top w.tree v.tree s.tree s'.tree r.name d

  put_alike : (o : Outcome) (t u : Tree) (z : Option Occupant) → AgreeTrees p t u
      → Alike p cpu (record { outcome = o; world = with_running (record w { tree = t }) cpu z })
      (record { outcome = o; world = with_running (record v { tree = u }) cpu z })
  put_alike o t u z a =
      record { outcome = refl; trees = a; on = cc (at_set_here z w.cpus cpu r k, at_set_here z v.cpus cpu r k') }

  pub refused_alike : (st : Status)
      → Alike p cpu (reply_happens w cpu r (refuse w.tree st)) (reply_happens v cpu r (refuse v.tree st))
  refused_alike st = put_alike (O.Reply st 0) w.tree v.tree
      (Some (record r { ctx = record r.ctx { regs = with_reply (status_number st) 0 r.ctx.regs } })) tr

  pub saves_agree : (c : Ctx) (x : ℕ)
      → AgreeTrees p (saved_to w.tree c (save_place w.tree r.name x)) (saved_to v.tree c (save_place v.tree r.name x))
  saves_agree c x =
      let q = save_place_alike w.tree v.tree r.name s.tree s'.tree n ar x in
      rw (← q) (saved_agree w.tree v.tree p c (save_place w.tree r.name x) tr
      (λ h i e. save_there w.tree r.name x h i s.tree n e)
      (λ h i e. save_there v.tree r.name x h i s'.tree n' (sym q ∙ e)))

  pub yields_agree : (c : Ctx) (x : ℕ)
      → AgreeTrees p (saved_to w.tree c (yield_place w.tree r.name x)) (saved_to v.tree c (yield_place v.tree r.name x))
  yields_agree c x =
      let q = yield_place_alike w.tree v.tree r.name s.tree s'.tree n ar x in
      rw (← q) (saved_agree w.tree v.tree p c (yield_place w.tree r.name x) tr
      (λ h i e. yield_there w.tree r.name x h i s.tree n e)
      (λ h i e. yield_there v.tree r.name x h i s'.tree n' (sym q ∙ e)))

  deliver_alike : (x a b : ℕ) → StaysBelow w.tree p (deliver w cpu r x a b).outcome
      → Alike p cpu (deliver w cpu r x a b) (deliver v cpu r x a b)
  deliver_alike x a b st = go (nearest_taker w r.name x) refl st
    where
      go : (o : Option Taker) → nearest_taker w r.name x ≡ o → StaysBelow w.tree p (deliver_to w cpu r x a b o).outcome
          → Alike p cpu (deliver_to w cpu r x a b o) (deliver v cpu r x a b)
      go None e st = absurd st
      go (Some y) e st = rw (taker_alike w v p s s' g x y st m r.name h e)
          (put_alike (O.Switched r.name y.to x) (save w.tree r.name 63 r.ctx) (save v.tree r.name 63 r.ctx)
          (Some (record { name = y.to; ctx = handler_context y.handler x a b y.born })) (saves_agree r.ctx 63))

  loaded_alike : (va : ℕ) (c : Access) (z : Size)
      → StaysBelow w.tree p (load_happens w cpu r va c z (reach w.tree r.name va c z)).outcome → Alike p cpu
      (load_happens w cpu r va c z (reach w.tree r.name va c z))
      (load_happens v cpu r va c z (reach v.tree r.name va c z))
  loaded_alike va c z st =
      rw (← reach_alike w.tree v.tree r.name s.tree s'.tree n ar va c z) (go (reach w.tree r.name va c z) refl st)
    where
      go : (q : Reached) → reach w.tree r.name va c z ≡ q → StaysBelow w.tree p (load_happens w cpu r va c z q).outcome
          → Alike p cpu (load_happens w cpu r va c z q) (load_happens v cpu r va c z q)
      go (Place f i) e st = record {
        outcome = rw (← ar.words f i (reached_row w.tree r.name va f i c z e)
            (reached_small w.tree r.name va f i c z e));
        trees = tr;
        on = k ∙ sym k';
      }
      go (Faulted f) e st = deliver_alike (fault_vector f) va (16 * access_number c + fault_number f) st

  wrote_alike : (va : ℕ) (z : Size) (x : ℕ)
      → StaysBelow w.tree p (wrote w cpu r va z x (reach w.tree r.name va Store z)).outcome → Alike p cpu
      (wrote w cpu r va z x (reach w.tree r.name va Store z)) (wrote v cpu r va z x (reach v.tree r.name va Store z))
  wrote_alike va z x st =
      rw (← reach_alike w.tree v.tree r.name s.tree s'.tree n ar va Store z)
      (go (reach w.tree r.name va Store z) refl st)
    where
      go : (q : Reached) → reach w.tree r.name va Store z ≡ q → StaysBelow w.tree p (wrote w cpu r va z x q).outcome
          → Alike p cpu (wrote w cpu r va z x q) (wrote v cpu r va z x q)
      go (Place f i) e st =
          let row = reached_row w.tree r.name va f i Store z e in record {
            outcome = refl;
            trees = stored-agree w.tree v.tree p f i _ _ tr (rows_up w.tree s.tree p r.name f h row)
                (rw (← ar.words f i row (reached_small w.tree r.name va f i Store z e)));
            on = k ∙ sym k';
          }
      go (Faulted f) e st = deliver_alike (fault_vector f) va (16 * access_number Store + fault_number f) st

  yield_alike : (a : Five) → (r.name ≡ p → a.x0 ≡ 0 → ⊥) → Alike p cpu (yield w cpu r a) (yield v cpu r a)
  yield_alike a asks =
      subst (λ q. Alike p cpu (yield w cpu r a) (yield_to v cpu r a q)) (target_alike w v p s s' g r.name a.x0 h d asks)
      (go (target_node w.tree r.name a.x0) (λ x e. target_below w v p s s' g r.name a.x0 x h d asks e))
    where
      at : (x : Node) (o : Option Status) (c : Option Ctx) → Alike p cpu
          (reply_unless w cpu r o (yield_happens w cpu r a x.name c))
          (reply_unless v cpu r o (yield_happens v cpu r a x.name c))
      at x (Some st) c = refused_alike st
      at x None None = record { outcome = refl; trees = tr; on = k ∙ sym k' }
      at x None (Some c) = put_alike (O.Switched r.name x.name a.x1) (yielded_tree w.tree r a.x2)
          (yielded_tree v.tree r a.x2) (Some (record { name = x.name; ctx = c }))
          (rw (yielded_same w.tree r a.x2 s.tree d)
          (subst (AgreeTrees p (saved_to w.tree (with_zeros r.ctx) (yield_place w.tree r.name a.x2)))
          (sym (yielded_same v.tree r a.x2 s'.tree d')) (yields_agree (with_zeros r.ctx) a.x2)))

      no_target : (b : Bool) → Alike p cpu (reply_unless w cpu r (cond b (Some S.NotAligned) (Some S.NotChild))
          (yield_happens w cpu r a 0 (handler w.tree 0 a.x1))) (reply_unless v cpu r
          (cond b (Some S.NotAligned) (Some S.NotChild)) (yield_happens v cpu r a 0 (handler v.tree 0 a.x1)))
      no_target true = refused_alike S.NotAligned
      no_target false = refused_alike S.NotChild

      refusals : (x : Node) → In p (ancestry w.tree x.name)
          → first_met (yield_refusals w r.name a (Some x)) ≡ first_met (yield_refusals v r.name a (Some x))
      refusals x i =
          let runs = runs_alike w v p s s' g x.name i in
          let hs = handlers w v p s s' g x.name a.x1 i in
          let place = save_place_alike w.tree v.tree r.name s.tree s'.tree n ar a.x2 in
          λ j. first_met ((not (a.x0 == 1) && not (is_place a.x0), S.NotAligned) ∷ (is_none (Some x), S.NotChild)
          ∷ (nat_le 256 a.x1 || nat_le 257 a.x2, S.BadVector) ∷ (not (x.name == r.name) && runs j, S.Running)
          ∷ (is_none (hs j), S.NoHandler) ∷ (nat_lt a.x2 256 && not (is_reached (place j)), S.BadSave) ∷ [])

      go : (q : Option Node) → ((x : Node) → q ≡ Some x → In p (ancestry w.tree x.name))
          → Alike p cpu (yield_to w cpu r a q) (yield_to v cpu r a q)
      go None below = no_target (not (a.x0 == 1) && not (is_place a.x0))
      go (Some x) below =
          rw (← refusals x (below x refl)) (subst (λ c. Alike p cpu (yield_to w cpu r a (Some x))
          (reply_unless v cpu r (first_met (yield_refusals w r.name a (Some x)))
          (yield_happens v cpu r a x.name c))) (handlers w v p s s' g x.name a.x1 (below x refl))
          (at x (first_met (yield_refusals w r.name a (Some x))) (handler w.tree x.name a.x1)))

  -- a call that does not switch, by the law of one partition
  plain_alike : (number : ℕ) (a : Five) → IsEvent (E.Call cpu number a) → (IsSwitching (call_named number) → ⊥)
      → Alike p cpu (event w (E.Call cpu number a)) (event v (E.Call cpu number a))
  plain_alike number a ev plain =
      let e = E.Call cpu number a in
      let z = event-again w v e r s s' ev plain k k' (to_worlds r.name w v ar)
      (λ del x b. runs_alike w v p s s' g x.name (line_trans w.tree s.tree p r.name x.name h b.1)) in
      record {
        outcome = z.outcome;
        trees = agree_up p r.name w.tree v.tree (event w e).world.tree (event v e).world.tree s.tree s'.tree
            (event-sound w e s ev).tree (event-sound v e s' ev).tree (line_top w.tree s.tree p r.name h) n h
            (event_moves w e r s refl k d).leaves (event_moves v e r s' refl k' d').leaves tr
            (to_trees r.name _ _ z.below);
        on = z.cpu;
      }

  call_alike : (number : ℕ) (a : Five) → IsEvent (E.Call cpu number a) → ((call_named number ≡ Yields) × (r.name ≡ p)
      × (a.x0 ≡ 0) → ⊥) → Alike p cpu (event w (E.Call cpu number a)) (event v (E.Call cpu number a))
  call_alike number a ev asks = go (call_named number) refl
    where
      go : (c : CallName) → call_named number ≡ c
          → Alike p cpu (event w (E.Call cpu number a)) (event v (E.Call cpu number a))
      go (OnMemory c) q = plain_alike number a ev (rw q (λ z. z))
      go (Masks b) q = plain_alike number a ev (rw q (λ z. z))
      go Unknown q = plain_alike number a ev (rw q (λ z. z))
      go Yields q =
          let l = yield_alike a (λ x y. asks (q, x, y)) in
          let one : what_happens w (E.Call cpu number a) ≡ yield w cpu r a =
          rw (call_by w r cpu number a k, q) in
          let two : what_happens v (E.Call cpu number a) ≡ yield v cpu r a =
          rw (call_by v r cpu number a k', q) in
          let z = subst (λ x. Alike p cpu x (what_happens v (E.Call cpu number a))) (sym one)
          (rw two l) in
          assumption

module _ (w v : World) (p : ℕ) (s : IsSoundWorld w) (s' : IsSoundWorld v) (g : IsSameGuest p w v)
    (m : p ≢ w.tree.root.name) where
  from_acted : (e : Event) → Alike p (cpu_of e) (what_happens w e) (what_happens v e) → Alike p (cpu_of e) (event w e)
      (event v e)
  from_acted e z = assumption

  event_alike : (e : Event) (r : Occupant) → IsEvent e → is_own e ≡ true → runs_on w (cpu_of e) ≡ Some r
      → In p (ancestry w.tree r.name) → StaysBelow w.tree p (event w e).outcome → (AsksParent p r.name e → ⊥)
      → Alike p (cpu_of e) (event w e) (event v e)
  event_alike (E.Load cpu va z) r ev o k h st asks =
      let e = E.Load cpu va z in
      let one = load_by w r cpu va z k in
      let two = load_by v r cpu va z (g.runs cpu r h k) in
      from_acted e (rw one (subst (Alike p cpu (load_happens w cpu r va Load z (reach w.tree r.name va Load z)))
      (sym two) (loaded_alike w v p cpu r s s' g m k h va Load z
      (subst (λ x. StaysBelow w.tree p x.outcome) one st))))
  event_alike (E.Fetch cpu) r ev o k h st asks =
      let e = E.Fetch cpu in
      let one = fetch_by w r cpu k in
      let two = fetch_by v r cpu (g.runs cpu r h k) in
      from_acted e (rw one
      (subst (Alike p cpu (load_happens w cpu r r.ctx.pc Fetch Word (reach w.tree r.name r.ctx.pc Fetch Word)))
      (sym two) (loaded_alike w v p cpu r s s' g m k h r.ctx.pc Fetch Word
      (subst (λ x. StaysBelow w.tree p x.outcome) one st))))
  event_alike (E.Store cpu va z x) r ev o k h st asks =
      let e = E.Store cpu va z x in
      let one = store_by w r cpu va z x k in
      let two = store_by v r cpu va z x (g.runs cpu r h k) in
      from_acted e (rw one (subst (Alike p cpu (wrote w cpu r va z x (reach w.tree r.name va Store z))) (sym two)
      (wrote_alike w v p cpu r s s' g m k h va z x (subst (λ y. StaysBelow w.tree p y.outcome) one st))))
  event_alike (E.Trap cpu x a b) r ev o k h st asks =
      let e = E.Trap cpu x a b in
      let one = trap_by w r cpu x a b k in
      let two = trap_by v r cpu x a b (g.runs cpu r h k) in
      from_acted e (rw one (subst (Alike p cpu (deliver w cpu r x a b)) (sym two)
      (deliver_alike w v p cpu r s s' g m k h x a b (subst (λ y. StaysBelow w.tree p y.outcome) one st))))
  event_alike (E.Call cpu number a) r ev o k h st asks = call_alike w v p cpu r s s' g m k h number a ev asks
  event_alike (E.Raise j) r ev o k h st asks = cc
  event_alike (E.Poll cpu) r ev o k h st asks = cc
  event_alike (E.SetContext cpu c) r ev o k h st asks =
      let e = E.SetContext cpu c in
      let one = set_by w r cpu c k in
      let two = set_by v r cpu c (g.runs cpu r h k) in
      from_acted e (rw one (subst (Alike p cpu (done (with_running w cpu (Some (record r { ctx = c }))))) (sym two)
      (put_alike w v p cpu r s s' g m k h O.Done w.tree v.tree (Some (record r { ctx = c }))
      (to_trees p w v g.below))))

-- what of the guest runs in the one runs in the other, after an event on one processor of both that leaves there the
-- same
pub one_way : (w v w' v' : World) (p cpu : ℕ) → IsSoundWorld w → ((n : ℕ) → IsName w.tree n → In p (ancestry w'.tree n)
    → In p (ancestry w.tree n)) → ((i : ℕ) → i ≢ cpu → runs_on w' i ≡ runs_on w i)
    → ((i : ℕ) → i ≢ cpu → runs_on v' i ≡ runs_on v i) → runs_on w' cpu ≡ runs_on v' cpu
    → ((i : ℕ) (r : Occupant) → In p (ancestry w.tree r.name) → runs_on w i ≡ Some r → runs_on v i ≡ Some r)
    → (i : ℕ) (r : Occupant) → In p (ancestry w'.tree r.name) → runs_on w' i ≡ Some r → runs_on v' i ≡ Some r
one_way w v w' v' p cpu s before cw cv on g i r h e = elim (cases_eq i cpu) [
  | inl q ↦ rw q (sym on ∙ subst (λ i. runs_on w' i ≡ Some r) q e)
  | inr q ↦
      let old : runs_on w i ≡ Some r = rw (← cw i q) e in
      cv i q ∙ g i r (before r.name (s.names_nodes r.name (runs_named w i r s old)) h) old
]

-- a name below p after a change below p was below p before
pub line_before : (t u : Tree) (p n : ℕ) → LeavesTree p t u → IsName t n → In p (ancestry u n) → In p (ancestry t n)
line_before t u p n l i h = (l.lines n p i (line_name u n p h)).1 h

stays_alike : (t u : Tree) (p : ℕ) → IsSound t → IsSound u → AgreeTrees p t u → (o : Outcome) → StaysBelow t p o
    → StaysBelow u p o
stays_alike t u p s r a (O.Word x) h = h
stays_alike t u p s r a O.Done h = h
stays_alike t u p s r a (O.Reply st x) h = h
stays_alike t u p s r a (O.Switched from to k) h = line_alike t u p s r a to h
stays_alike t u p s r a (O.Parked from k) h = h
stays_alike t u p s r a O.Idle h = h

pub inside_same : (w v : World) (p : ℕ) (e : Event) → IsSoundWorld w → IsSoundWorld v → IsEvent e → p ≢ w.tree.root.name
    → IsSameGuest p w v → IsInside p w e → IsSameInside p e w v
inside_same w v p e s s' ev m g i =
    let (r, k, q) = actor_runs w p e s i.below in
    let h : In p (ancestry w.tree r.name) = rw (← q) i.below in
    let k' = g.runs (cpu_of e) r h k in
    let q' : actor v e ≡ r.name = rw k' in
    let tr = to_trees p w v g.below in
    let h' = line_alike w.tree v.tree p s.tree s'.tree tr r.name h in
    let d : r.name ≢ w.tree.root.name =
    λ z. m (top_alone w.tree s.tree p (rw z at h)) in
    let d' = not_top w.tree v.tree s.tree s'.tree r.name d in
    let asks : AsksParent p r.name e → ⊥ = rw (← q) i.asks in
    let z = event_alike w v p s s' g m e r ev i.own k h i.stays asks in
    let a = event_moves w e r s i.own k d in
    let b = event_moves v e r s' i.own k' d' in
    let l = leaves_up p r.name w.tree (event w e).world.tree s.tree (event-sound w e s ev).tree h a.leaves in
    let l' = leaves_up p r.name v.tree (event v e).world.tree s'.tree (event-sound v e s' ev).tree h' b.leaves in
    record {
      outcome = z.outcome;
      inside = record {
        own = i.own;
        below = rw q' h';
        stays = rw (← z.outcome) (stays_alike w.tree v.tree p s.tree s'.tree tr (event w e).outcome i.stays);
        asks = rw q' asks;
      };
      guest = record {
        below = to_worlds p _ _ z.trees;
        runs = one_way w v (event w e).world (event v e).world p (cpu_of e) s
            (λ n j x. line_before w.tree (event w e).world.tree p n l j x) a.cpus b.cpus z.on g.runs;
        runs_back = one_way v w (event v e).world (event w e).world p (cpu_of e) s'
            (λ n j x. line_before v.tree (event v e).world.tree p n l' j x) b.cpus a.cpus (sym z.on) g.runs_back;
      };
    }
