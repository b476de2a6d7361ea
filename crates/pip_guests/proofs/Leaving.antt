-- A fault or trap that leaves a guest: in two worlds in which the guest is the same it leaves both, and the guest the
-- same.
use Rattle.std.proofs.Common.{◌≡◌, ◌≢◌, ℕ, ◌+◌, ◌*◌, inl, inr, true, refl, sym, ap, ◌∙◌, subst, Option, Some, None}
use Rattle.std.proofs.lemmas.Bool.{cases_eq}
use Rattle.pip_base.specs.declared.types.Access.{Access}
use Rattle.pip_base.specs.declared.types.Access.TheVariants.{Load, Store, Fetch}
use Rattle.pip_base.specs.declared.types.Size.{Size}
use Rattle.pip_base.specs.declared.types.Size.TheVariants.{Word}
use Rattle.pip_model.specs.Deliver.{deliver, deliver_to, nearest_taker}
use Rattle.pip_model.specs.Events.{Event, IsEvent}
use Rattle.pip_model.specs.Events as E
use Rattle.pip_model.specs.Handlers.{save}
use Rattle.pip_model.specs.Happens.{access_number, what_happens, event, fault_number, fault_vector, load_happens, wrote}
use Rattle.pip_model.specs.Lists.{In}
use Rattle.pip_model.specs.Local.{actor, cpu_of}
use Rattle.pip_model.specs.Poll.{occupant_name}
use Rattle.pip_model.specs.Reach.{Faulted, Place, Reached, reach}
use Rattle.pip_model.specs.Tree.{Tree, ancestry}
use Rattle.pip_model.specs.Worlds.{Happened, IsSoundWorld, World, runs_on, handler_context}
use Rattle.pip_model.specs.declared.processors.Occupant.{Occupant}
use Rattle.pip_model.specs.declared.processors.Taker.{Taker}
use Rattle.pip_model.proofs.Events.Soundness.{event-sound, runs_named}
use Rattle.pip_model.proofs.Locality.Agree.{AgreeTrees}
use Rattle.pip_model.proofs.Trees.Free.{IsName}
use Rattle.pip_model.proofs.Locality.OneEvent.{at_set_here, to_trees, to_worlds}
use Rattle.pip_guests.specs.Guests.{GuestsAreLeftAlike, IsSameGuest, Leaves, can_fault, is_own}
use Rattle.pip_guests.proofs.Lines.{agree_below, leaves_up, line_alike, line_name, line_top, not_top, top_alone}
use Rattle.pip_guests.proofs.Moves.{event_moves, fetch_by, load_by, store_by, trap_by}
use Rattle.pip_guests.proofs.Reading.{reach_alike}
use Rattle.pip_guests.proofs.Taking.{taker_alike, trees}
use Rattle.pip_guests.proofs.Inside.{actor_runs, line_before, saves_agree}
use Rattle.pip_guests.proofs.Elsewhere.{same_sym}

-- the taker, if there is one, is not below p
abbrev Out : Tree → ℕ → Option Taker → Type 0
Out t p None = Unit {0}
Out t p (Some y) = In p (ancestry t y.to) → ⊥

-- one world after a delivery to a partition that is not below p, or to none
module _ (w : World) (p cpu : ℕ) (r : Occupant) (x a b : ℕ) (k : runs_on w cpu ≡ Some r) where
  out_of : (o : Option Taker) → Leaves w.tree p (deliver_to w cpu r x a b o).outcome → Out w.tree p o
  out_of None h = tt
  out_of (Some y) h = h

  leaves_of : (o : Option Taker) → Out w.tree p o → Leaves w.tree p (deliver_to w cpu r x a b o).outcome
  leaves_of None h = tt
  leaves_of (Some y) h = h

  tree_of : (o : Option Taker) → (deliver_to w cpu r x a b o).world.tree ≡ save w.tree r.name 63 r.ctx
  tree_of None = refl
  tree_of (Some y) = refl

  off_of : (o : Option Taker) → Out w.tree p o → (z : Occupant) → runs_on (deliver_to w cpu r x a b o).world cpu
      ≡ Some z → In p (ancestry (deliver_to w cpu r x a b o).world.tree z.name) → ⊥
  off_of None h z e i = let u = sym (at_set_here None w.cpus cpu r k) ∙ e in cc
  off_of (Some y) h z e i =
      let q : Occupant = record { name = y.to; ctx = handler_context y.handler x a b y.born } in
      let u : Some q ≡ Some z = rw (← at_set_here (Some q) w.cpus cpu r k) e in
      let d : q ≡ z = cc in
      h (rw (← d) at i)

pub record Left (p cpu : ℕ) (u : Tree) (a b : Happened) : Type 0 where
  pub trees : AgreeTrees p a.world.tree b.world.tree
  pub leaves : Leaves u p b.outcome
  pub off : (z : Occupant) → runs_on a.world cpu ≡ Some z → In p (ancestry a.world.tree z.name) → ⊥
  pub off_there : (z : Occupant) → runs_on b.world cpu ≡ Some z → In p (ancestry b.world.tree z.name) → ⊥

module _ (w v : World) (p cpu : ℕ) (r : Occupant) (s : IsSoundWorld w) (s' : IsSoundWorld v) (g : IsSameGuest p w v)
    (m : p ≢ w.tree.root.name) (k : runs_on w cpu ≡ Some r) (h : In p (ancestry w.tree r.name)) where
  tr : AgreeTrees p w.tree v.tree
  tr = trees w v p s s' g

  back : IsSameGuest p v w
  back = same_sym p w v s s' (line_top w.tree s.tree p r.name h) g

  deliver_left : (x a b : ℕ) → Leaves w.tree p (deliver w cpu r x a b).outcome
      → Left p cpu v.tree (deliver w cpu r x a b) (deliver v cpu r x a b)
  deliver_left x a b lv =
      let o = nearest_taker w r.name x in
      let out = out_of w p cpu r x a b k o lv in
      let out' = there (nearest_taker v r.name x) refl out in
      record {
        trees = rw (tree_of w p cpu r x a b k o) (subst (AgreeTrees p (save w.tree r.name 63 r.ctx))
            (sym (tree_of v p cpu r x a b (g.runs cpu r h k) (nearest_taker v r.name x)))
            (saves_agree w v p cpu r s s' g m k h r.ctx 63));
        leaves = leaves_of v p cpu r x a b (g.runs cpu r h k) (nearest_taker v r.name x) out';
        off = off_of w p cpu r x a b k o out;
        off_there = off_of v p cpu r x a b (g.runs cpu r h k) (nearest_taker v r.name x) out';
      }
    where
      there : (o : Option Taker) → nearest_taker v r.name x ≡ o → Out w.tree p (nearest_taker w r.name x)
          → Out v.tree p o
      there None e out = tt
      there (Some y) e out = λ i.
          let same : nearest_taker w r.name x ≡ Some y = taker_alike v w p s' s back x y i (not_top w.tree v.tree s.tree
          s'.tree p m) r.name (line_alike w.tree v.tree p s.tree s'.tree tr r.name h) e in
          subst (Out w.tree p) same out (line_alike v.tree w.tree p s'.tree s.tree (trees v w p s' s back) y.to i)

  loaded_left : (va : ℕ) (c : Access) (z : Size)
      → Leaves w.tree p (load_happens w cpu r va c z (reach w.tree r.name va c z)).outcome → Left p cpu v.tree
      (load_happens w cpu r va c z (reach w.tree r.name va c z))
      (load_happens v cpu r va c z (reach v.tree r.name va c z))
  loaded_left va c z lv = rw (← reach_alike w.tree v.tree r.name s.tree s'.tree (line_name w.tree r.name p h)
      (agree_below w.tree v.tree p s.tree s'.tree tr r.name h) va c z) (go (reach w.tree r.name va c z) lv)
    where
      go : (q : Reached) → Leaves w.tree p (load_happens w cpu r va c z q).outcome
          → Left p cpu v.tree (load_happens w cpu r va c z q) (load_happens v cpu r va c z q)
      go (Place f i) lv = absurd lv
      go (Faulted f) lv = deliver_left (fault_vector f) va (16 * access_number c + fault_number f) lv

  wrote_left : (va : ℕ) (z : Size) (x : ℕ)
      → Leaves w.tree p (wrote w cpu r va z x (reach w.tree r.name va Store z)).outcome → Left p cpu v.tree
      (wrote w cpu r va z x (reach w.tree r.name va Store z)) (wrote v cpu r va z x (reach v.tree r.name va Store z))
  wrote_left va z x lv = rw (← reach_alike w.tree v.tree r.name s.tree s'.tree (line_name w.tree r.name p h)
      (agree_below w.tree v.tree p s.tree s'.tree tr r.name h) va Store z) (go (reach w.tree r.name va Store z) lv)
    where
      go : (q : Reached) → Leaves w.tree p (wrote w cpu r va z x q).outcome
          → Left p cpu v.tree (wrote w cpu r va z x q) (wrote v cpu r va z x q)
      go (Place f i) lv = absurd lv
      go (Faulted f) lv = deliver_left (fault_vector f) va (16 * access_number Store + fault_number f) lv

  of_event : (e : Event) (a b : Happened) → what_happens w e ≡ a → what_happens v e ≡ b → (Leaves w.tree p a.outcome
      → Left p cpu v.tree a b) → Leaves w.tree p (event w e).outcome → Left p cpu v.tree (event w e) (event v e)
  of_event e a b one two f lv =
      let z = subst (λ y. Left p cpu v.tree y (what_happens v e)) (sym one)
      (rw two (f (subst (λ y. Leaves w.tree p y.outcome) one lv))) in
      assumption

module _ (w v : World) (p : ℕ) (s : IsSoundWorld w) (s' : IsSoundWorld v) (g : IsSameGuest p w v)
    (m : p ≢ w.tree.root.name) where
  pub event_left : (e : Event) (r : Occupant) → can_fault e ≡ true → runs_on w (cpu_of e) ≡ Some r → In p
      (ancestry w.tree r.name) → Leaves w.tree p (event w e).outcome → Left p (cpu_of e) v.tree (event w e) (event v e)
  event_left (E.Load cpu va z) r o k h lv = of_event w v p cpu r s s' g m k h (E.Load cpu va z) _ _ (load_by w r cpu va
      z k) (load_by v r cpu va z (g.runs cpu r h k)) (loaded_left w v p cpu r s s' g m k h va Load z) lv
  event_left (E.Store cpu va z x) r o k h lv = of_event w v p cpu r s s' g m k h (E.Store cpu va z x) _ _ (store_by w r
      cpu va z x k) (store_by v r cpu va z x (g.runs cpu r h k)) (wrote_left w v p cpu r s s' g m k h va z x) lv
  event_left (E.Fetch cpu) r o k h lv = of_event w v p cpu r s s' g m k h (E.Fetch cpu) _ _ (fetch_by w r cpu k)
      (fetch_by v r cpu (g.runs cpu r h k)) (loaded_left w v p cpu r s s' g m k h r.ctx.pc Fetch Word) lv
  event_left (E.Trap cpu x a b) r o k h lv = of_event w v p cpu r s s' g m k h (E.Trap cpu x a b) _ _ (trap_by w r cpu x
      a b k) (trap_by v r cpu x a b (g.runs cpu r h k)) (deliver_left w v p cpu r s s' g m k h x a b) lv
  event_left (E.Call cpu number a) r o k h lv = cc
  event_left (E.Raise j) r o k h lv = cc
  event_left (E.Poll cpu) r o k h lv = cc
  event_left (E.SetContext cpu c) r o k h lv = cc

-- what of p's subtree runs elsewhere goes on there, and here nothing of it runs
pub one_left : (w v w' v' : World) (p cpu : ℕ) → IsSoundWorld w
    → ((n : ℕ) → IsName w.tree n → In p (ancestry w'.tree n) → In p (ancestry w.tree n))
    → ((i : ℕ) → i ≢ cpu → runs_on w' i ≡ runs_on w i) → ((i : ℕ) → i ≢ cpu → runs_on v' i ≡ runs_on v i)
    → ((z : Occupant) → runs_on w' cpu ≡ Some z → In p (ancestry w'.tree z.name) → ⊥)
    → ((i : ℕ) (r : Occupant) → In p (ancestry w.tree r.name) → runs_on w i ≡ Some r → runs_on v i ≡ Some r)
    → (i : ℕ) (r : Occupant) → In p (ancestry w'.tree r.name) → runs_on w' i ≡ Some r → runs_on v' i ≡ Some r
one_left w v w' v' p cpu s before cw cv off g i r h e = elim (cases_eq i cpu) [
  | inl q ↦ absurd (off r (rw (← q) e) h)
  | inr q ↦
      let old : runs_on w i ≡ Some r = rw (← cw i q) e in
      cv i q ∙ g i r (before r.name (s.names_nodes r.name (runs_named w i r s old)) h) old
]

-- what can fault is the guest's own
pub own_fault : (e : Event) → can_fault e ≡ true → is_own e ≡ true
own_fault (E.Load cpu va z) o = refl
own_fault (E.Store cpu va z x) o = refl
own_fault (E.Fetch cpu) o = refl
own_fault (E.Trap cpu x a b) o = refl
own_fault (E.Call cpu number a) o = refl
own_fault (E.Raise j) o = o
own_fault (E.Poll cpu) o = o
own_fault (E.SetContext cpu c) o = refl

pub guests_are_left_alike : GuestsAreLeftAlike
guests_are_left_alike w v p e s s' ev m g i =
    let (r, k, q) = actor_runs w p e s i.below in
    let h : In p (ancestry w.tree r.name) = rw (← q) i.below in
    let k' = g.runs (cpu_of e) r h k in
    let q' : actor v e ≡ r.name = rw k' in
    let h' = line_alike w.tree v.tree p s.tree s'.tree (to_trees p w v g.below) r.name h in
    let d : r.name ≢ w.tree.root.name =
    λ z. m (top_alone w.tree s.tree p (rw z at h)) in
    let d' = not_top w.tree v.tree s.tree s'.tree r.name d in
    let o = own_fault e i.faults in
    let z = event_left w v p s s' g m e r i.faults k h i.leaves in
    let a = event_moves w e r s o k d in
    let b = event_moves v e r s' o k' d' in
    let l = leaves_up p r.name w.tree (event w e).world.tree s.tree (event-sound w e s ev).tree h a.leaves in
    let l' = leaves_up p r.name v.tree (event v e).world.tree s'.tree (event-sound v e s' ev).tree h' b.leaves in
    record {
      leaving = record {
        faults = i.faults;
        below = rw q' h';
        leaves = z.leaves;
      };
      guest = record {
        below = to_worlds p _ _ z.trees;
        runs = one_left w v (event w e).world (event v e).world p (cpu_of e) s
            (λ n j x. line_before w.tree (event w e).world.tree p n l j x) a.cpus b.cpus z.off g.runs;
        runs_back = one_left v w (event v e).world (event w e).world p (cpu_of e) s'
            (λ n j x. line_before v.tree (event v e).world.tree p n l' j x) b.cpus a.cpus z.off_there g.runs_back;
      };
    }
