-- The slot of a child of the root, in two worlds that have this child in common: each event of its subtree, even one
-- after which control is with the root, is answered alike, and the child is the same again.
use Rattle.std.proofs.Common.{◌≡◌, ◌≢◌, ℕ, ◌+◌, ◌*◌, ◌<◌, ◌==◌, ◌&&◌, ◌||◌, ◌⊎◌, inl, inr, Bool, true, false, not}
use Rattle.std.proofs.Common.{[], ◌∷◌, refl, sym, ap, ap₂, ◌∙◌, subst, Option, Some, None, arith, eq-eqb}
use Rattle.std.specs.Prelude.{is_none, nat_le, nat_lt}
use Rattle.std.proofs.lemmas.Bool.{ne_eqb}
use Rattle.std.proofs.lemmas.Bool.Decides.{nat_tests}
use Rattle.pip_base.specs.declared.outcome.Outcome.{Outcome}
use Rattle.pip_base.specs.declared.outcome.Outcome.TheVariants as O
use Rattle.pip_base.specs.declared.outcome.Status.TheVariants as S
use Rattle.pip_base.specs.declared.types.Access.{Access}
use Rattle.pip_base.specs.declared.types.Access.TheVariants.{Load, Store, Fetch}
use Rattle.pip_base.specs.declared.types.Ctx.{Ctx}
use Rattle.pip_base.specs.declared.types.Size.{Size}
use Rattle.pip_base.specs.declared.types.Size.TheVariants.{Word}
use Rattle.pip_model.specs.Answers.{Five, first_met}
use Rattle.pip_model.specs.Deliver.{deliver, deliver_to, nearest_taker}
use Rattle.pip_model.specs.Events.{Event, IsEvent}
use Rattle.pip_model.specs.Events as E
use Rattle.pip_model.specs.Handlers.{handler, is_reached, save_place}
use Rattle.pip_model.specs.Happens.{access_number, call, event, fault_number, fault_vector, load_happens}
use Rattle.pip_model.specs.Happens.{what_happens, wrote}
use Rattle.pip_model.specs.Lists.{In, has}
use Rattle.pip_model.specs.Local.{actor, cpu_of}
use Rattle.pip_model.specs.Reach.{Faulted, Place, Reached, reach}
use Rattle.pip_model.specs.Sound.{IsSound}
use Rattle.pip_model.specs.Switching.{reply_unless, target_node, yield, yield_happens, yield_to}
use Rattle.pip_model.specs.Tree.{Tree, ancestry, is_place, node, nodes}
use Rattle.pip_model.specs.Worlds.{Happened, IsSoundWorld, World, running, runs_on}
use Rattle.pip_model.specs.declared.processors.Occupant.{Occupant}
use Rattle.pip_model.specs.declared.processors.Taker.{Taker}
use Rattle.pip_model.proofs.OnLists.Members.{has_in, in_has}
use Rattle.pip_model.proofs.Events.Soundness.{event-sound, runs_named}
use Rattle.pip_model.proofs.Locality.Leaves.{LeavesTree}
use Rattle.pip_model.proofs.Locality.OneEvent.{own_name}
use Rattle.pip_model.proofs.Trees.Ancestors.{name_in}
use Rattle.pip_model.proofs.Trees.Ancestry.{ancestry_down, root_is_one}
use Rattle.pip_model.proofs.Trees.Free.{IsName, node_found, tests_agree}
use Rattle.pip_model.proofs.Trees.Numbers.{name_positive}
use Rattle.pip_guests.specs.Guests.{AsksParent, IsSameGuest, Leaves, can_fault, guest_learns, is_own}
use Rattle.pip_guests.proofs.Lines.{agree_below, below_before, leaves_up, line_alike, line_name, line_top, lines_meet}
use Rattle.pip_guests.proofs.Lines.{not_top, own_line, top_alone}
use Rattle.pip_guests.proofs.Moves.{Goes, call_by, event_goes, event_moves, fetch_by, load_by, store_by, taker_in}
use Rattle.pip_guests.proofs.Moves.{trap_by}
use Rattle.pip_guests.proofs.Reading.{reach_alike, save_place_alike}
use Rattle.pip_guests.proofs.Taking.{taker_alike, trees}
use Rattle.pip_guests.proofs.Inside.{inside_same}
use Rattle.pip_guests.proofs.Elsewhere.{same_sym}
use Rattle.pip_guests.proofs.Leaving.{guests_are_left_alike}
use Rattle.pip_guests.proofs.Known.{events_are_known}
use Rattle.pip_guests.proofs.Asking.{asked_same}
use Rattle.pip_native.specs.Watching.{root_runs}
use Rattle.pip_slots.proofs.Kids.{Kid, kid_left, kid_line, kid_same, runs_alone}
use Rattle.pip_slots.proofs.Roots.{handles_some, root_node}
use Rattle.pip_slots.proofs.Ready.{Ready, Runs, fault_small, ready_own, takers}
use Rattle.pip_slots.proofs.Walk.{Stepped}

-- ---- who runs

-- what runs on processor 0 is the root, or in the subtree of p
abbrev pub OnDuty : ℕ → World → Type 0
OnDuty p w = (r : Occupant) → runs_on w 0 ≡ Some r → (r.name ≡ w.tree.root.name) ⊎ In p (ancestry w.tree r.name)

-- that stays so
duty_kept : (d p : ℕ) (w : World) (e : Event) (r : Occupant) → IsSoundWorld w → Kid d p w.tree → IsEvent e
    → is_own e ≡ true → cpu_of e ≡ 0 → runs_on w 0 ≡ Some r → In p (ancestry w.tree r.name)
    → OnDuty p (event w e).world
duty_kept d p w e r s kid ev o c k h = λ z kz. go z kz (event_goes w e r s o k' m z
    (rw c kz))
  where
    u : World
    u = (event w e).world

    s' : IsSoundWorld u
    s' = event-sound w e s ev

    k' : runs_on w (cpu_of e) ≡ Some r
    k' = rw c k

    m : r.name ≢ w.tree.root.name
    m x = kid.low (top_alone w.tree s.tree p (rw x at h))

    l : LeavesTree p w.tree u.tree
    l = leaves_up p r.name w.tree u.tree s.tree s'.tree h (event_moves w e r s o k' m).leaves

    go : (z : Occupant) → runs_on u 0 ≡ Some z → Goes w.tree r.name z.name
        → (z.name ≡ u.tree.root.name) ⊎ In p (ancestry u.tree z.name)
    go z kz g =
        let nz : IsName u.tree z.name = s'.names_nodes z.name (runs_named u 0 z s' kz) in
        elim g [
          | inl i ↦ elim (lines_meet w.tree s.tree p z.name r.name h i) [
            | inl a ↦ inr ((l.lines z.name p (line_top w.tree s.tree z.name r.name i) nz).0 a)
            | inr a ↦ elim (kid_line d p w.tree s.tree kid z.name a) [
              | inl q ↦ inr (rw q (own_line u.tree s'.tree p (own_name p w.tree u.tree l kid.name)))
              | inr q ↦ inl (cc (root_is_one w.tree s.tree, root_is_one u.tree s'.tree))
            ]
          ]
          | inr (inl (x, i, up, q)) ↦
              let f = node_found w.tree r.name (line_name w.tree r.name p h) in
              let below : In p (ancestry w.tree x.name) = ancestry_down w.tree s.tree x (node w.tree r.name) i
              (cc (f.1)) p (rw f.1 h) in
              let there : IsName w.tree z.name = subst (IsName w.tree) q (name_in x (nodes w.tree) (inr i)) in
              inr ((l.lines z.name p there nz).0 (rw (← q) below))
          | inr (inr q) ↦
              absurd (omega (arith, name_positive u.tree s'.tree 0 (subst (IsName u.tree) q nz)))
        ]

-- above a partition of the subtree, and not in it, is the root alone
top_of : (d p : ℕ) (t : Tree) (q y : ℕ) → IsSound t → Kid d p t → In p (ancestry t q) → In y (ancestry t q)
    → (In p (ancestry t y) → ⊥) → y ≡ t.root.name
top_of d p t q y s kid h i off = elim (lines_meet t s p y q h i) [
  | inl a ↦ absurd (off a)
  | inr a ↦ elim (kid_line d p t s kid y a) [
    | inl e ↦ absurd (off (rw e (own_line t s p kid.name)))
    | inr e ↦ e
  ]
]

-- ---- faults and traps that the root takes

module _ (d p cpu : ℕ) (w v : World) (r : Occupant) (s : IsSoundWorld w) (s' : IsSoundWorld v) (kid : Kid d p w.tree)
    (kid' : Kid d p v.tree) (g : IsSameGuest p w v) (k : runs_on w cpu ≡ Some r) (h : In p (ancestry w.tree r.name))
    (tw : (x : ℕ) → x < 256 → nearest_taker w r.name x ≢ None) (tv : (x : ℕ) → x < 256
    → nearest_taker v r.name x ≢ None) where
  h' : In p (ancestry v.tree r.name)
  h' = line_alike w.tree v.tree p s.tree s'.tree (trees w v p s s' g) r.name h

  back : IsSameGuest p v w
  back = same_sym p w v s s' kid.name g

  deliver_same : (x a b : ℕ) → x < 256 → Leaves w.tree p (deliver w cpu r x a b).outcome
      → (deliver w cpu r x a b).outcome ≡ (deliver v cpu r x a b).outcome
  deliver_same x a b l lv =
      go (nearest_taker w r.name x) (nearest_taker v r.name x) refl refl (tw x l) (tv x l) lv
    where
      go : (o o' : Option Taker) → nearest_taker w r.name x ≡ o → nearest_taker v r.name x ≡ o' → o ≢ None → o' ≢ None
          → Leaves w.tree p (deliver_to w cpu r x a b o).outcome
          → (deliver_to w cpu r x a b o).outcome ≡ (deliver_to v cpu r x a b o').outcome
      go None o' e e' n n' lv = absurd (n refl)
      go (Some y) None e e' n n' lv = absurd (n' refl)
      go (Some y) (Some y') e e' n n' lv =
          let off : In p (ancestry v.tree y'.to) → ⊥ = λ i.
          let one = taker_alike v w p s' s back x y' i kid'.low r.name h' e' in
          let two : Some y ≡ Some y' = cc in
          let same : y ≡ y' = cc in
          lv (rw same (line_alike v.tree w.tree p s'.tree s.tree (trees v w p s' s back) y'.to i)) in
          let a = top_of d p w.tree r.name y.to s.tree kid h (taker_in w r.name x y e) lv in
          let b = top_of d p v.tree r.name y'.to s'.tree kid' h' (taker_in v r.name x y' e') off in
          rw (a, root_is_one w.tree s.tree, ← root_is_one v.tree s'.tree, ← b)

  reached : (va : ℕ) (c : Access) (z : Size) → reach w.tree r.name va c z ≡ reach v.tree r.name va c z
  reached va c z = reach_alike w.tree v.tree r.name s.tree s'.tree (line_name w.tree r.name p h)
      (agree_below w.tree v.tree p s.tree s'.tree (trees w v p s s' g) r.name h) va c z

  loaded_same : (va : ℕ) (c : Access) (z : Size)
      → Leaves w.tree p (load_happens w cpu r va c z (reach w.tree r.name va c z)).outcome
      → (load_happens w cpu r va c z (reach w.tree r.name va c z)).outcome
      ≡ (load_happens v cpu r va c z (reach v.tree r.name va c z)).outcome
  loaded_same va c z lv =
      rw (go (reach w.tree r.name va c z) lv, reached va c z)
    where
      go : (q : Reached) → Leaves w.tree p (load_happens w cpu r va c z q).outcome
          → (load_happens w cpu r va c z q).outcome ≡ (load_happens v cpu r va c z q).outcome
      go (Place f i) lv = absurd lv
      go (Faulted f) lv =
          deliver_same (fault_vector f) va (16 * access_number c + fault_number f) (fault_small f) lv

  wrote_same : (va : ℕ) (z : Size) (x : ℕ)
      → Leaves w.tree p (wrote w cpu r va z x (reach w.tree r.name va Store z)).outcome
      → (wrote w cpu r va z x (reach w.tree r.name va Store z)).outcome
      ≡ (wrote v cpu r va z x (reach v.tree r.name va Store z)).outcome
  wrote_same va z x lv =
      rw (go (reach w.tree r.name va Store z) lv, reached va Store z)
    where
      go : (q : Reached) → Leaves w.tree p (wrote w cpu r va z x q).outcome
          → (wrote w cpu r va z x q).outcome ≡ (wrote v cpu r va z x q).outcome
      go (Place f i) lv = absurd lv
      go (Faulted f) lv =
          deliver_same (fault_vector f) va (16 * access_number Store + fault_number f) (fault_small f) lv

  by_both : (e : Event) (a b : Happened) → what_happens w e ≡ a → what_happens v e ≡ b
      → (Leaves w.tree p a.outcome → a.outcome ≡ b.outcome) → Leaves w.tree p (event w e).outcome
      → (event w e).outcome ≡ (event v e).outcome
  by_both e a b one two f lv =
      rw (one, f (subst (λ y. Leaves w.tree p y.outcome) one lv), ← two)

left_outcome : (d p : ℕ) (w v : World) (e : Event) (r : Occupant) → IsSoundWorld w → IsSoundWorld v → Kid d p w.tree
    → Kid d p v.tree → IsSameGuest p w v → IsEvent e → can_fault e ≡ true → runs_on w (cpu_of e) ≡ Some r
    → In p (ancestry w.tree r.name) → ((x : ℕ) → x < 256 → nearest_taker w r.name x ≢ None)
    → ((x : ℕ) → x < 256 → nearest_taker v r.name x ≢ None) → Leaves w.tree p (event w e).outcome
    → (event w e).outcome ≡ (event v e).outcome
left_outcome d p w v (E.Load cpu va z) r s s' kid kid' g ev f k h tw tv lv =
    by_both d p cpu w v r s s' kid kid' g k h tw tv (E.Load cpu va z) _ _ (load_by w r cpu va z k)
    (load_by v r cpu va z (g.runs cpu r h k)) (loaded_same d p cpu w v r s s' kid kid' g k h tw tv va Load z) lv
left_outcome d p w v (E.Store cpu va z x) r s s' kid kid' g ev f k h tw tv lv =
    by_both d p cpu w v r s s' kid kid' g k h tw tv (E.Store cpu va z x) _ _ (store_by w r cpu va z x k)
    (store_by v r cpu va z x (g.runs cpu r h k)) (wrote_same d p cpu w v r s s' kid kid' g k h tw tv va z x) lv
left_outcome d p w v (E.Fetch cpu) r s s' kid kid' g ev f k h tw tv lv =
    by_both d p cpu w v r s s' kid kid' g k h tw tv (E.Fetch cpu) _ _ (fetch_by w r cpu k)
    (fetch_by v r cpu (g.runs cpu r h k)) (loaded_same d p cpu w v r s s' kid kid' g k h tw tv r.ctx.pc Fetch Word) lv
left_outcome d p w v (E.Trap cpu x a b) r s s' kid kid' g ev f k h tw tv lv =
    by_both d p cpu w v r s s' kid kid' g k h tw tv (E.Trap cpu x a b) _ _ (trap_by w r cpu x a b k)
    (trap_by v r cpu x a b (g.runs cpu r h k)) (deliver_same d p cpu w v r s s' kid kid' g k h tw tv x a b ev.0) lv
left_outcome d p w v (E.Call cpu number a) r s s' kid kid' g ev f k h tw tv lv = cc
left_outcome d p w v (E.Raise j) r s s' kid kid' g ev f k h tw tv lv = cc
left_outcome d p w v (E.Poll cpu) r s s' kid kid' g ev f k h tw tv lv = cc
left_outcome d p w v (E.SetContext cpu c) r s s' kid kid' g ev f k h tw tv lv = cc

-- ---- a yield to the root

-- what a yield is answered, by its six conditions, where its target does not run and handles the vector
abbrev answered : World → ℕ → Occupant → Five → ℕ → Bool → Bool → Bool → Option Ctx → Bool → Outcome
answered w cpu r a n place bad runs h save = (reply_unless w cpu r (first_met ((place, S.NotAligned) ∷ (
  false,
  S.NotChild,
)
    ∷ (bad, S.BadVector) ∷ (runs, S.Running) ∷ (is_none h, S.NoHandler) ∷ (save, S.BadSave) ∷ []))
    (yield_happens w cpu r a n h)).outcome

answered_alike : (w v : World) (cpu n n' : ℕ) (r : Occupant) (a : Five) → n ≡ n' → (place bad : Bool)
    (h h' : Option Ctx) (save : Bool) → (bad ≡ false → h ≢ None) → (bad ≡ false → h' ≢ None)
    → answered w cpu r a n place bad false h save ≡ answered v cpu r a n' place bad false h' save
answered_alike w v cpu n n' r a e true bad _ _ save i i' = refl
answered_alike w v cpu n n' r a e false true _ _ save i i' = refl
answered_alike w v cpu n n' r a e false false None _ save i i' = absurd (i refl refl)
answered_alike w v cpu n n' r a e false false (Some c) None save i i' = absurd (i' refl refl)
answered_alike w v cpu n n' r a e false false (Some c) (Some c') true i i' = refl
answered_alike w v cpu n n' r a e false false (Some c) (Some c') false i i' = rw e

low_vector : (x y : ℕ) → (nat_le 256 x || nat_le 257 y) ≡ false → x < 256
low_vector x y e = grind (arith, nat_tests, e)

and_false : (b : Bool) → (b && false) ≡ false
and_false true = refl
and_false false = refl

-- one world: a yield of p to the root is answered by these conditions
module _ (d p cpu : ℕ) (w : World) (r : Occupant) (a : Five) (s : IsSoundWorld w) (kid : Kid d p w.tree)
    (q : r.name ≡ p) (z : a.x0 ≡ 0) (off : has (running w) w.tree.root.name ≡ false) where
  to_root : target_node w.tree r.name a.x0 ≡ Some w.tree.root
  to_root = cc (
    ap₂ (λ n x. target_node w.tree n x) q z,
    ne_eqb p w.tree.root.name kid.low,
    kid.up,
    root_node w.tree
        s.tree,
  )

  yield_answered : (yield w cpu r a).outcome ≡ answered w cpu r a w.tree.root.name
      (not (a.x0 == 1) && not (is_place a.x0)) (nat_le 256 a.x1 || nat_le 257 a.x2) false
      (handler w.tree w.tree.root.name a.x1)
      (nat_lt a.x2 256 && not (is_reached (save_place w.tree r.name a.x2)))
  yield_answered =
      ap (λ x. (yield_to w cpu r a x).outcome) to_root
      ∙ ap (λ b. answered w cpu r a w.tree.root.name (not (a.x0 == 1) && not (is_place a.x0))
      (nat_le 256 a.x1 || nat_le 257 a.x2) (not (w.tree.root.name == r.name) && b)
      (handler w.tree w.tree.root.name a.x1) (nat_lt a.x2 256 && not (is_reached (save_place w.tree r.name a.x2)))) off
      ∙ ap (λ b. answered w cpu r a w.tree.root.name (not (a.x0 == 1) && not (is_place a.x0))
      (nat_le 256 a.x1 || nat_le 257 a.x2) b
      (handler w.tree w.tree.root.name a.x1) (nat_lt a.x2 256 && not (is_reached (save_place w.tree r.name a.x2))))
      (and_false (not (w.tree.root.name == r.name)))

-- both worlds
asked_outcome : (d p : ℕ) (w v : World) (e : Event) (r : Occupant) → IsSoundWorld w → IsSoundWorld v → Kid d p w.tree
    → Kid d p v.tree → IsSameGuest p w v → runs_on w (cpu_of e) ≡ Some r → In p (ancestry w.tree r.name)
    → has (running w) w.tree.root.name ≡ false → has (running v) v.tree.root.name ≡ false
    → ((x : ℕ) → x < 256 → handler w.tree w.tree.root.name x ≢ None)
    → ((x : ℕ) → x < 256 → handler v.tree v.tree.root.name x ≢ None) → AsksParent p r.name e
    → (event w e).outcome ≡ (event v e).outcome
asked_outcome d p w v (E.Load cpu va z) r s s' kid kid' g k h off off' hw hv asks = absurd asks
asked_outcome d p w v (E.Store cpu va z x) r s s' kid kid' g k h off off' hw hv asks = absurd asks
asked_outcome d p w v (E.Fetch cpu) r s s' kid kid' g k h off off' hw hv asks = absurd asks
asked_outcome d p w v (E.Trap cpu x a b) r s s' kid kid' g k h off off' hw hv asks = absurd asks
asked_outcome d p w v (E.Raise j) r s s' kid kid' g k h off off' hw hv asks = absurd asks
asked_outcome d p w v (E.Poll cpu) r s s' kid kid' g k h off off' hw hv asks = absurd asks
asked_outcome d p w v (E.SetContext cpu c) r s s' kid kid' g k h off off' hw hv asks = absurd asks
asked_outcome d p w v (E.Call cpu number a) r s s' kid kid' g k h off off' hw hv asks =
    let k' = g.runs cpu r h k in
    let one = call_by w r cpu number a k ∙ ap (λ c. call c w cpu r a) asks.0 in
    let two = call_by v r cpu number a k' ∙ ap (λ c. call c v cpu r a) asks.0 in
    let place = save_place_alike w.tree v.tree r.name s.tree s'.tree (line_name w.tree r.name p h)
    (agree_below w.tree v.tree p s.tree s'.tree (trees w v p s s' g) r.name h) a.x2 in
    let far = not (a.x0 == 1) && not (is_place a.x0) in
    let bad = nat_le 256 a.x1 || nat_le 257 a.x2 in
    rw (
      one,
      yield_answered d p cpu w r a s kid asks.1 asks.2 off,
      answered_alike w v cpu w.tree.root.name
          v.tree.root.name r a (root_is_one w.tree s.tree ∙ sym (root_is_one v.tree s'.tree)) far bad
          (handler w.tree w.tree.root.name a.x1) (handler v.tree v.tree.root.name a.x1)
          (nat_lt a.x2 256 && not (is_reached (save_place w.tree r.name a.x2))) (λ e. hw a.x1 (low_vector a.x1 a.x2 e))
          (λ e. hv a.x1 (low_vector a.x1 a.x2 e)),
      place,
      ← yield_answered d p cpu v r a s' kid' asks.1 asks.2 off',
      ← two,
    )

-- what the guest learns of one outcome is the same in both
learns_alike : (p : ℕ) (w v : World) → IsSoundWorld w → IsSoundWorld v → IsName w.tree p → IsSameGuest p w v
    → (o : Outcome) → guest_learns w.tree p o ≡ guest_learns v.tree p o
learns_alike p w v s s' n g (O.Word x) = refl
learns_alike p w v s s' n g O.Done = refl
learns_alike p w v s s' n g (O.Reply st x) = refl
learns_alike p w v s s' n g (O.Switched from to k) =
    rw (tests_agree (has (ancestry w.tree to) p) (has (ancestry v.tree to) p)
    (λ e. in_has p _ (line_alike w.tree v.tree p s.tree s'.tree (trees w v p s s' g) to (has_in p _ e)))
    (λ e. in_has p _ (below_before w.tree v.tree p to s.tree s'.tree n (trees w v p s s' g) (has_in p _ e))))
learns_alike p w v s s' n g (O.Parked from k) = refl
learns_alike p w v s s' n g O.Idle = refl

-- ---- every event of the subtree

-- a moment of p's slot in two worlds
pub record Both (d p : ℕ) (w v : World) : Type 0 where
  pub left : Ready w
  pub right : Ready v
  pub kid : Kid d p w.tree
  pub guest : IsSameGuest p w v
  pub duty : OnDuty p w
  pub duty_there : OnDuty p v

pub both_kid : (d p : ℕ) (w v : World) → Both d p w v → Kid d p v.tree
both_kid d p w v b = kid_same d p w.tree v.tree b.left.sound.tree b.right.sound.tree b.kid
    (trees w v p b.left.sound b.right.sound b.guest)

-- what runs, unless it is the root, is of the subtree
pub below_of : (d p : ℕ) (w v : World) → Both d p w v → (r : Occupant) → runs_on w 0 ≡ Some r
    → r.name ≢ w.tree.root.name → In p (ancestry w.tree r.name)
below_of d p w v b r k m = elim (b.duty r k) [ inl e ↦ absurd (m e) | inr h ↦ h ]

pub both_same : (d p : ℕ) (w v : World) → Both d p w v → (r : Occupant) → runs_on w 0 ≡ Some r
    → r.name ≢ w.tree.root.name → runs_on v 0 ≡ Some r
both_same d p w v b r k m = b.guest.runs 0 r (below_of d p w v b r k m) k

record Alike (p : ℕ) (e : Event) (w v : World) : Type 0 where
  outcome : (event w e).outcome ≡ (event v e).outcome
  guest : IsSameGuest p (event w e).world (event v e).world

event_alike : (d p : ℕ) (w v : World) → Both d p w v → (e : Event) (r : Occupant) → IsEvent e → is_own e ≡ true
    → cpu_of e ≡ 0 → runs_on w 0 ≡ Some r → r.name ≢ w.tree.root.name → Alike p e w v
event_alike d p w v b e r ev o c k m = elim (events_are_known w p e s kid.low o hb) [
  | inl (inl i) ↦
      let z = inside_same w v p e s s' ev kid.low b.guest i in
      assumption
  | inl (inr i) ↦
      let z = guests_are_left_alike w v p e s s' ev kid.low b.guest i in
      record {
        outcome = left_outcome d p w v e r s s' kid kid' b.guest ev i.faults k' h tw tv i.leaves;
        guest = z.guest;
      }
  | inr a ↦
      let same = asked_outcome d p w v e r s s' kid kid' b.guest k' h off off' hw hv
      (rw (← q) a) in
      let z = asked_same w v p e s s' ev kid.name kid.low b.guest (record {
        own = o;
        asks = a;
        answer = rw (learns_alike p w v s s' kid.name b.guest (event w e).outcome, same);
      }) in
      record { outcome = same; guest = z.guest }
]
  where
    s : IsSoundWorld w
    s = b.left.sound

    s' : IsSoundWorld v
    s' = b.right.sound

    kid : Kid d p w.tree
    kid = b.kid

    kid' : Kid d p v.tree
    kid' = both_kid d p w v b

    h : In p (ancestry w.tree r.name)
    h = below_of d p w v b r k m

    k' : runs_on w (cpu_of e) ≡ Some r
    k' = rw c k

    q : actor w e ≡ r.name
    q = rw k'

    hb : In p (ancestry w.tree (actor w e))
    hb = rw q h

    there : runs_on v 0 ≡ Some r
    there = b.guest.runs 0 r h k

    m' : r.name ≢ v.tree.root.name
    m' = not_top w.tree v.tree s.tree s'.tree r.name m

    tw : (x : ℕ) → x < 256 → nearest_taker w r.name x ≢ None
    tw = takers w r b.left k m

    tv : (x : ℕ) → x < 256 → nearest_taker v r.name x ≢ None
    tv = takers v r b.right there m'

    off : has (running w) w.tree.root.name ≡ false
    off = runs_alone w w.tree.root.name r b.left.alone k m

    off' : has (running v) v.tree.root.name ≡ false
    off' = runs_alone v v.tree.root.name r b.right.alone there m'

    some : (u : World) → Ready u → (x : ℕ) → x < 256 → handler u.tree u.tree.root.name x ≢ None
    some u y x l z = let (c, e) = handles_some u.tree x (y.takes x l) in let n = sym e ∙ z in cc

    hw : (x : ℕ) → x < 256 → handler w.tree w.tree.root.name x ≢ None
    hw = some w b.left

    hv : (x : ℕ) → x < 256 → handler v.tree v.tree.root.name x ≢ None
    hv = some v b.right

-- it is answered alike, and the moment after it is one of the slot, too
pub both_step : (d p : ℕ) (w v : World) → Both d p w v → (e : Event) (r : Occupant) → IsEvent e → is_own e ≡ true
    → cpu_of e ≡ 0 → runs_on w 0 ≡ Some r → r.name ≢ w.tree.root.name → Stepped (Both d p) e w v
both_step d p w v b e r ev o c k m =
    let z = event_alike d p w v b e r ev o c k m in
    let s = b.left.sound in
    let s' = b.right.sound in
    let h = below_of d p w v b r k m in
    let there = b.guest.runs 0 r h k in
    let h' = line_alike w.tree v.tree p s.tree s'.tree (trees w v p s s' b.guest) r.name h in
    let m' = not_top w.tree v.tree s.tree s'.tree r.name m in
    let k' : runs_on w (cpu_of e) ≡ Some r = rw c k in
    let sw = event-sound w e s ev in
    record {
      outcome = z.outcome;
      next = record {
        left = ready_own w e r b.left ev o c k m;
        right = ready_own v e r b.right ev o c there m';
        kid = kid_left d p w.tree (event w e).world.tree s.tree sw.tree b.kid
            (leaves_up p r.name w.tree (event w e).world.tree s.tree sw.tree h (event_moves w e r s o k' m).leaves);
        guest = z.guest;
        duty = duty_kept d p w e r s b.kid ev o c k h;
        duty_there = duty_kept d p v e r s' (both_kid d p w v b) ev o c there h';
      };
    }

-- the root runs in both, or in neither
pub both_tops : (d p : ℕ) (w v : World) → Both d p w v → root_runs w ≡ root_runs v
both_tops d p w v b = go b.left.runs b.right.runs
  where
    s : IsSoundWorld w
    s = b.left.sound

    s' : IsSoundWorld v
    s' = b.right.sound

    on : (u : World) (r : Occupant) → runs_on u 0 ≡ Some r → root_runs u ≡ (r.name == u.tree.root.name)
    on u r k = rw k

    go : Runs 0 w → Runs 0 v → root_runs w ≡ root_runs v
    go (r, k) (r', k') = elim (b.duty r k) [
      | inr h ↦
          let u : Some r ≡ Some r' = rw (← b.guest.runs 0 r h k) k' in
          let same : r ≡ r' = cc in
          rw (
            on w r k,
            ap₂ (λ x y. x == y) (ap (λ z. z.name) same)
                (root_is_one w.tree s.tree ∙ sym (root_is_one v.tree s'.tree)),
            ← on v r' k',
          )
      | inl e ↦ elim (b.duty_there r' k') [
        | inl e' ↦
            rw (on w r k, eq-eqb r.name w.tree.root.name e, ← eq-eqb r'.name v.tree.root.name e', ← on v r' k')
        | inr h ↦
            let u : Some r ≡ Some r' = cc (b.guest.runs_back 0 r' h k') in
            let same : r ≡ r' = cc in
            let kid' = both_kid d p w v b in
            let top : r'.name ≡ v.tree.root.name = rw
            (← same, e, root_is_one w.tree s.tree, ← root_is_one v.tree s'.tree) in
            absurd (kid'.low (top_alone v.tree s'.tree p (rw top at h)))
      ]
    ]
