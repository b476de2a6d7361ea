-- The first step of a slot: the root yields into a child, or is refused.
use Rattle.std.proofs.Common.{◌≡◌, ◌≢◌, ℕ, ◌==◌, ◌&&◌, ◌⊎◌, inl, inr, Bool, true, false, not, cond, [], ◌∷◌, refl, sym}
use Rattle.std.proofs.Common.{ap}
use Rattle.std.proofs.Common.{◌∙◌, subst, Option, Some, None, List, arith, eq-eqb, eqb-true}
use Rattle.std.specs.Prelude.{is_none, slice_set}
use Rattle.std.proofs.lemmas.Bool.{cases_eq, ne_eqb}
use Rattle.pip_base.specs.declared.outcome.Status.{Status}
use Rattle.pip_base.specs.declared.outcome.Status.TheVariants as S
use Rattle.pip_base.specs.declared.types.Ctx.{Ctx}
use Rattle.pip_model.specs.Answers.{Five, first_met}
use Rattle.pip_model.specs.Cache.{Places}
use Rattle.pip_model.specs.Events.{IsEvent}
use Rattle.pip_model.specs.Handlers.{handler, saved_to}
use Rattle.pip_model.specs.Happens.{caches_after, event, what_happens}
use Rattle.pip_model.specs.Lists.{In, has}
use Rattle.pip_model.specs.Reach.{Faulted, Unmapped}
use Rattle.pip_model.specs.Sound.{IsSound, IsWord}
use Rattle.pip_model.specs.Switching.{node_name, parent_of, reply_unless, target_node, with_zeros, yield_happens}
use Rattle.pip_model.specs.Switching.{yield_refusals, yield_to, yielded_tree}
use Rattle.pip_model.specs.Tree.{Node, Tree, ancestry, child_at, is_place, node}
use Rattle.pip_model.specs.Worlds.{Happened, IsSoundWorld, World, running, runs_on, with_caches}
use Rattle.pip_model.specs.declared.processors.Occupant.{Occupant}
use Rattle.pip_model.proofs.Calls.Add.{child_found}
use Rattle.pip_model.proofs.Events.Soundness.{event-sound}
use Rattle.pip_model.proofs.Locality.Agree.{AgreeTrees}
use Rattle.pip_model.proofs.Locality.OneEvent.{at_set_here, at_set_other, to_worlds}
use Rattle.pip_model.proofs.Trees.Ancestry.{root_is_one}
use Rattle.pip_model.proofs.Trees.Free.{IsName, node_found}
use Rattle.pip_guests.specs.Guests.{IsSameGuest}
use Rattle.pip_guests.proofs.Lines.{agree_sym, agree_trans, below_before, line_parent, no_line, own_line, top_alone}
use Rattle.pip_guests.proofs.Moves.{call_by}
use Rattle.pip_guests.proofs.Taking.{handlers, trees}
use Rattle.pip_guests.proofs.Inside.{one_way}
use Rattle.pip_guests.proofs.Elsewhere.{masked_agrees, name_after}
use Rattle.pip_guests.proofs.Leaving.{one_left}
use Rattle.pip_slots.specs.Slots.{IsBetweenSlots, slot_entry, opening}
use Rattle.pip_native.specs.Watching.{is_root}
use Rattle.pip_slots.proofs.Kids.{Kid, kid_apart, kid_found, kid_same, runs_alone}
use Rattle.pip_slots.proofs.Roots.{KeepsRoot, keeps_masked, keeps_same, keeps_trans, keeps_unsaved, root_node}
use Rattle.pip_slots.proofs.Roots.{takes_kept, unsaved}
use Rattle.pip_slots.proofs.Ready.{Ready, Runs, ready_between}
use Rattle.pip_slots.proofs.Own.{Both, OnDuty}
use Rattle.pip_slots.proofs.Walk.{Walked}

-- the words of the yield
abbrev words_of : ℕ → Five
words_of d = record { x0 = d; x1 = 63; x2 = 256; x3 = 0; x4 = 0 }

entry_is : (d : ℕ) → IsWord d → IsEvent (slot_entry d)
entry_is d h = (omega arith, (h, (omega arith, (omega arith, (omega arith, (omega arith, tt))))))

-- ---- one world after it

-- u is w after the yield: the guest p is as it was in the tree, the root takes all vectors, and something runs
pub record Opened (p : ℕ) (w u : World) : Type 0 where
  pub agrees : AgreeTrees p w.tree u.tree
  pub keeps : KeepsRoot w.tree u.tree
  pub quiet : u.tree.root.pending ≡ w.tree.root.pending
  pub cpus : (i : ℕ) → i ≢ 0 → runs_on u i ≡ runs_on w i
  pub runs : Runs 0 u

tree_same : (p : ℕ) (t : Tree) → AgreeTrees p t t
tree_same p t = record { to = λ x h. h; from = λ x h. h; words = λ g i j l. refl }

-- the root's mask alone changes
yield_agrees : (p : ℕ) (t : Tree) (r : Occupant) → IsSound t → p ≢ t.root.name → AgreeTrees p t (yielded_tree t r 256)
yield_agrees p t r s m =
    let u = saved_to t (with_zeros r.ctx) (Faulted Unmapped) in
    let a = masked_agrees u p m (top_alone t s p) (cond (r.name == t.root.name) false t.root.masked) in
    record { to = a.to; from = a.from; words = λ g i j l. unsaved t (with_zeros r.ctx) g i }

yield_keeps : (t : Tree) (r : Occupant) → KeepsRoot t (yielded_tree t r 256)
yield_keeps t r =
    let u = saved_to t (with_zeros r.ctx) (Faulted Unmapped) in
    keeps_trans t u (yielded_tree t r 256) (keeps_unsaved t (with_zeros r.ctx))
    (keeps_masked u t.root.name (cond (r.name == t.root.name) false t.root.masked))

module _ (p d n : ℕ) (w : World) (r : Occupant) (cs : List Places) (s : IsSoundWorld w) (m : p ≢ w.tree.root.name)
    (k : runs_on w 0 ≡ Some r) where
  opened_by : (o : Option Status) (h : Option Ctx)
      → Opened p w (with_caches cs (reply_unless w 0 r o (yield_happens w 0 r (words_of d) n h))).world
  opened_by (Some st) h = record {
    agrees = tree_same p w.tree;
    keeps = keeps_same w.tree;
    quiet = refl;
    cpus = λ i j. at_set_other _ w.cpus 0 i j;
    runs = (_, at_set_here _ w.cpus 0 r k);
  }
  opened_by None None = record {
    agrees = tree_same p w.tree;
    keeps = keeps_same w.tree;
    quiet = refl;
    cpus = λ i j. refl;
    runs = (r, k);
  }
  opened_by None (Some c) = record {
    agrees = yield_agrees p w.tree r s.tree m;
    keeps = yield_keeps w.tree r;
    quiet = refl;
    cpus = λ i j. at_set_other (Some (record { name = n; ctx = c })) w.cpus 0 i j;
    runs = (record { name = n; ctx = c }, at_set_here (Some (record { name = n; ctx = c })) w.cpus 0 r k);
  }

  -- what runs is the root or the target
  runs_by : (o : Option Status) (h : Option Ctx) → r.name ≡ w.tree.root.name → (z : Occupant)
      → runs_on (with_caches cs (reply_unless w 0 r o (yield_happens w 0 r (words_of d) n h))).world 0 ≡ Some z
      → (z.name ≡ w.tree.root.name) ⊎ (z.name ≡ n)
  runs_by (Some st) h q z e =
      let u = sym (at_set_here _ w.cpus 0 r k) ∙ e in inl (name_of _ z u ∙ q)
    where
      name_of : (x z : Occupant) → Some x ≡ Some z → z.name ≡ x.name
      name_of x z u = let v : x ≡ z = cc in rw (← v)
  runs_by None None q z e = let u : Some r ≡ Some z = cc in let v : r ≡ z = cc in
      inl (rw (← v, q))
  runs_by None (Some c) q z e =
      let x : Occupant = record { name = n; ctx = c } in
      let u : Some x ≡ Some z = rw (← at_set_here (Some x) w.cpus 0 r k) e in
      let v : x ≡ z = cc in
      inr (rw (← v))

pub ready_opened : (p : ℕ) (w u : World) → Ready w → Opened p w u → IsSoundWorld u → Ready u
ready_opened p w u y x s = record {
  sound = s;
  alone = λ i h. x.cpus i h ∙ y.alone i h;
  quiet = x.quiet ∙ y.quiet;
  takes = takes_kept w.tree u.tree y.sound.tree s.tree x.keeps y.takes;
  runs = x.runs;
}

-- ---- p is entered, in two worlds

-- what of the guest runs is the same after both, where it is the same on processor 0, or nothing there
module _ (p : ℕ) (w v u u' : World) (s : IsSoundWorld w) (s' : IsSoundWorld v) (su : IsSoundWorld u)
    (su' : IsSoundWorld u') (n : IsName w.tree p) (g : IsSameGuest p w v) (x : Opened p w u) (y : Opened p v u') where
  n' : IsName v.tree p
  n' = name_after p w.tree v.tree s.tree s'.tree n (trees w v p s s' g)

  both_agree : AgreeTrees p u.tree u'.tree
  both_agree = agree_trans u.tree w.tree u'.tree p su.tree s.tree (name_after p w.tree u.tree s.tree su.tree n x.agrees)
      (agree_sym w.tree u.tree p s.tree su.tree n x.agrees)
      (agree_trans w.tree v.tree u'.tree p s.tree s'.tree n (trees w v p s s' g) y.agrees)

  same_on : runs_on u 0 ≡ runs_on u' 0 → IsSameGuest p u u'
  same_on on = record {
    below = to_worlds p u u' both_agree;
    runs = one_way w v u u' p 0 s (λ a i h. below_before w.tree u.tree p a s.tree su.tree n x.agrees h) x.cpus y.cpus on
        g.runs;
    runs_back = one_way v w u' u p 0 s' (λ a i h. below_before v.tree u'.tree p a s'.tree su'.tree n' y.agrees h) y.cpus
        x.cpus (sym on) g.runs_back;
  }

  same_off : ((z : Occupant) → runs_on u 0 ≡ Some z → In p (ancestry u.tree z.name) → ⊥)
      → ((z : Occupant) → runs_on u' 0 ≡ Some z → In p (ancestry u'.tree z.name) → ⊥) → IsSameGuest p u u'
  same_off off off' = record {
    below = to_worlds p u u' both_agree;
    runs = one_left w v u u' p 0 s (λ a i h. below_before w.tree u.tree p a s.tree su.tree n x.agrees h) x.cpus y.cpus
        off g.runs;
    runs_back = one_left v w u' u p 0 s' (λ a i h. below_before v.tree u'.tree p a s'.tree su'.tree n' y.agrees h)
        y.cpus
        x.cpus off' g.runs_back;
  }

-- where it is the root that runs, nothing of p does
root_off : (p : ℕ) (u : World) → IsSoundWorld u → p ≢ u.tree.root.name
    → ((z : Occupant) → runs_on u 0 ≡ Some z → z.name ≡ u.tree.root.name)
    → (z : Occupant) → runs_on u 0 ≡ Some z → In p (ancestry u.tree z.name) → ⊥
root_off p u s m on z e h = m (top_alone u.tree s.tree p (rw (on z e) at h))

-- what the yield into p comes to, by its alignment and p's handler
abbrev made : ℕ → ℕ → World → Occupant → Bool → Option Ctx → Happened
made d p w r place h = reply_unless w 0 r (first_met ((place, S.NotAligned) ∷ (false, S.NotChild)
    ∷ (false, S.BadVector) ∷ (false, S.Running) ∷ (is_none h, S.NoHandler) ∷ (false, S.BadSave) ∷ []))
    (yield_happens w 0 r (words_of d) p h)

and_false : (b : Bool) → (b && false) ≡ false
and_false true = refl
and_false false = refl

entry_made : (d p : ℕ) (w : World) (r : Occupant) → IsSoundWorld w → ((i : ℕ) → i ≢ 0 → runs_on w i ≡ None)
    → Kid d p w.tree → runs_on w 0 ≡ Some r → r.name ≡ w.tree.root.name → d ≢ 0 → d ≢ 1
    → what_happens w (slot_entry d) ≡ made d p w r (not (d == 1) && not (is_place d)) (handler w.tree p 63)
entry_made d p w r s alone kid k q n0 n1 =
    call_by w r 0 8 (words_of d) k
    ∙ ap (λ x. yield_to w 0 r (words_of d) x) target
    ∙ ap (λ b. by x.name (not (x.name == r.name) && b)) off
    ∙ ap (λ b. by x.name b) (and_false (not (x.name == r.name)))
    ∙ ap (λ n. by n false) (node_found t p kid.name).1
  where
    t : Tree
    t = w.tree

    x : Node
    x = node w.tree p

    by : ℕ → Bool → Happened
    by n b = reply_unless w 0 r (first_met ((not (d == 1) && not (is_place d), S.NotAligned) ∷ (false, S.NotChild)
        ∷ (false, S.BadVector) ∷ (b, S.Running) ∷ (is_none (handler w.tree n 63), S.NoHandler) ∷ (false, S.BadSave)
        ∷ [])) (yield_happens w 0 r (words_of d) n (handler w.tree n 63))

    target : target_node w.tree r.name d ≡ Some (node w.tree p)
    target = rw (q, ne_eqb d 0 n0, ne_eqb d 1 n1, kid_found d p w.tree s.tree kid)

    off : has (running w) (node w.tree p).name ≡ false
    off = runs_alone w (node w.tree p).name r alone k
        (λ e. kid.low (cc (sym (node_found w.tree p kid.name).1)))

record EnteredAlike (p : ℕ) (a b : Happened) : Type 0 where
  outcome : a.outcome ≡ b.outcome
  guest : IsSameGuest p a.world b.world
  duty : OnDuty p a.world
  duty_there : OnDuty p b.world

module _ (d p : ℕ) (w v : World) (r r' : Occupant) (cs cs' : List Places) (s : IsSoundWorld w) (s' : IsSoundWorld v)
    (kid : Kid d p w.tree) (kid' : Kid d p v.tree) (g : IsSameGuest p w v) (k : runs_on w 0 ≡ Some r)
    (k' : runs_on v 0 ≡ Some r') (q : r.name ≡ w.tree.root.name) (q' : r'.name ≡ v.tree.root.name) where
  refused : (st : Status) → IsSoundWorld
      (with_caches cs (reply_unless w 0 r (Some st) (yield_happens w 0 r (words_of d) p None))).world
      → IsSoundWorld (with_caches cs' (reply_unless v 0 r' (Some st) (yield_happens v 0 r' (words_of d) p None))).world
      → EnteredAlike p (with_caches cs (reply_unless w 0 r (Some st) (yield_happens w 0 r (words_of d) p None)))
      (with_caches cs' (reply_unless v 0 r' (Some st) (yield_happens v 0 r' (words_of d) p None)))
  refused st su su' =
      let u = (with_caches cs (reply_unless w 0 r (Some st) (yield_happens w 0 r (words_of d) p None))).world in
      let u' = (with_caches cs' (reply_unless v 0 r' (Some st) (yield_happens v 0 r' (words_of d) p None))).world in
      let on = λ (z : Occupant) (e : runs_on u 0 ≡ Some z). (root_named w r k q _ z e) in
      let on' = λ (z : Occupant) (e : runs_on u' 0 ≡ Some z). (root_named v r' k' q' _ z e) in
      record {
        outcome = refl;
        guest = same_off p w v u u' s s' su su' kid.name g (opened_by p d p w r cs s kid.low k (Some st) None)
            (opened_by p d p v r' cs' s' kid'.low k' (Some st) None) (root_off p u su kid.low on)
            (root_off p u' su' kid'.low on');
        duty = λ z e. inl (on z e);
        duty_there = λ z e. inl (on' z e);
      }
    where
      root_named : (w : World) (r : Occupant) → runs_on w 0 ≡ Some r → r.name ≡ w.tree.root.name → (c : Ctx)
          → (z : Occupant) → runs_on (record w { cpus = slice_set w.cpus 0 (Some (record r { ctx = c })) }) 0 ≡ Some z
          → z.name ≡ w.tree.root.name
      root_named w r k q c z e =
          let x : Occupant = record r { ctx = c } in
          let u : Some x ≡ Some z = rw (← at_set_here (Some x) w.cpus 0 r k) e in
          let v : x ≡ z = cc in
          rw (← v, q)

  entered : (c : Ctx) → IsSoundWorld (with_caches cs (yield_happens w 0 r (words_of d) p (Some c))).world
      → IsSoundWorld (with_caches cs' (yield_happens v 0 r' (words_of d) p (Some c))).world → EnteredAlike p
      (with_caches cs (yield_happens w 0 r (words_of d) p (Some c)))
      (with_caches cs' (yield_happens v 0 r' (words_of d) p (Some c)))
  entered c su su' =
      let x : Occupant = record { name = p; ctx = c } in
      let u = (with_caches cs (yield_happens w 0 r (words_of d) p (Some c))).world in
      let u' = (with_caches cs' (yield_happens v 0 r' (words_of d) p (Some c))).world in
      let o = opened_by p d p w r cs s kid.low k None (Some c) in
      let o' = opened_by p d p v r' cs' s' kid'.low k' None (Some c) in
      let on : runs_on u 0 ≡ Some x = at_set_here (Some x) w.cpus 0 r k in
      let on' : runs_on u' 0 ≡ Some x = at_set_here (Some x) v.cpus 0 r' k' in
      record {
        outcome = rw (q, root_is_one w.tree s.tree, ← root_is_one v.tree s'.tree, ← q');
        guest = same_on p w v u u' s s' su su' kid.name g o o' (cc);
        duty = duty_by u su (name_after p w.tree u.tree s.tree su.tree kid.name o.agrees) x refl on;
        duty_there = duty_by u' su' (name_after p v.tree u'.tree s'.tree su'.tree kid'.name o'.agrees) x refl on';
      }
    where
      duty_by : (u : World) → IsSoundWorld u → IsName u.tree p → (x : Occupant) → x.name ≡ p → runs_on u 0 ≡ Some x
          → OnDuty p u
      duty_by u su n x e on z ez =
          let a : Some x ≡ Some z = cc in
          let b : x ≡ z = cc in
          inr (rw (← b, e) (own_line u.tree su.tree p n))

  made_alike : (place : Bool) (h : Option Ctx) → IsSoundWorld (with_caches cs (made d p w r place h)).world
      → IsSoundWorld (with_caches cs' (made d p v r' place h)).world
      → EnteredAlike p (with_caches cs (made d p w r place h)) (with_caches cs' (made d p v r' place h))
  made_alike true h su su' = refused S.NotAligned su su'
  made_alike false None su su' = refused S.NoHandler su su'
  made_alike false (Some c) su su' = entered c su su'

-- a root that runs
pub root_there : (w : World) → IsBetweenSlots w → (r : Occupant) × (runs_on w 0 ≡ Some r)
    × (r.name ≡ w.tree.root.name)
root_there w b = go (runs_on w 0) refl b.root
  where
    go : (o : Option Occupant) → runs_on w 0 ≡ o → is_root w.tree o ≡ true
        → (r : Occupant) × (runs_on w 0 ≡ Some r) × (r.name ≡ w.tree.root.name)
    go None k e = cc
    go (Some r) k e = (r, k, eqb-true r.name w.tree.root.name e)

-- any yield of the root opens
pub opened : (p b : ℕ) (w : World) (r : Occupant) → IsSoundWorld w → p ≢ w.tree.root.name → runs_on w 0 ≡ Some r
    → Opened p w (event w (slot_entry b)).world
opened p b w r s m k =
    let q = target_node w.tree r.name b in
    rw (call_by w r 0 8 (words_of b) k) (opened_by p b (node_name q) w r (caches_after w (slot_entry b)) s m k
    (first_met (yield_refusals w r.name (words_of b) q)) (handler w.tree (node_name q) 63))

-- the slot of p is opened in two worlds
pub own_opened : (d p t : ℕ) (w v : World) → IsBetweenSlots w → IsBetweenSlots v → Kid d p w.tree → IsSameGuest p w v
    → IsWord d → d ≢ 0 → d ≢ 1 → Walked (Both d p) w v (opening w d t) (opening v d t)
own_opened d p t w v b b' kid g wd n0 n1 =
    let s = b.sound in
    let s' = b'.sound in
    let kid' = kid_same d p w.tree v.tree s.tree s'.tree kid (trees w v p s s' g) in
    let (r, k, q) = root_there w b in
    let (r', k', q') = root_there v b' in
    let cs = caches_after w (slot_entry d) in
    let cs' = caches_after v (slot_entry d) in
    let su = event-sound w (slot_entry d) s (entry_is d wd) in
    let su' = event-sound v (slot_entry d) s' (entry_is d wd) in
    let place = not (d == 1) && not (is_place d) in
    let h = handler w.tree p 63 in
    let one = entry_made d p w r s b.alone kid k q n0 n1 in
    let two = entry_made d p v r' s' b'.alone kid' k' q' n0 n1
    ∙ ap (made d p v r' place) (sym (handlers w v p s s' g p 63 (own_line w.tree s.tree p kid.name))) in
    let z = made_alike d p w v r r' cs cs' s s' kid kid' g k k' q q' place h
    (rw (← one) su)
    (rw (← two) su') in
    let y = subst (λ x. EnteredAlike p (with_caches cs x) (event v (slot_entry d))) (sym one)
    (rw two z) in
    let o = opened p d w r s kid.low k in
    let o' = opened p d v r' s' kid'.low k' in
    record {
      acts = rw y.outcome;
      next = record {
        left = ready_opened p w _ (ready_between w b) o su;
        right = ready_opened p v _ (ready_between v b') o' su';
        kid = kid_same d p w.tree _ s.tree su.tree kid o.agrees;
        guest = y.guest;
        duty = y.duty;
        duty_there = y.duty_there;
      };
    }

-- ---- another is entered, or none

-- what is entered at another address is not of p
target_off : (d p b : ℕ) (t : Tree) → IsSound t → Kid d p t → b ≢ d
    → In p (ancestry t (node_name (target_node t t.root.name b))) → ⊥
target_off d p b t s kid n h = go (b == 0) (b == 1) h
  where
    parent : (x : Bool) → x ≡ true → In p (ancestry t (node_name (cond x None (Some (node t (node t t.root.name).up)))))
        → ⊥
    parent true e h = no_line t s p h
    parent false e h = cc

    child : (o : Option Node) → child_at t t.root.name b ≡ o → In p (ancestry t (node_name o)) → ⊥
    child None e h = no_line t s p h
    child (Some c) e h =
        let f = child_found t t.root.name b c e in
        elim (line_parent t s p c f.0 h) [
          | inl q ↦ kid_apart d p t s kid b c n e (sym q)
          | inr j ↦ kid.low (top_alone t s p (rw f.1 at j))
        ]

    go : (x y : Bool) → In p (ancestry t (node_name (cond x (parent_of t t.root.name)
        (cond y (Some (node t t.root.name)) (child_at t t.root.name b))))) → ⊥
    go true y h = parent (t.root.name == t.root.name) (eq-eqb t.root.name t.root.name refl) h
    go false true h = kid.low (top_alone t s p (rw (root_node t s) at h))
    go false false h = child (child_at t t.root.name b) refl h

-- the slot of another child is opened
pub record OpenedApart (d p : ℕ) (w u : World) : Type 0 where
  pub ready : Ready u
  pub kid : Kid d p u.tree
  pub guest : IsSameGuest p w u
  pub off : (z : Occupant) → runs_on u 0 ≡ Some z → In p (ancestry u.tree z.name) → ⊥

pub other_opened : (d p b : ℕ) (w : World) → IsBetweenSlots w → Kid d p w.tree → IsWord b → b ≢ d
    → OpenedApart d p w (event w (slot_entry b)).world
other_opened d p b w bw kid wb n =
    record {
      ready = ready_opened p w u (ready_between w bw) o su;
      kid = kid_same d p w.tree u.tree s.tree su.tree kid o.agrees;
      guest = record {
        below = to_worlds p w u o.agrees;
        runs = λ i z h e. elim (cases_eq i 0) [
          | inl c ↦
              let one : Some r ≡ Some z = sym k ∙ subst (λ i. runs_on w i ≡ Some z) c e in
              let same : r ≡ z = cc in
              absurd (kid.low (top_alone w.tree s.tree p (rw (← same, q) at h)))
          | inr c ↦ o.cpus i c ∙ e
        ];
        runs_back = λ i z h e. elim (cases_eq i 0) [
          | inl c ↦ absurd (off z (rw (← c) e) h)
          | inr c ↦ rw (← o.cpus i c) e
        ];
      };
      off = off;
    }
  where
    u : World
    u = (event w (slot_entry b)).world

    s : IsSoundWorld w
    s = bw.sound

    su : IsSoundWorld u
    su = event-sound w (slot_entry b) s (entry_is b wb)

    r : Occupant
    r = (root_there w bw).0

    k : runs_on w 0 ≡ Some r
    k = (root_there w bw).1

    q : r.name ≡ w.tree.root.name
    q = (root_there w bw).2

    o : Opened p w u
    o = opened p b w r s kid.low k

    runs : (z : Occupant) → runs_on u 0 ≡ Some z
        → (z.name ≡ w.tree.root.name) ⊎ (z.name ≡ node_name (target_node w.tree w.tree.root.name b))
    runs z e =
        let x = target_node w.tree r.name b in
        let cs = caches_after w (slot_entry b) in
        let made = call_by w r 0 8 (words_of b) k in
        let j = runs_by p b (node_name x) w r cs s kid.low k (first_met (yield_refusals w r.name (words_of b) x))
        (handler w.tree (node_name x) 63) q z (rw (← made) e) in
        subst (λ n. (z.name ≡ w.tree.root.name) ⊎ (z.name ≡ node_name (target_node w.tree n b))) q j

    off : (z : Occupant) → runs_on u 0 ≡ Some z → In p (ancestry u.tree z.name) → ⊥
    off z e h =
        let j = below_before w.tree u.tree p z.name s.tree su.tree kid.name o.agrees h in
        elim (runs z e) [
          | inl c ↦ kid.low (top_alone w.tree s.tree p (rw c at j))
          | inr c ↦ target_off d p b w.tree s.tree kid n (rw (← c) j)
        ]
