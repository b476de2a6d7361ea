-- What an event of a guest leaves alone, and that an event of others leaves a guest the same.
use Rattle.std.proofs.Common.{◌≡◌, ◌≢◌, ℕ, zero, suc, ◌+◌, ◌==◌, ◌⊎◌, inl, inr, Bool, true, false, not, cond, List, []}
use Rattle.std.proofs.Common.{◌∷◌, refl, sym, ap, ◌∙◌, subst, Option, Some, None}
use Rattle.std.specs.Prelude.{filter, slice_set}
use Rattle.std.proofs.lemmas.Bool.{cases_eq, false_from_ne_true, ne_eqb}
use Rattle.pip_base.specs.declared.types.Access.TheVariants.{Load, Store, Fetch}
use Rattle.pip_base.specs.declared.types.Ctx.{Ctx}
use Rattle.pip_base.specs.declared.types.Size.TheVariants.{Word}
use Rattle.pip_model.specs.Deliver.{deliver}
use Rattle.pip_model.specs.Events.{Event, IsEvent}
use Rattle.pip_model.specs.Events as E
use Rattle.pip_model.specs.Handlers.{handler, save_place}
use Rattle.pip_model.specs.Happens.{what_happens, call, call_named, event, load_happens, on_running, wrote}
use Rattle.pip_model.specs.Reach.{reach}
use Rattle.pip_model.specs.Lists.{In, has}
use Rattle.pip_model.specs.Local.{IsAside, IsBelow, actor, cpu_of}
use Rattle.pip_model.specs.Poll.{lines_with, lowest_line, may_take, none_taken, occupant_name, poll, poll_line}
use Rattle.pip_model.specs.Poll.{take_line}
use Rattle.pip_model.specs.Sound.{IsSound}
use Rattle.pip_model.specs.Tree.{Node, Tree, ancestry, node, nodes, on_nodes}
use Rattle.pip_model.specs.Worlds.{Happened, IsSoundWorld, World, done, lines_in, masked_node, with_running, runs_on}
use Rattle.pip_model.specs.Worlds.{save_running, handler_context, with_masked, with_pending}
use Rattle.pip_model.specs.declared.processors.Occupant.{Occupant}
use Rattle.pip_model.proofs.OnLists.Members.{In-map, In-map_from, has_in}
use Rattle.pip_model.proofs.Events.Saves.{save_own, saved_out}
use Rattle.pip_model.proofs.Events.Soundness.{acted-sound, at_cpu, event-sound, runs_named}
use Rattle.pip_model.proofs.Locality.Agree.{AgreeTrees}
use Rattle.pip_model.proofs.Locality.Leaves.{LeavesTree, reach_kept}
use Rattle.pip_model.proofs.Locality.OneEvent.{at_set_other, own_name, to_trees, to_worlds}
use Rattle.pip_model.proofs.Trees.Ancestry.{ancestry_down, ancestry_in}
use Rattle.pip_model.proofs.Trees.Free.{IsName, node_found}
use Rattle.pip_model.proofs.Locality.Runs.{agree_aside}
use Rattle.pip_guests.specs.Guests.{IsElsewhere, IsElsewhereBy, IsSameGuest, LeavesAside, OthersLeaveGuestsAlone}
use Rattle.pip_guests.specs.Guests.{is_of_guest, is_own}
use Rattle.pip_guests.proofs.Lines.{agree_sym, agree_trans, leaves_up, line_alike, line_name, line_parent, line_top}
use Rattle.pip_guests.proofs.Lines.{line_trans, no_line, out_name, own_line, root_line, rows_meet, top_alone}
use Rattle.pip_guests.proofs.Moves.{Goes, event_goes, event_moves}
use Rattle.pip_guests.proofs.Inside.{actor_runs}

-- ---- what is left alone

pub guests_leave : (w : World) (p : ℕ) (e : Event) → IsSoundWorld w → IsEvent e → p ≢ w.tree.root.name → is_own e ≡ true
    → In p (ancestry w.tree (actor w e)) → LeavesAside p (cpu_of e) w (event w e).world
guests_leave w p e s ev m o b =
    let (r, k, q) = actor_runs w p e s b in
    let h : In p (ancestry w.tree r.name) = rw (← q) b in
    let d : r.name ≢ w.tree.root.name =
    λ z. m (top_alone w.tree s.tree p (rw z at h)) in
    let a = event_moves w e r s o k d in
    let s' = event-sound w e s ev in
    let l = leaves_up p r.name w.tree (event w e).world.tree s.tree s'.tree h a.leaves in
    let n = line_top w.tree s.tree p r.name h in
    record {
      outside = l.outside;
      own = l.own;
      words = l.words;
      cpus = a.cpus;
      count = a.count;
      reach = λ c va access size i. reach_kept w.tree (event w e).world.tree p s.tree s'.tree n
          (own_name p w.tree (event w e).world.tree l n) l c i va access size;
    }

-- ---- worlds in which a guest is the same

pub same_world : (p : ℕ) (w : World) → IsSameGuest p w w
same_world p w = record {
  below = record { nodes = λ x. ((λ h. h), (λ h. h)); words = λ g i j l. refl };
  runs = λ i r h e. e;
  runs_back = λ i r h e. e;
}

pub same_sym : (p : ℕ) (w v : World) → IsSoundWorld w → IsSoundWorld v → IsName w.tree p → IsSameGuest p w v
    → IsSameGuest p v w
same_sym p w v s r n g = record {
  below = to_worlds p v w (agree_sym w.tree v.tree p s.tree r.tree n (to_trees p w v g.below));
  runs = g.runs_back;
  runs_back = g.runs;
}

pub same_trans : (p : ℕ) (w v u : World) → IsSoundWorld w → IsSoundWorld v → IsSoundWorld u → IsName w.tree p
    → IsSameGuest p w v → IsSameGuest p v u → IsSameGuest p w u
same_trans p w v u s r q n g h =
    let a = to_trees p w v g.below in
    let b = to_trees p v u h.below in
    record {
      below = to_worlds p w u (agree_trans w.tree v.tree u.tree p s.tree r.tree n a b);
      runs = λ i x l e. h.runs i x (line_alike w.tree v.tree p s.tree r.tree a x.name l) (g.runs i x l e);
      runs_back = λ i x l e. g.runs_back i x (line_alike u.tree v.tree p q.tree r.tree
          (agree_sym v.tree u.tree p r.tree q.tree name b) x.name l) (h.runs_back i x l e);
    }
  where
    name : IsName v.tree p
    name = line_name v.tree p p
        (line_alike w.tree v.tree p s.tree r.tree (to_trees p w v g.below) p (own_line w.tree s.tree p n))

-- ---- an event of a partition aside

-- where control goes, it doesn't come below p
goes_out : (t : Tree) → IsSound t → (p q n : ℕ) → (In p (ancestry t q) → ⊥) → (In q (ancestry t p) → ⊥) → IsName t q
    → Goes t q n → In p (ancestry t n) → ⊥
goes_out t s p q n nb na i (inl h) k = nb (line_trans t s p n q k h)
goes_out t s p q n nb na i (inr (inr e)) k = no_line t s p (rw (← e) k)
goes_out t s p q n nb na i (inr (inl (c, j, u, e))) k =
    elim (line_parent t s p c j (rw e k)) [
      | inl d ↦
          let l : In q (ancestry t c.name) = ancestry_down t s c (node t q) j (u ∙ sym (node_found t q i).1) q
          (rw (← sym (node_found t q i).1) (own_line t s q i)) in
          na (rw d l)
      | inr l ↦ nb (rw (← u) l)
    ]

-- the subtree of p, after a change below q, which is aside
left_aside : (p q : ℕ) (t u : Tree) → IsSound t → IsSound u → IsName t p → IsName t q → (In p (ancestry t q) → ⊥)
    → (In q (ancestry t p) → ⊥) → LeavesTree q t u → AgreeTrees p t u
left_aside p q t u s r np n nb na l =
    let same : AgreeTrees p t t = record { to = λ x h. h; from = λ x h. h; words = λ g i j c. refl } in
    agree_sym u t p r s (out_name q t u s r l p np na) (agree_aside p q t t u s s r np n nb na l same)

-- the guest stays as it is, and p is there
pub record Kept (p : ℕ) (w v : World) : Type 0 where
  pub guest : IsSameGuest p w v
  pub name : IsName v.tree p

kept_same : (p : ℕ) (w : World) → IsName w.tree p → Kept p w w
kept_same p w n = record { guest = same_world p w; name = n }

-- a name of the subtree is there after, where the trees agree
pub name_after : (p : ℕ) (t u : Tree) → IsSound t → IsSound u → IsName t p → AgreeTrees p t u → IsName u p
name_after p t u s r n a = line_name u p p (line_alike t u p s r a p (own_line t s p n))

-- what runs, where one processor changes from what is not of the guest to what isn't either
pub kept_by : (p cpu : ℕ) (w v : World) → IsSoundWorld w → IsSoundWorld v → IsName w.tree p → AgreeTrees p w.tree v.tree
    → ((i : ℕ) → i ≢ cpu → runs_on v i ≡ runs_on w i)
    → ((z : Occupant) → runs_on w cpu ≡ Some z → In p (ancestry w.tree z.name) → ⊥)
    → ((z : Occupant) → runs_on v cpu ≡ Some z → In p (ancestry w.tree z.name) → ⊥) → Kept p w v
kept_by p cpu w v s r n a cpus before after = record {
  guest = record {
    below = to_worlds p w v a;
    runs = λ i z h e. elim (cases_eq i cpu) [
      | inl q ↦ absurd (before z (rw (← q) e) h)
      | inr q ↦ cpus i q ∙ e
    ];
    runs_back = λ i z h e. elim (cases_eq i cpu) [
      | inl q ↦ absurd (after z (rw (← q) e)
          (line_alike v.tree w.tree p r.tree s.tree (agree_sym w.tree v.tree p s.tree r.tree n a) z.name h))
      | inr q ↦ rw (← cpus i q) e
    ];
  };
  name = name_after p w.tree v.tree s.tree r.tree n a;
}

aside_kept : (w : World) (p : ℕ) (e : Event) (q : Occupant) → IsSoundWorld w → IsEvent e → IsName w.tree p
    → is_own e ≡ true → runs_on w (cpu_of e) ≡ Some q → (In p (ancestry w.tree q.name) → ⊥)
    → (In q.name (ancestry w.tree p) → ⊥) → Kept p w (event w e).world
aside_kept w p e q s ev n o k nb na =
    let s' = event-sound w e s ev in
    let i : IsName w.tree q.name = s.names_nodes q.name (runs_named w (cpu_of e) q s k) in
    let d : q.name ≢ w.tree.root.name =
    λ z. na (rw z (root_line w.tree s.tree p n)) in
    let a = event_moves w e q s o k d in
    kept_by p (cpu_of e) w (event w e).world s s' n
    (left_aside p q.name w.tree (event w e).world.tree s.tree s'.tree n i nb na a.leaves) a.cpus
    (λ z c h. let u : Some z ≡ Some q = cc in let x : z ≡ q = cc in
    nb (rw (← x) h))
    (λ z c h. goes_out w.tree s.tree p q.name z.name nb na i (event_goes w e q s o k d z c) h)

-- ---- lines

-- a change of the root's node alone
module _ (f : Node → Node) (names : (x : Node) → (f x).name ≡ x.name) (ups : (x : Node)
    → (f x).up ≡ x.up) (t : Tree) (p : ℕ) (same : (x : Node) → In p (ancestry t x.name) → f x ≡ x) where
  pub changed_to : (x : Node) → IsBelow t p x → IsBelow (on_nodes f t) p x
  changed_to x (i, h) = (
    subst (λ z. In z (nodes (on_nodes f t))) (same x h) (In-map f x (nodes t) i),
    rw (ancestry_in f names ups t.root t.others x.name) h,
  )

  pub changed_from : (x : Node) → IsBelow (on_nodes f t) p x → IsBelow t p x
  changed_from x (i, h) =
      let (z, j, e) = In-map_from f x (nodes t) i in
      let q : x.name ≡ z.name = cc (names z) in
      let k : In p (ancestry t z.name) = rw (← ancestry_in f names ups t.root t.others z.name)
      (subst (λ v. In p (ancestry (on_nodes f t) v)) q h) in
      let d : x ≡ z = e ∙ same z k in
      (subst (λ v. In v (nodes t)) (sym d) j, rw d k)

-- the root's mask and lines are no matter of a guest
module _ (t : Tree) (p : ℕ) (m : p ≢ t.root.name) (alone : In p (ancestry t t.root.name) → p ≡ t.root.name) where
  is_low : (x : Node) → In p (ancestry t x.name) → x.name ≢ t.root.name
  is_low x h e = m (alone (rw e at h))

  mask_same : (b : Bool) (x : Node) → In p (ancestry t x.name) → masked_node t.root.name b x ≡ x
  mask_same b x h = let q = ne_eqb x.name t.root.name (is_low x h) in λ n. record x { masked = cond (q n) b x.masked }

  lines_same_in : (js : List ℕ) (x : Node) → In p (ancestry t x.name) → lines_in t.root.name js x ≡ x
  lines_same_in js x h = let q = ne_eqb x.name t.root.name (is_low x h) in
      λ n. record x { pending = cond (q n) js x.pending }

  pub pending_agrees : (js : List ℕ) → AgreeTrees p t (with_pending js t)
  pending_agrees js = record {
    to = changed_to (lines_in t.root.name js) (λ x. refl) (λ x. refl) t p (lines_same_in js);
    from = changed_from (lines_in t.root.name js) (λ x. refl) (λ x. refl) t p (lines_same_in js);
    words = λ g i j l. refl;
  }

  pub masked_agrees : (b : Bool) → AgreeTrees p t (with_masked t.root.name b t)
  masked_agrees b = record {
    to = changed_to (masked_node t.root.name b) (λ x. refl) (λ x. refl) t p (mask_same b);
    from = changed_from (masked_node t.root.name b) (λ x. refl) (λ x. refl) t p (mask_same b);
    words = λ g i j l. refl;
  }

raise_kept : (w : World) (p j : ℕ) → IsSoundWorld w → IsEvent (E.Raise j) → IsName w.tree p → p ≢ w.tree.root.name
    → Kept p w (event w (E.Raise j)).world
raise_kept w p j s ev n m =
    let s' = event-sound w (E.Raise j) s ev in
    let a = pending_agrees w.tree p m (top_alone w.tree s.tree p) (lines_with j w.tree.root.pending) in
    record {
      guest = record {
        below = to_worlds p _ _ a;
        runs = λ i r h e. e;
        runs_back = λ i r h e. e;
      };
      name = name_after p w.tree (event w (E.Raise j)).world.tree s.tree s'.tree n a;
    }

-- the root is masked, and other lines are pending
pub entered_agrees : (t : Tree) (p : ℕ) → p ≢ t.root.name → (In p (ancestry t t.root.name) → p ≡ t.root.name)
    → (js : List ℕ) → AgreeTrees p t (with_pending js (with_masked t.root.name true t))
entered_agrees t p m alone js =
    let a = masked_agrees t p m alone true in
    let up : In p (ancestry (with_masked t.root.name true t) t.root.name) → p ≡ t.root.name = λ h. alone (subst (In p)
    (ancestry_in (masked_node t.root.name true) (λ x. refl) (λ x. refl) t.root t.others t.root.name) h) in
    let b = pending_agrees (with_masked t.root.name true t) p m up js in
    record {
      to = λ x h. b.to x (a.to x h);
      from = λ x h. a.from x (b.from x h);
      words = λ g i j l. refl;
    }

-- what runs there, if anything does, is neither below p nor above it
abbrev IsOff : Tree → ℕ → Option Occupant → Type 0
IsOff t p None = Unit {0}
IsOff t p (Some q) = (In p (ancestry t q.name) → ⊥) × (In q.name (ancestry t p) → ⊥)

-- a line that is taken where nothing of the guest runs
module _ (w : World) (p cpu : ℕ) (s : IsSoundWorld w) (n : IsName w.tree p) (m : p ≢ w.tree.root.name) where
  line_agrees : (o : Option Occupant) (js : List ℕ) → runs_on w cpu ≡ o → IsOff w.tree p o
      → AgreeTrees p w.tree (with_pending js (with_masked w.tree.root.name true (save_running w.tree o)))
  line_agrees None js k f = entered_agrees w.tree p m (top_alone w.tree s.tree p) js
  line_agrees (Some q) js k f =
      let i = s.names_nodes q.name (runs_named w cpu q s k) in
      let a = entered_agrees (save_running w.tree (Some q)) p m (top_alone w.tree s.tree p) js in
      record {
        to = a.to;
        from = a.from;
        words = λ g j h l. saved_out w.tree q.name q.ctx (save_place w.tree q.name 63) g j (save_own w.tree q.name 63)
            (λ z. elim (rows_meet w.tree s.tree p q.name g n i h z) [ inl c ↦ f.0 c | inr c ↦ f.1 c ]);
      }

  off_before : (o : Option Occupant) → runs_on w cpu ≡ o → IsOff w.tree p o → (z : Occupant) → runs_on w cpu ≡ Some z
      → In p (ancestry w.tree z.name) → ⊥
  off_before None k f z e h = let u = sym k ∙ e in cc
  off_before (Some q) k f z e h = let u : Some q ≡ Some z = cc in let d : q ≡ z = cc in
      f.0 (rw d h)

  poll_kept : (o : Option Occupant) → runs_on w cpu ≡ o → IsOff w.tree p o → IsSoundWorld (poll w cpu o).world
      → Kept p w (poll w cpu o).world
  poll_kept o k f = go (may_take w cpu o) (lowest_line w w.tree.root.pending)
    where
      none : (o : Option Occupant) → Kept p w (none_taken w o).world
      none None = kept_same p w n
      none (Some r) = kept_same p w n

      take : (j : ℕ) (h : Option Ctx) → IsSoundWorld (take_line w cpu o j h).world
          → Kept p w (take_line w cpu o j h).world
      take j None s' = none o
      take j (Some c) s' = kept_by p cpu w _ s s' n (line_agrees o (filter (λ i. not (i == j)) w.tree.root.pending) k f)
          (λ i d. at_set_other _ w.cpus cpu i d) (off_before o k f)
          (λ z e h. m (top_alone w.tree s.tree p (subst (λ a. In p (ancestry w.tree a))
          (entered w.cpus cpu (record { name = w.tree.root.name; ctx = handler_context c (32 + j) 0 0 0 }) z e) h)))
        where
          entered : (cs : List (Option Occupant)) (i : ℕ) (x z : Occupant) → at_cpu (slice_set cs i (Some x)) i ≡ Some z
              → z.name ≡ x.name
          entered [] i x z e = cc
          entered (o ∷ cs) zero x z e = let d : x ≡ z = cc in rw (← d)
          entered (o ∷ cs) (suc i) x z e = entered cs i x z e

      go : (b : Bool) (j : Option ℕ) → IsSoundWorld (cond b (poll_line w cpu o j) (none_taken w o)).world
          → Kept p w (cond b (poll_line w cpu o j) (none_taken w o)).world
      go false j s' = none o
      go true None s' = none o
      go true (Some j) s' = take j (handler w.tree w.tree.root.name (32 + j)) s'

-- ---- an event of others

-- nothing happens where nothing runs
idle_kept : (w : World) (p : ℕ) (e : Event) → IsSoundWorld w → IsName w.tree p → is_own e ≡ true
    → runs_on w (cpu_of e) ≡ None → Kept p w (event w e).world
idle_kept w p e s n o k = from_acted (go e o k)
  where
    from_acted : Kept p w (what_happens w e).world → Kept p w (event w e).world
    from_acted h = record {
      guest = assumption;
      name = h.name;
    }

    still : (e : Event) (f : Occupant → Happened) → runs_on w (cpu_of e) ≡ None
        → what_happens w e ≡ on_running w (cpu_of e) (runs_on w (cpu_of e)) f → Kept p w (what_happens w e).world
    still e f k q = rw (q, k) (kept_same p w n)

    go : (e : Event) → is_own e ≡ true → runs_on w (cpu_of e) ≡ None → Kept p w (what_happens w e).world
    go (E.Load cpu va z) o k =
        still (E.Load cpu va z) (λ r. load_happens w cpu r va Load z (reach w.tree r.name va Load z)) k refl
    go (E.Store cpu va z x) o k =
        still (E.Store cpu va z x) (λ r. wrote w cpu r va z x (reach w.tree r.name va Store z)) k refl
    go (E.Fetch cpu) o k =
        still (E.Fetch cpu) (λ r. load_happens w cpu r r.ctx.pc Fetch Word (reach w.tree r.name r.ctx.pc Fetch Word)) k
        refl
    go (E.Trap cpu x a b) o k = still (E.Trap cpu x a b) (λ r. deliver w cpu r x a b) k refl
    go (E.Call cpu number a) o k = still (E.Call cpu number a) (λ r. call (call_named number) w cpu r a) k refl
    go (E.Raise j) o k = cc
    go (E.Poll cpu) o k = cc
    go (E.SetContext cpu c) o k =
        still (E.SetContext cpu c) (λ r. done (with_running w cpu (Some (record r { ctx = c })))) k refl

-- by what runs there
by_kept : (w : World) (p : ℕ) (e : Event) → IsSoundWorld w → IsEvent e → IsName w.tree p → is_own e ≡ true
    → IsElsewhereBy p w e → Kept p w (event w e).world
by_kept w p e s ev n o (inl k) = idle_kept w p e s n o k
by_kept w p e s ev n o (inr a) =
    let (q, k, d) = aside_runs w p e s a in
    aside_kept w p e q s ev n o k (λ h. a.not_below (rw d h))
    (λ h. a.not_above (rw d h))
  where
    aside_runs : (w : World) (p : ℕ) (e : Event) → IsSoundWorld w → IsAside w.tree p (actor w e)
        → (r : Occupant) × (runs_on w (cpu_of e) ≡ Some r) × (actor w e ≡ r.name)
    aside_runs w p e s a = actor_runs w (actor w e) e s (own_line w.tree s.tree (actor w e) a.there)

poll_of : (w : World) (p cpu : ℕ) → IsSoundWorld w → IsName w.tree p → p ≢ w.tree.root.name
    → IsElsewhereBy p w (E.Poll cpu) → Kept p w (event w (E.Poll cpu)).world
poll_of w p cpu s n m h =
    let k = poll_kept w p cpu s n m (runs_on w cpu) refl (off h) (acted-sound w (E.Poll cpu) s tt) in
    record {
      guest = assumption;
      name = k.name;
    }
  where
    at : (o : Option Occupant) → (o ≡ None) ⊎ IsAside w.tree p (occupant_name o) → IsOff w.tree p o
    at None h = tt
    at (Some q) (inl e) = cc
    at (Some q) (inr a) = (a.not_below, a.not_above)

    off : IsElsewhereBy p w (E.Poll cpu) → IsOff w.tree p (runs_on w cpu)
    off h = at (runs_on w cpu) h

pub elsewhere_kept : (w : World) (p : ℕ) (e : Event) → IsSoundWorld w → IsEvent e → IsName w.tree p
    → p ≢ w.tree.root.name → IsElsewhere p w e → Kept p w (event w e).world
elsewhere_kept w p (E.Load cpu va z) s ev n m h = by_kept w p (E.Load cpu va z) s ev n refl h
elsewhere_kept w p (E.Store cpu va z x) s ev n m h = by_kept w p (E.Store cpu va z x) s ev n refl h
elsewhere_kept w p (E.Fetch cpu) s ev n m h = by_kept w p (E.Fetch cpu) s ev n refl h
elsewhere_kept w p (E.Trap cpu x a b) s ev n m h = by_kept w p (E.Trap cpu x a b) s ev n refl h
elsewhere_kept w p (E.Call cpu number a) s ev n m h = by_kept w p (E.Call cpu number a) s ev n refl h
elsewhere_kept w p (E.Raise j) s ev n m h = raise_kept w p j s ev n m
elsewhere_kept w p (E.Poll cpu) s ev n m (inl v) = subst (λ h. Kept p w h.world) (sym v) (kept_same p w n)
elsewhere_kept w p (E.Poll cpu) s ev n m (inr h) = poll_of w p cpu s n m h
elsewhere_kept w p (E.SetContext cpu c) s ev n m h = by_kept w p (E.SetContext cpu c) s ev n refl h

-- such an event is none of the guest's
pub elsewhere_others : (w : World) (p : ℕ) (e : Event) → IsSoundWorld w → IsElsewhere p w e → is_of_guest p w e ≡ false
elsewhere_others w p e s h = go e h
  where
    by : (e : Event) → IsElsewhereBy p w e → has (ancestry w.tree (actor w e)) p ≡ false
    by e (inl k) = false_from_ne_true _
        (λ z. no_line w.tree s.tree p (subst (λ o. In p (ancestry w.tree (occupant_name o))) k (has_in p _ z)))
    by e (inr a) = false_from_ne_true _ (λ z. a.not_below (has_in p _ z))

    go : (e : Event) → IsElsewhere p w e → is_of_guest p w e ≡ false
    go (E.Load cpu va z) h = by (E.Load cpu va z) h
    go (E.Store cpu va z x) h = by (E.Store cpu va z x) h
    go (E.Fetch cpu) h = by (E.Fetch cpu) h
    go (E.Trap cpu x a b) h = by (E.Trap cpu x a b) h
    go (E.Call cpu number a) h = by (E.Call cpu number a) h
    go (E.Raise j) h = refl
    go (E.Poll cpu) h = refl
    go (E.SetContext cpu c) h = by (E.SetContext cpu c) h

pub others_leave_guests_alone : OthersLeaveGuestsAlone
others_leave_guests_alone w p e s ev n m h =
    record { others = elsewhere_others w p e s h; same = (elsewhere_kept w p e s ev n m h).guest }

-- a guest that is left as it is is there
pub name_kept : (w v : World) (p : ℕ) → IsSoundWorld w → IsSoundWorld v → IsName w.tree p → IsSameGuest p w v
    → IsName v.tree p
name_kept w v p s r n g = name_after p w.tree v.tree s.tree r.tree n (to_trees p w v g.below)
