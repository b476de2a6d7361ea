-- What partitions above do that is no matter of a guest.
use Rattle.std.proofs.Common.{◌≡◌, ◌≢◌, ℕ, ◌+◌, ◌*◌, ◌==◌, ◌&&◌, inl, inr, Bool, true, false, not, cond, List, [], ◌∷◌}
use Rattle.std.proofs.Common.{refl, sym, ap, ◌∙◌, subst, arith, Option, Some, None}
use Rattle.std.specs.Prelude.{filter, is_some, option_map, unwrap_or}
use Rattle.std.proofs.lemmas.Bool.{cases_Bool, false_from_ne_true, ne_eqb}
use Rattle.pip_base.specs.declared.outcome.Status.{Status}
use Rattle.pip_base.specs.declared.outcome.Status.TheVariants as S
use Rattle.pip_base.specs.declared.types.Access.{Access}
use Rattle.pip_base.specs.declared.types.Access.TheVariants.{Load, Store, Fetch}
use Rattle.pip_base.specs.declared.types.Ctx.{Ctx}
use Rattle.pip_base.specs.declared.types.Size.{Size}
use Rattle.pip_base.specs.declared.types.Size.TheVariants.{Word}
use Rattle.pip_model.specs.AddVAddr.{add_refusals, with_row}
use Rattle.pip_model.specs.Answers.{Answer, Five, accept, answer_unless, child_name, first_met}
use Rattle.pip_model.specs.Collect.{collect_refusals, without_table}
use Rattle.pip_model.specs.CreatePartition.{create_refusals, newborn, tree_with_newborn}
use Rattle.pip_model.specs.DeletePartition.{delete_refusals, tree_without_subtree}
use Rattle.pip_model.specs.CountToMap.{count_refusals}
use Rattle.pip_model.specs.Prepare.{PageChain, Pages, Refused, prepare_with, with_table}
use Rattle.pip_model.specs.RemoveVAddr.{remove_refusals, without_row}
use Rattle.pip_model.specs.MappedInChild.{find_refusals}
use Rattle.pip_model.specs.Deliver.{deliver, deliver_to, nearest_taker}
use Rattle.pip_model.specs.Events.{Event, IsEvent}
use Rattle.pip_model.specs.Events as E
use Rattle.pip_model.specs.Handlers.{handler, save, save_place, saved_to}
use Rattle.pip_model.specs.Happens.{access_number, answer, call, call_named, event, fault_number, fault_vector}
use Rattle.pip_model.specs.Happens.{load_happens, what_happens, with_word, wrote}
use Rattle.pip_model.specs.Lists.{In, has}
use Rattle.pip_model.specs.Local.{IsBelow, actor, cpu_of}
use Rattle.pip_model.specs.Poll.{lowest_line, may_take, none_taken, poll, poll_line, take_line}
use Rattle.pip_model.specs.Reach.{Faulted, Place, Reached, reach}
use Rattle.pip_model.specs.Sound.{IsSound, IsWord}
use Rattle.pip_model.specs.Switching.{node_name, reply_unless, target_node}
use Rattle.pip_model.specs.Switching.{yield, yield_happens, yield_refusals, yielded_tree}
use Rattle.pip_model.specs.Tree.{Node, Tree, ancestry, change_at, change_node, child_at, config, hidden}
use Rattle.pip_model.specs.Tree.{node, nodes, row_pages, vpage, dir, word_of}
use Rattle.pip_model.specs.Worlds.{IsSoundWorld, World, handler_context, masked_node, runs_on}
use Rattle.pip_model.specs.Worlds.{running, save_running, with_masked, with_pending, with_running}
use Rattle.pip_model.specs.declared.call_name.CallName.{CallName}
use Rattle.pip_model.specs.declared.processors.Taker.{Taker}
use Rattle.pip_model.specs.declared.call_name.CallName.TheVariants.{Masks, OnMemory, Unknown, Yields}
use Rattle.pip_model.specs.declared.call_name.MemoryCall.{MemoryCall}
use Rattle.pip_model.specs.declared.call_name.MemoryCall.TheVariants.{AddVAddr, Collect, CountToMap, CreatePartition}
use Rattle.pip_model.specs.declared.call_name.MemoryCall.TheVariants.{DeletePartition, MappedInChild, Prepare}
use Rattle.pip_model.specs.declared.call_name.MemoryCall.TheVariants.{RemoveVAddr}
use Rattle.pip_model.specs.declared.processors.Occupant.{Occupant}
use Rattle.pip_model.proofs.OnLists.Members.{has_in}
use Rattle.pip_model.proofs.Calls.Add.{child_found}
use Rattle.pip_model.proofs.Calls.Create.{fresh_name, may_create}
use Rattle.pip_model.proofs.Calls.Delete as D
use Rattle.pip_model.proofs.Calls.Table.{laws_of}
use Rattle.pip_model.proofs.Events.Soundness.{acted-sound, runs_named}
use Rattle.pip_model.proofs.Locality.Agree.{AgreeTrees}
use Rattle.pip_model.proofs.Locality.Leaves.{LeavesTree}
use Rattle.pip_model.proofs.Locality.OneEvent.{at_set_here, at_set_other, to_trees, to_worlds}
use Rattle.pip_model.proofs.Trees.Ancestors.{name_in, not_root, row_above}
use Rattle.pip_model.proofs.Trees.Ancestry.{named_node, over_ancestry}
use Rattle.pip_model.proofs.Trees.ChangeNode.{change-else, change-keeps}
use Rattle.pip_model.proofs.Trees.Children.{named_child}
use Rattle.pip_model.proofs.Trees.Free.{IsName, hidden_by, hidden_from, node_found, passed, tests_agree}
use Rattle.pip_guests.specs.Ancestors.{AncestorsLeaveGuestsAlone, AncestorsOnMachines, CallsApart, IsNoMatter}
use Rattle.pip_guests.specs.Ancestors.{IsOtherChild, NamesOther, SavesApart, StoresApart, YieldsApart}
use Rattle.pip_guests.proofs.Elsewhere.{Kept, changed_from, changed_to, entered_agrees, kept_by}
use Rattle.pip_guests.proofs.Inputs.{not_guests, saved_apart, yielded_agrees}
use Rattle.pip_guests.proofs.Inside.{actor_runs}
use Rattle.pip_guests.proofs.Lines.{line_parent, line_trans, lines_meet, no_line, own_line, top_alone}
use Rattle.pip_guests.proofs.Moves.{call_by, fetch_by, load_by, set_by, store_by, taker_in, trap_by}

-- ---- nodes

-- the subtree of p has the same nodes in both trees
record Members (p : ℕ) (t u : Tree) : Type 0 where
  to : (x : Node) → IsBelow t p x → IsBelow u p x
  from : (x : Node) → IsBelow u p x → IsBelow t p x

members_same : (p : ℕ) (t : Tree) → Members p t t
members_same p t = record { to = λ x h. h; from = λ x h. h }

members_unless : (p : ℕ) (t : Tree) (o : Option Status) (b : Answer) → (o ≡ None → Members p t b.tree)
    → Members p t (answer_unless t o b).tree
members_unless p t None b h = h refl
members_unless p t (Some s) b h = members_same p t

-- a change of one node that isn't of the subtree
members_changed : (p c : ℕ) (t : Tree) (f : Node → Node) (w : ℕ → Option (ℕ → ℕ)) → ((x : Node) → (f x).name ≡ x.name)
    → ((x : Node) → (f x).up ≡ x.up) → (In p (ancestry t c) → ⊥)
    → Members p t (record (change_node c f t) { words = w })
members_changed p c t f w names ups out = record {
  to = changed_to (change_at c f) keep_names keep_ups t p same;
  from = changed_from (change_at c f) keep_names keep_ups t p same;
}
  where
    keep_names : (x : Node) → (change_at c f x).name ≡ x.name
    keep_names = change-keeps c f (λ z. z.name) names

    keep_ups : (x : Node) → (change_at c f x).up ≡ x.up
    keep_ups = change-keeps c f (λ z. z.up) ups

    same : (x : Node) → In p (ancestry t x.name) → change_at c f x ≡ x
    same x h = change-else c f x (λ e. out (rw (← e) h))

-- ---- the words of the pages of the subtree

none_of : {A : Type 0} (o : Option A) → is_some o ≡ false → o ≡ None
none_of None e = refl
none_of (Some x) e = cc

module _ (t u : Tree) (p : ℕ) (s : IsSound t) (s' : IsSound u) (n : IsName t p) (m : Members p t u) where
  found : In (node t p) (nodes t) × ((node t p).name ≡ p)
  found = node_found t p n

  there : IsBelow u p (node t p)
  there = m.to (node t p) (found.0, rw found.1 (own_line t s p n))

  same_node : node u p ≡ node t p
  same_node = named_node u p s' (node t p) there.0 found.1

  -- a page of p is hidden by a node of the subtree
  hidden_in : (v : Tree) → IsSound v → (x : Node) → In x (nodes v) → x.name ≡ p → (g : ℕ) → In g (row_pages x)
      → hidden v g ≡ true → (z : Node) × IsBelow v p z × In g (config z)
  hidden_in v r x i e g h q =
      let (z, j, k) = hidden_from v g q in
      let a = row_above v g r z x j i k h in
      (z, (j, rw (← e) (over_ancestry v r x z i (inr a))), k)

  hidden_same : (g : ℕ) → In g (row_pages (node t p)) → hidden t g ≡ hidden u g
  hidden_same g h = tests_agree (hidden t g) (hidden u g)
      (λ q. let (z, b, k) = hidden_in t s (node t p) found.0 found.1 g h q in hidden_by u g z (m.to z b).0 k)
      (λ q. let (z, b, k) = hidden_in u s' (node t p) there.0 found.1 g h q in hidden_by t g z (m.from z b).0 k)

  hidden_none : (v : Tree) → IsSound v → (g : ℕ) → hidden v g ≡ true → v.words g ≡ None
  hidden_none v r g q = none_of (v.words g) (r.words g ∙ closed (has (row_pages v.root) g) (hidden v g) q)
    where
      closed : (a b : Bool) → b ≡ true → (a && not b) ≡ false
      closed a b e = grind (arith, e)

  -- so it is enough that pages that stay open keep their words
  agree : ((g : ℕ) → hidden t g ≡ false → hidden u g ≡ false → u.words g ≡ t.words g) → AgreeTrees p t u
  agree open_words = record {
    to = m.to;
    from = m.from;
    words = λ g i j l. elim (cases_Bool (hidden t g)) [
      | inl q ↦
          let none = hidden_none t s g q in
          let none' = hidden_none u s' g (rw (← hidden_same g j) q) in
          cc
      | inr q ↦ rw (open_words g q (sym (hidden_same g j) ∙ q))
    ];
  }

-- ---- calls on memory

module _ (t : Tree) (s : IsSound t) (p r : ℕ) (n : IsName t p) (i : IsName t r) (out : In p (ancestry t r) → ⊥) where
  -- a child that is neither p nor above it is not below it
  child_out : (d : ℕ) → IsOtherChild p t r d → In p (ancestry t (child_name t r d)) → ⊥
  child_out d other = go (child_at t r d) refl other
    where
      go : (o : Option Node) → child_at t r d ≡ o
          → (In (unwrap_or (option_map (λ x. x.name) o) 0) (ancestry t p) → ⊥)
          → In p (ancestry t (unwrap_or (option_map (λ x. x.name) o) 0)) → ⊥
      go None e other h = no_line t s p h
      go (Some c) e other h =
          let f = child_found t r d c e in
          elim (line_parent t s p c f.0 h) [
            | inl q ↦ other (rw (← q) (own_line t s p n))
            | inr l ↦ out (rw (← f.1) l)
          ]

  -- a new child
  members_created : (a : Five) → first_met (create_refusals t r a) ≡ None
      → LeavesTree r t (tree_with_newborn t r a) → IsSound (tree_with_newborn t r a)
      → Members p t (tree_with_newborn t r a)
  members_created a e l s' = record {
    to = λ x h. let j = old x h.0 in
        (j, (l.lines x.name p (name_in x (nodes t) h.0) (name_in x (nodes (tree_with_newborn t r a)) j)).0 h.1);
    from = λ x h. back x h.0 h.1;
  }
    where
      old : (x : Node) → In x (nodes t) → In x (nodes (tree_with_newborn t r a))
      old x (inl e) = inl e
      old x (inr i) = inr (inr i)

      stays : (x : Node) → In x (nodes t) → In p (ancestry (tree_with_newborn t r a) x.name) → IsBelow t p x
      stays x j h =
          (j, (l.lines x.name p (name_in x (nodes t) j) (name_in x (nodes (tree_with_newborn t r a)) (old x j))).1 h)

      new_out : In p (ancestry (tree_with_newborn t r a) (newborn t r a).name) → ⊥
      new_out h = elim (line_parent (tree_with_newborn t r a) s' p (newborn t r a) (inl refl) h) [
        | inl q ↦ fresh_name t r a s i (may_create t r a e) (subst (IsName t) q n)
        | inr k ↦ out ((l.lines r p i (in_new r i)).1 k)
      ]
        where
          in_new : (q : ℕ) → IsName t q → IsName (tree_with_newborn t r a) q
          in_new q (inl e) = inl e
          in_new q (inr j) = inr (inr j)

      back : (x : Node) → In x (nodes (tree_with_newborn t r a)) → In p (ancestry (tree_with_newborn t r a) x.name)
          → IsBelow t p x
      back x (inl e) h = stays x (inl e) h
      back x (inr (inl e)) h =
          absurd (new_out (rw e at h))
      back x (inr (inr j)) h = stays x (inr j) h

  -- a child goes
  members_deleted : (c : Node) → In c t.others → (In c.name (ancestry t p) → ⊥) → (In p (ancestry t c.name) → ⊥)
      → LeavesTree r t (tree_without_subtree t c.name) → Members p t (tree_without_subtree t c.name)
  members_deleted c j above under l = record {
    to = λ x h.
        let k = D.stays_in t c.name s other x h.0 (apart x h.0 h.1) in
        (k, (l.lines x.name p (name_in x (nodes t) h.0) (name_in x (nodes (tree_without_subtree t c.name)) k)).0 h.1);
    from = λ x h.
        let k = D.left_nodes t c.name s other x h.0 in
        (k, (l.lines x.name p (name_in x (nodes t) k) (name_in x (nodes (tree_without_subtree t c.name)) h.0)).1 h.1);
  }
    where
      other : c.name ≢ t.root.name
      other q = not_root t s c j (sym q)

      apart : (x : Node) → In x (nodes t) → In p (ancestry t x.name) → has (ancestry t x.name) c.name ≡ false
      apart x k h = false_from_ne_true _ (λ q. elim (lines_meet t s p c.name x.name h (has_in c.name _ q)) [
        | inl d ↦ under d
        | inr d ↦ above d
      ])

-- the subtree after a call
module _ (w : World) (s : IsSoundWorld w) (p r : ℕ) (n : IsName w.tree p) (i : IsName w.tree r)
    (out : In p (ancestry w.tree r) → ⊥) (a : Five) where
  prepared : (c : ℕ) (v k : ℕ) (o : PageChain) → (In p (ancestry w.tree c) → ⊥)
      → Members p w.tree (prepare_with w.tree c v k o).tree
  prepared c v k (Refused q) h = members_same p w.tree
  prepared c v k (Pages []) h = members_same p w.tree
  prepared c v k (Pages (g0 ∷ [])) h = members_same p w.tree
  prepared c v k (Pages (g0 ∷ g1 ∷ [])) h = members_same p w.tree
  prepared c v k (Pages (g0 ∷ g1 ∷ g2 ∷ gs)) h = members_changed p c w.tree
      (with_table (record { index = dir v; mmu = g0; shadow1 = g1; shadow2 = g2 }) gs) _ (λ x. refl) (λ x. refl) h

  members : (c : MemoryCall) → NamesOther c p w.tree r a → IsSound (answer c w r a).tree
      → LeavesTree r w.tree (answer c w r a).tree → Members p w.tree (answer c w r a).tree
  members CreatePartition o s' l = go (first_met (create_refusals w.tree r a)) refl s' l
    where
      go : (q : Option Status) → first_met (create_refusals w.tree r a) ≡ q
          → IsSound (answer_unless w.tree q (accept 0 (tree_with_newborn w.tree r a))).tree
          → LeavesTree r w.tree (answer_unless w.tree q (accept 0 (tree_with_newborn w.tree r a))).tree
          → Members p w.tree (answer_unless w.tree q (accept 0 (tree_with_newborn w.tree r a))).tree
      go None e s' l = members_created w.tree s.tree p r n i out a e l s'
      go (Some x) e s' l = members_same p w.tree
  members DeletePartition o s' l = go (first_met (delete_refusals w.tree (running w) r a.x0)) refl l
    where
      gone : (e : first_met (delete_refusals w.tree (running w) r a.x0) ≡ None)
          → LeavesTree r w.tree (tree_without_subtree w.tree (child_name w.tree r a.x0))
          → Members p w.tree (tree_without_subtree w.tree (child_name w.tree r a.x0))
      gone e l =
          let (c, k) = named_child w.tree r a.x0 (passed (delete_refusals w.tree (running w) r a.x0) e S.NotChild) in
          let under = child_out w.tree s.tree p r n i out a.x0 o in
          subst (λ q. Members p w.tree (tree_without_subtree w.tree q)) (sym k.name)
          (members_deleted w.tree s.tree p r n i out c k.child
          (rw (← k.name) o)
          (rw (← k.name) under)
          (subst (λ q. LeavesTree r w.tree (tree_without_subtree w.tree q)) k.name l))

      go : (q : Option Status) → first_met (delete_refusals w.tree (running w) r a.x0) ≡ q
          → LeavesTree r w.tree
          (answer_unless w.tree q (accept 0 (tree_without_subtree w.tree (child_name w.tree r a.x0)))).tree
          → Members p w.tree
          (answer_unless w.tree q (accept 0 (tree_without_subtree w.tree (child_name w.tree r a.x0)))).tree
      go None e l = gone e l
      go (Some x) e l = members_same p w.tree
  members CountToMap o s' l =
      members_unless p w.tree (first_met (count_refusals w.tree r a.x0 a.x1)) _ (λ e. members_same p w.tree)
  members Prepare o s' l =
      members_unless p w.tree (first_met (count_refusals w.tree r a.x0 a.x1)) _ (λ e.
      prepared (child_name w.tree r a.x0) (vpage a.x1) _ _ (child_out w.tree s.tree p r n i out a.x0 o))
  members Collect o s' l =
      members_unless p w.tree (first_met (collect_refusals w.tree r a.x0 a.x1)) _ (λ e.
      members_changed p (child_name w.tree r a.x0) w.tree (without_table (dir (vpage a.x1))) _ (λ x. refl) (λ x. refl)
      (child_out w.tree s.tree p r n i out a.x0 o))
  members AddVAddr o s' l =
      members_unless p w.tree (first_met (add_refusals w.tree r a.x0 a.x1 a.x2 a.x3)) _ (λ e.
      members_changed p (child_name w.tree r a.x1) w.tree (with_row _) _ (λ x. refl) (λ x. refl)
      (child_out w.tree s.tree p r n i out a.x1 o))
  members RemoveVAddr o s' l =
      members_unless p w.tree (first_met (remove_refusals w.tree r a.x0 a.x1)) _ (λ e.
      members_changed p (child_name w.tree r a.x0) w.tree (without_row (vpage a.x1)) _ (λ x. refl) (λ x. refl)
      (child_out w.tree s.tree p r n i out a.x0 o))
  members MappedInChild o s' l =
      members_unless p w.tree (first_met (find_refusals w.tree r a.x0)) _ (λ e. members_same p w.tree)

  call_agrees : (c : MemoryCall) → NamesOther c p w.tree r a → IsWord a.x1 → AgreeTrees p w.tree (answer c w r a).tree
  call_agrees c o word =
      let k = (laws_of c).keeps w r a s.tree i in
      let s' = (laws_of c).sound w r a s.tree i word in
      agree w.tree (answer c w r a).tree p s.tree s' n (members c o s' k.leaves) (k.words word)

-- ---- what is written elsewhere

same_agrees : (p : ℕ) (t : Tree) → AgreeTrees p t t
same_agrees p t = record { to = λ x h. h; from = λ x h. h; words = λ g i j l. refl }

-- a mask that isn't of the subtree
mask_agrees : (p r : ℕ) (b : Bool) (t : Tree) → (In p (ancestry t r) → ⊥) → AgreeTrees p t (with_masked r b t)
mask_agrees p r b t out = record {
  to = changed_to (masked_node r b) (λ x. refl) (λ x. refl) t p same;
  from = changed_from (masked_node r b) (λ x. refl) (λ x. refl) t p same;
  words = λ g i j l. refl;
}
  where
    same : (x : Node) → In p (ancestry t x.name) → masked_node r b x ≡ x
    same x h = let q = ne_eqb x.name r (λ e. out (rw (← e) h)) in
        λ n. record x { masked = cond (q n) b x.masked }

-- a context that is saved to no page of p
save_agrees : (p : ℕ) (t : Tree) (c : Ctx) (q : Reached) → ((g i : ℕ) → q ≡ Place g i → In g (row_pages (node t p)) → ⊥)
    → AgreeTrees p t (saved_to t c q)
save_agrees p t c q apart = record {
  to = λ x h. h;
  from = λ x h. h;
  words = λ g i j l. saved_apart t c q g i
      (λ h k e z. apart h k e (rw z j));
}

-- a word that is stored to no page of p
word_agrees : (p : ℕ) (t : Tree) (g i x : ℕ) → (In g (row_pages (node t p)) → ⊥) → AgreeTrees p t (with_word t g i x)
word_agrees p t g i x apart = record {
  to = λ x h. h;
  from = λ x h. h;
  words = λ k j l b. rw (ne_eqb k g (λ z. apart (subst (λ v. In v (row_pages (node t p))) z l)));
}

-- ---- events

-- r, which is not of the guest, runs on the processor
module _ (w : World) (s : IsSoundWorld w) (p cpu : ℕ) (r : Occupant) (n : IsName w.tree p) (m : p ≢ w.tree.root.name)
    (k : runs_on w cpu ≡ Some r) (out : In p (ancestry w.tree r.name) → ⊥) where
  is_name : IsName w.tree r.name
  is_name = s.names_nodes r.name (runs_named w cpu r s k)

  before : (z : Occupant) → runs_on w cpu ≡ Some z → In p (ancestry w.tree z.name) → ⊥
  before z e h = let u : Some z ≡ Some r = cc in let d : z ≡ r = cc in
      out (rw (← d) h)

  -- another tree, which agrees, and what isn't of the guest either runs
  put : (t : Tree) (o : Option Occupant) → AgreeTrees p w.tree t
      → ((z : Occupant) → o ≡ Some z → In p (ancestry w.tree z.name) → ⊥)
      → IsSoundWorld (with_running (record w { tree = t }) cpu o)
      → Kept p w (with_running (record w { tree = t }) cpu o)
  put t o a off s' = kept_by p cpu w (with_running (record w { tree = t }) cpu o) s s' n a
      (λ i d. at_set_other o w.cpus cpu i d) before (λ z e h. off z (rw (← at_set_here o w.cpus cpu r k) e) h)

  -- r runs on
  on : (t : Tree) (c : Ctx) → AgreeTrees p w.tree t
      → IsSoundWorld (with_running (record w { tree = t }) cpu (Some (record r { ctx = c })))
      → Kept p w (with_running (record w { tree = t }) cpu (Some (record r { ctx = c })))
  on t c a s' = put t (Some (record r { ctx = c })) a (λ z e h.
      let d : record r { ctx = c } ≡ z = cc in
      out (rw (← d) at h)) s'

  still : (t : Tree) → AgreeTrees p w.tree t → IsSoundWorld (record w { tree = t }) → Kept p w (record w { tree = t })
  still t a s' = kept_by p cpu w (record w { tree = t }) s s' n a (λ i d. refl) before before

  delivered : (v a b : ℕ) → SavesApart p w r.name → IsSoundWorld (deliver w cpu r v a b).world
      → Kept p w (deliver w cpu r v a b).world
  delivered v a b apart s' = go (nearest_taker w r.name v) refl s'
    where
      saved : AgreeTrees p w.tree (save w.tree r.name 63 r.ctx)
      saved = save_agrees p w.tree r.ctx (save_place w.tree r.name 63) apart

      go : (o : Option Taker) → nearest_taker w r.name v ≡ o → IsSoundWorld (deliver_to w cpu r v a b o).world
          → Kept p w (deliver_to w cpu r v a b o).world
      go None q s' = put (save w.tree r.name 63 r.ctx) None saved (λ z e h. cc) s'
      go (Some y) q s' = put (save w.tree r.name 63 r.ctx)
          (Some (record { name = y.to; ctx = handler_context y.handler v a b y.born })) saved
          (λ z e h. let d : record { name = y.to; ctx = handler_context y.handler v a b y.born } ≡ z = cc in
          out (line_trans w.tree s.tree p y.to r.name
          (rw (← d) at h) (taker_in w r.name v y q))) s'

  -- a line is taken where r runs
  polled : SavesApart p w r.name → IsSoundWorld (poll w cpu (Some r)).world → Kept p w (poll w cpu (Some r)).world
  polled apart = go (may_take w cpu (Some r)) (lowest_line w w.tree.root.pending)
    where
      saved : AgreeTrees p w.tree (save w.tree r.name 63 r.ctx)
      saved = save_agrees p w.tree r.ctx (save_place w.tree r.name 63) apart

      line : (js : List ℕ) → AgreeTrees p w.tree
          (with_pending js (with_masked w.tree.root.name true (save_running w.tree (Some r))))
      line js =
          let a = entered_agrees (save_running w.tree (Some r)) p m (top_alone w.tree s.tree p) js in
          record { to = a.to; from = a.from; words = saved.words }

      take : (j : ℕ) (h : Option Ctx) → IsSoundWorld (take_line w cpu (Some r) j h).world
          → Kept p w (take_line w cpu (Some r) j h).world
      take j None s' = still w.tree (same_agrees p w.tree) s
      take j (Some c) s' = put _ (Some (record { name = w.tree.root.name; ctx = handler_context c (32 + j) 0 0 0 }))
          (line (filter (λ i. not (i == j)) w.tree.root.pending))
          (λ z e h. let d : record { name = w.tree.root.name; ctx = handler_context c (32 + j) 0 0 0 } ≡ z = cc in
          m (top_alone w.tree s.tree p (rw (← d) at h))) s'

      go : (b : Bool) (j : Option ℕ) → IsSoundWorld (cond b (poll_line w cpu (Some r) j) (none_taken w (Some r))).world
          → Kept p w (cond b (poll_line w cpu (Some r) j) (none_taken w (Some r))).world
      go false j s' = still w.tree (same_agrees p w.tree) s
      go true None s' = still w.tree (same_agrees p w.tree) s
      go true (Some j) s' = take j (handler w.tree w.tree.root.name (32 + j)) s'

  loaded : (va : ℕ) (c : Access) (z : Size) (q : Reached) → SavesApart p w r.name
      → IsSoundWorld (load_happens w cpu r va c z q).world → Kept p w (load_happens w cpu r va c z q).world
  loaded va c z (Place g i) apart s' = still w.tree (same_agrees p w.tree) s
  loaded va c z (Faulted f) apart s' =
      delivered (fault_vector f) va (16 * access_number c + fault_number f) apart s'

  stored_there : (va : ℕ) (z : Size) (x : ℕ) (q : Reached)
      → ((g i : ℕ) → q ≡ Place g i → In g (row_pages (node w.tree p)) → ⊥) → SavesApart p w r.name
      → IsSoundWorld (wrote w cpu r va z x q).world → Kept p w (wrote w cpu r va z x q).world
  stored_there va z x (Place g i) off apart s' =
      still (with_word w.tree g i _) (word_agrees p w.tree g i _ (off g i refl)) s'
  stored_there va z x (Faulted f) off apart s' =
      delivered (fault_vector f) va (16 * access_number Store + fault_number f) apart s'

  yielded : (a : Five) → YieldsApart p w r.name a → IsSoundWorld (yield w cpu r a).world
      → Kept p w (yield w cpu r a).world
  yielded a apart s' = go (first_met (yield_refusals w r.name a q)) (handler w.tree (node_name q) a.x1) s'
    where
      q : Option Node
      q = target_node w.tree r.name a.x0

      go : (o : Option Status) (h : Option Ctx)
          → IsSoundWorld (reply_unless w cpu r o (yield_happens w cpu r a (node_name q) h)).world
          → Kept p w (reply_unless w cpu r o (yield_happens w cpu r a (node_name q) h)).world
      go (Some st) h s' = on w.tree _ (same_agrees p w.tree) s'
      go None None s' = still w.tree (same_agrees p w.tree) s
      go None (Some c) s' = put (yielded_tree w.tree r a.x2) (Some (record { name = node_name q; ctx = c }))
          (yielded_agrees w.tree p a.x2 r s.tree m apart.saved)
          (λ z e h. let d : record { name = node_name q; ctx = c } ≡ z = cc in
          apart.target (rw (← d) at h)) s'

  called : (c : CallName) (a : Five) → CallsApart c p w r.name a → IsWord a.x1 → IsSoundWorld (call c w cpu r a).world
      → Kept p w (call c w cpu r a).world
  called (OnMemory c) a h word s' = on (answer c w r.name a).tree _
      (call_agrees w s p r.name n is_name out a c h word) s'
  called Yields a h word s' = yielded a h s'
  called (Masks b) a h word s' = on (with_masked r.name b w.tree) _ (mask_agrees p r.name b w.tree out) s'
  called Unknown a h word s' = on w.tree _ (same_agrees p w.tree) s'

-- what an event makes of the tree and the processors is what it makes of the world, but for the caches
with_own_caches : (w : World) (p : ℕ) (e : Event) → Kept p w (what_happens w e).world → Kept p w (event w e).world
with_own_caches w p e h = record {
  guest = assumption;
  name = h.name;
}

ancestors_kept : (w : World) (p : ℕ) (e : Event) (r : Occupant) → IsSoundWorld w → IsEvent e → IsName w.tree p
    → p ≢ w.tree.root.name → runs_on w (cpu_of e) ≡ Some r → (actor w e ≡ r.name)
    → (In p (ancestry w.tree r.name) → ⊥) → IsNoMatter p w e → Kept p w (what_happens w e).world
ancestors_kept w p (E.Load cpu va z) r s ev n m k d out h =
    let one = load_by w r cpu va z k in
    rw one (loaded w s p cpu r n m k out va Load z (reach w.tree r.name va Load z) (subst (SavesApart p w) d h)
    (subst (λ x. IsSoundWorld x.world) one (acted-sound w (E.Load cpu va z) s ev)))
ancestors_kept w p (E.Store cpu va z x) r s ev n m k d out h =
    let one = store_by w r cpu va z x k in
    rw one (stored_there w s p cpu r n m k out va z x (reach w.tree r.name va Store z)
    (subst (λ q. StoresApart p w q va z) d h.0) (subst (SavesApart p w) d h.1)
    (subst (λ x. IsSoundWorld x.world) one (acted-sound w (E.Store cpu va z x) s ev)))
ancestors_kept w p (E.Fetch cpu) r s ev n m k d out h =
    let one = fetch_by w r cpu k in
    rw one (loaded w s p cpu r n m k out r.ctx.pc Fetch Word (reach w.tree r.name r.ctx.pc Fetch Word)
    (subst (SavesApart p w) d h) (subst (λ x. IsSoundWorld x.world) one (acted-sound w (E.Fetch cpu) s ev)))
ancestors_kept w p (E.Trap cpu v a b) r s ev n m k d out h =
    let one = trap_by w r cpu v a b k in
    rw one (delivered w s p cpu r n m k out v a b (subst (SavesApart p w) d h)
    (subst (λ x. IsSoundWorld x.world) one (acted-sound w (E.Trap cpu v a b) s ev)))
ancestors_kept w p (E.Call cpu number a) r s ev n m k d out h =
    let one = call_by w r cpu number a k in
    rw one (called w s p cpu r n m k out (call_named number) a (subst (λ q. CallsApart (call_named number) p w q a) d h)
    ev.1.1.0 (subst (λ x. IsSoundWorld x.world) one (acted-sound w (E.Call cpu number a) s ev)))
ancestors_kept w p (E.Raise j) r s ev n m k d out h = absurd h
ancestors_kept w p (E.Poll cpu) r s ev n m k d out h =
    let one = ap (λ o. poll w cpu o) k in
    rw one (polled w s p cpu r n m k out (subst (SavesApart p w) d h)
    (subst (λ x. IsSoundWorld x.world) one (acted-sound w (E.Poll cpu) s ev)))
ancestors_kept w p (E.SetContext cpu c) r s ev n m k d out h =
    let one = set_by w r cpu c k in
    rw one (on w s p cpu r n m k out w.tree c (same_agrees p w.tree)
    (subst (λ x. IsSoundWorld x.world) one (acted-sound w (E.SetContext cpu c) s ev)))

pub ancestors_leave_guests_alone : AncestorsLeaveGuestsAlone
ancestors_leave_guests_alone w p e s ev n m i out h =
    let (r, k, d) = actor_runs w (actor w e) e s (own_line w.tree s.tree (actor w e) i) in
    let off : In p (ancestry w.tree r.name) → ⊥ = λ x. out (rw d x) in
    record {
      others = not_guests w p e out;
      same = (with_own_caches w p e (ancestors_kept w p e r s ev n m k d off h)).guest;
    }

pub ancestors_on_machines : AncestorsOnMachines
ancestors_on_machines m n e o p takes is w stands there not_root i out h =
    let (told, then) = takes w stands in
    let s = stands.bare.sound in
    ((event w e).world, then, (ancestors_leave_guests_alone w p e s is there not_root i out h).same)
