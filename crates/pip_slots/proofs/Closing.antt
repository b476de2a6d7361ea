-- The last step of a slot: unless the root runs, it takes the processor back by line 0.
use Rattle.std.proofs.Common.{◌≡◌, ◌≢◌, ℕ, ◌≤◌, ◌==◌, ◌&&◌, ◌||◌, inl, inr, Bool, true, false, not, cond, List, []}
use Rattle.std.proofs.Common.{◌∷◌, length, refl, sym, ap, ◌∙◌, subst, Some, None, arith, eq-eqb}
use Rattle.std.specs.Prelude.{filter, is_some, nat_lt, slice_set}
use Rattle.std.proofs.lemmas.Bool.{cases_eq, false_from_ne_true, ne_eqb}
use Rattle.std.proofs.lemmas.Bool.Decides.{nat_tests}
use Rattle.pip_base.specs.declared.outcome.Outcome.TheVariants as O
use Rattle.pip_base.specs.declared.types.Ctx.{Ctx}
use Rattle.pip_model.specs.Acts.{Makes}
use Rattle.pip_model.specs.Cache.{Places}
use Rattle.pip_model.specs.Events as E
use Rattle.pip_model.specs.Handlers.{handler, save, save_place}
use Rattle.pip_model.specs.Happens.{caches_after, event, what_happens}
use Rattle.pip_model.specs.Poll.{lines_with, lowest_line, may_take, none_taken, occupant_name, poll, poll_line}
use Rattle.pip_model.specs.Poll.{runs_elsewhere, take_line}
use Rattle.pip_model.specs.Tree.{Node, Tree, node, nodes, on_nodes}
use Rattle.pip_model.specs.Worlds.{IsSoundWorld, World, handler_context, lines_in, masked_node, runs_on}
use Rattle.pip_model.specs.Worlds.{with_caches, with_masked, with_pending}
use Rattle.pip_model.specs.declared.processors.Occupant.{Occupant}
use Rattle.pip_model.proofs.OnLists.Members.{has_in}
use Rattle.pip_model.proofs.Events.Saves.{save_own}
use Rattle.pip_model.proofs.Events.Soundness.{at_cpu, event-sound, node_in, runs_named, saved-sound}
use Rattle.pip_model.proofs.Locality.OneEvent.{at_set_here, at_set_other, to_trees}
use Rattle.pip_model.proofs.Trees.Ancestors.{name_in}
use Rattle.pip_model.proofs.Trees.Ancestry.{node_on, root_is_one}
use Rattle.pip_model.proofs.Trees.Free.{IsName, node_found}
use Rattle.pip_guests.specs.Guests.{IsApart, IsSameGuest}
use Rattle.pip_guests.proofs.Elsewhere.{name_kept, others_leave_guests_alone, same_sym, same_trans}
use Rattle.pip_guests.proofs.Interrupts.{interrupts_are_inputs}
use Rattle.pip_guests.proofs.Lines.{line_alike, not_top}
use Rattle.pip_guests.proofs.Moves.{saved_leaves}
use Rattle.pip_guests.proofs.Taking.{trees}
use Rattle.pip_slots.specs.Slots.{IsBetweenSlots, closing, polling}
use Rattle.pip_native.specs.Watching.{root_runs}
use Rattle.pip_slots.proofs.Kids.{Kid, cpu_of_name}
use Rattle.pip_slots.proofs.Roots.{KeepsRoot, handles_some, keeps_masked, keeps_pending, keeps_trans, leaves_keeps}
use Rattle.pip_slots.proofs.Roots.{takes_kept}
use Rattle.pip_slots.proofs.Ready.{Ready}
use Rattle.pip_slots.proofs.Own.{Both, below_of, both_kid, both_same, both_tops}
use Rattle.pip_slots.proofs.Walk.{Walked, not_root_runs, walked_by}

-- the world after line 0 is raised, and after the poll that takes it
abbrev pub raised : World → World
raised w = (event w (E.Raise 0)).world

abbrev pub taken : World → World
taken w = (event (raised w) (E.Poll 0)).world

-- a child of the root stays one where nodes change in other ways
kid_on : (f : Node → Node) → ((x : Node) → (f x).name ≡ x.name) → ((x : Node) → (f x).up ≡ x.up)
    → ((x : Node) → (f x).born ≡ x.born) → (d p : ℕ) (t : Tree) → Kid d p t → Kid d p (on_nodes f t)
kid_on f names ups borns d p t k =
    let n = node_on f names t p in
    let u = on_nodes f t in
    record {
      name = subst (IsName u) (rw (n, names (node t p), (node_found t p k.name).1))
          (name_in (node u p) (nodes u) (node_in u p));
      up = rw (n, ups (node t p), k.up) (sym (names t.root));
      born = rw (n, borns (node t p), k.born);
      low = λ e. k.low (e ∙ names t.root);
    }

kid_save : (d p : ℕ) (t : Tree) (n k : ℕ) (c : Ctx) → Kid d p t → Kid d p (save t n k c)
kid_save d p t n k c h = assumption

lt_pos : (n : ℕ) → 1 ≤ n → nat_lt 0 n ≡ true
lt_pos n h = grind (arith, nat_tests, h)

both_true : (b : Bool) → ((not b || true) && true) ≡ true
both_true true = refl
both_true false = refl

-- ---- one world

module _ (w : World) (r : Occupant) (y : Ready w) (k : runs_on w 0 ≡ Some r) (m : r.name ≢ w.tree.root.name) where
  top : ℕ
  top = w.tree.root.name

  raised_pending : (raised w).tree.root.pending ≡ 0 ∷ []
  raised_pending = rw (eq-eqb w.tree.root.name w.tree.root.name refl, y.quiet)

  raised_sound : IsSoundWorld (raised w)
  raised_sound = event-sound w (E.Raise 0) y.sound (omega arith)

  raised_keeps : KeepsRoot w.tree (raised w).tree
  raised_keeps = keeps_pending w.tree (lines_with 0 w.tree.root.pending)

  -- the root has a handler of line 0
  line_handled : (c : Ctx) × (handler (raised w).tree w.tree.root.name 32 ≡ Some c)
  line_handled = handles_some (raised w).tree 32
      (takes_kept w.tree (raised w).tree y.sound.tree raised_sound.tree raised_keeps y.takes 32 (omega arith))

  alone_there : runs_elsewhere (raised w) 0 w.tree.root.name ≡ false
  alone_there = false_from_ne_true _
      (λ z. go (cpu_of_name (slice_set w.cpus 0 None) w.tree.root.name (has_in w.tree.root.name _ z)))
    where
      go : (i : ℕ) × (q : Occupant) × (at_cpu (slice_set w.cpus 0 None) i ≡ Some q) × (q.name ≡ w.tree.root.name) → ⊥
      go (i, q, e, d) = elim (cases_eq i 0) [
        | inl z ↦
            let one = sym (at_set_here None w.cpus 0 r k)
            ∙ subst (λ i. at_cpu (slice_set w.cpus 0 None) i ≡ Some q) z e in cc
        | inr z ↦ let one = sym (sym (at_set_other None w.cpus 0 i z) ∙ e) ∙ y.alone i z in cc
      ]

  may : may_take (raised w) 0 (Some r) ≡ true
  may =
      rw (
        alone_there,
        ne_eqb r.name w.tree.root.name m,
        lt_pos (length w.cpus) y.sound.at_least_one,
        both_true
            (raised w).tree.root.masked,
      )

  poll_is : what_happens (raised w) (E.Poll 0) ≡ take_line (raised w) 0 (Some r) 0 (Some line_handled.0)
  poll_is =
      ap (poll (raised w) 0) k
      ∙ ap (λ b. cond b (poll_line (raised w) 0 (Some r) (lowest_line (raised w) (raised w).tree.root.pending))
      (none_taken (raised w) (Some r))) may
      ∙ ap (λ js. poll_line (raised w) 0 (Some r) (lowest_line (raised w) js)) raised_pending
      ∙ ap (λ b. poll_line (raised w) 0 (Some r) (cond b (Some 0) None)) (ap is_some line_handled.1)
      ∙ ap (take_line (raised w) 0 (Some r) 0) line_handled.1

  -- what is saved, and the tree with it
  saved : Tree
  saved = save (raised w).tree r.name 63 r.ctx

  saved_keeps : KeepsRoot (raised w).tree (save (raised w).tree r.name 63 r.ctx)
  saved_keeps =
      let n = raised_sound.names_nodes r.name (runs_named (raised w) 0 r raised_sound k) in
      leaves_keeps (raised w).tree (save (raised w).tree r.name 63 r.ctx) r.name raised_sound.tree
      (saved-sound (raised w).tree r.ctx (save_place (raised w).tree r.name 63) (y.sound.contexts 0 r k)
      raised_sound.tree) n m
      (saved_leaves (raised w).tree r.name r.ctx (save_place (raised w).tree r.name 63)
      (save_own (raised w).tree r.name 63))

  record Closed (u : World) : Type 0 where
    root : root_runs u ≡ true
    alone : (i : ℕ) → i ≢ 0 → runs_on u i ≡ None
    quiet : u.tree.root.pending ≡ []
    keeps : KeepsRoot w.tree u.tree
    kid : (d p : ℕ) → Kid d p w.tree → Kid d p u.tree

  closed_by : (cs : List Places) (c : Ctx)
      → Closed (with_caches cs (take_line (raised w) 0 (Some r) 0 (Some c))).world
  closed_by cs c =
      let x : Occupant = record { name = w.tree.root.name; ctx = handler_context c 32 0 0 0 } in
      let js = filter (λ i. not (i == 0)) (raised w).tree.root.pending in
      let t = save (raised w).tree r.name 63 r.ctx in
      let t1 = with_masked w.tree.root.name true t in
      let u = (with_caches cs (take_line (raised w) 0 (Some r) 0 (Some c))).world in
      record {
        root = rw (at_set_here (Some x) w.cpus 0 r k, eq-eqb w.tree.root.name w.tree.root.name refl);
        alone = λ i h. at_set_other (Some x) w.cpus 0 i h ∙ y.alone i h;
        quiet = ap (λ b. cond b js (raised w).tree.root.pending) (eq-eqb w.tree.root.name w.tree.root.name refl)
            ∙ ap (filter (λ i. not (i == 0))) raised_pending;
        keeps = keeps_trans w.tree (raised w).tree (with_pending js t1) raised_keeps
            (keeps_trans (raised w).tree t (with_pending js t1) saved_keeps
            (keeps_trans t t1 (with_pending js t1) (keeps_masked t w.tree.root.name true) (keeps_pending t1 js)));
        kid = λ d p h. kid_on (lines_in w.tree.root.name js) (λ x. refl) (λ x. refl) (λ x. refl) d p t1
            (kid_on (masked_node w.tree.root.name true) (λ x. refl) (λ x. refl) (λ x. refl) d p t
            (kid_save d p (raised w).tree r.name 63 r.ctx
            (kid_on (lines_in w.tree.root.name (lines_with 0 w.tree.root.pending)) (λ x. refl) (λ x. refl) (λ x. refl)
            d p w.tree h)));
      }

  closed : Closed (taken w)
  closed = rw poll_is (closed_by (caches_after (raised w) (E.Poll 0)) line_handled.0)

  pub closed_outcome : (event (raised w) (E.Poll 0)).outcome ≡ O.Switched r.name w.tree.root.name 32
  closed_outcome = rw poll_is

  pub closed_sound : IsSoundWorld (taken w)
  closed_sound = event-sound (raised w) (E.Poll 0) raised_sound tt

  pub closed_between : IsBetweenSlots (taken w)
  closed_between = record {
    sound = closed_sound;
    root = closed.root;
    alone = closed.alone;
    quiet = closed.quiet;
    takes = takes_kept w.tree (taken w).tree y.sound.tree closed_sound.tree closed.keeps y.takes;
  }

  pub closed_kid : (d p : ℕ) → Kid d p w.tree → Kid d p (taken w).tree
  closed_kid d p h = closed.kid d p h

-- where the root runs at the end of a slot, nothing has to be taken
pub between_ready : (w : World) → Ready w → root_runs w ≡ true → IsBetweenSlots w
between_ready w y e = assumption

-- ---- two worlds that have the child in common

-- between two slots
pub record Slotted (d p : ℕ) (w v : World) : Type 0 where
  pub left : IsBetweenSlots w
  pub right : IsBetweenSlots v
  pub kid : Kid d p w.tree
  pub guest : IsSameGuest p w v

-- a line that is raised leaves the guest the same
pub raise_apart : (d p : ℕ) (w : World) → IsSoundWorld w → Kid d p w.tree → IsApart p w (E.Raise 0)
raise_apart d p w s kid = others_leave_guests_alone w p (E.Raise 0) s (omega arith) kid.name kid.low tt

-- and so in two worlds
pub raised_same : (d p : ℕ) (w v : World) → IsSoundWorld w → IsSoundWorld v → Kid d p w.tree → Kid d p v.tree
    → IsSameGuest p w v → IsSameGuest p (raised w) (raised v)
raised_same d p w v s s' kid kid' g =
    let a = raise_apart d p w s kid in
    let b = raise_apart d p v s' kid' in
    let sw = event-sound w (E.Raise 0) s (omega arith) in
    let sv = event-sound v (E.Raise 0) s' (omega arith) in
    let n = name_kept w (raised w) p s sw kid.name a.same in
    same_trans p (raised w) w (raised v) sw s sv n (same_sym p w (raised w) s sw kid.name a.same)
    (same_trans p w v (raised v) s s' sv kid.name g b.same)

pub own_closed : (d p t : ℕ) (w v : World) → Both d p w v → Walked (Slotted d p) w v (closing w t) (closing v t)
own_closed d p t w v b = go (root_runs w) refl
  where
    go : (x : Bool) → root_runs w ≡ x → Walked (Slotted d p) w v (closing w t) (closing v t)
    go true e = walked_by (Slotted d p) w v [] [] (closing w t) (closing v t)
        (rw e)
        (rw (← both_tops d p w v b, e)) (record {
          acts = refl;
          next = record {
            left = between_ready w b.left e;
            right = between_ready v b.right (rw (← both_tops d p w v b) e);
            kid = b.kid;
            guest = b.guest;
          };
        })
    go false e =
        let (r, k) = b.left.runs in
        let m = not_root_runs w r e k in
        let s = b.left.sound in
        let s' = b.right.sound in
        let k' = both_same d p w v b r k m in
        let m' = not_top w.tree v.tree s.tree s'.tree r.name m in
        let kid' = both_kid d p w v b in
        let sw = event-sound w (E.Raise 0) s (omega arith) in
        let sv = event-sound v (E.Raise 0) s' (omega arith) in
        let h = below_of d p w v b r k m in
        let h' = line_alike w.tree v.tree p s.tree s'.tree (trees w v p s s' b.guest) r.name h in
        let a = raise_apart d p w s b.kid in
        let a' = raise_apart d p v s' kid' in
        let hr = line_alike w.tree (raised w).tree p s.tree sw.tree (to_trees p w (raised w) a.same.below) r.name h in
        let hr' = line_alike v.tree (raised v).tree p s'.tree sv.tree (to_trees p v (raised v) a'.same.below) r.name h'
        in
        let one = closed_outcome w r b.left k m in
        let two = closed_outcome v r b.right k' m' in
        let tops : w.tree.root.name ≡ v.tree.root.name = cc (root_is_one w.tree s.tree, root_is_one v.tree s'.tree) in
        let both : (event (raised w) (E.Poll 0)).outcome ≡ (event (raised v) (E.Poll 0)).outcome = rw
        (one, tops, ← two) in
        let i = interrupts_are_inputs (raised w) (raised v) p 0 32 32 sw sv b.kid.low
        (raised_same d p w v s s' b.kid kid' b.guest) (record {
          below = rw k hr;
          taken = one ∙ ap (λ o. O.Switched (occupant_name o) w.tree.root.name 32) (sym k);
        }) (record {
          below = rw k' hr';
          taken = two ∙ ap (λ o. O.Switched (occupant_name o) v.tree.root.name 32) (sym k');
        }) in
        walked_by (Slotted d p) w v (Makes (E.Raise 0) ∷ polling (raised w) t) (Makes (E.Raise 0) ∷ polling (raised v)
        t)
        (closing w t) (closing v t)
        (rw e)
        (rw (← both_tops d p w v b, e)) (record {
          acts = rw both;
          next = record {
            left = closed_between w r b.left k m;
            right = closed_between v r b.right k' m';
            kid = closed_kid w r b.left k m d p b.kid;
            guest = i.guest;
          };
        })
