-- What a partition has again when its child is gone.
use Rattle.std.proofs.Common.{◌≡◌, ◌≢◌, ℕ, ◌==◌, ◌&&◌, ◌⊎◌, inl, inr, Bool, true, false, cond, List, [], ◌∷◌, refl, sym}
use Rattle.std.proofs.Common.{ap, ◌∙◌, subst, arith, eqb-true, Option, Some, None}
use Rattle.std.specs.Prelude.{◌+◌, ◌-◌, is_none, nat_le, nat_lt, unwrap_or, option_map}
use Rattle.pip_base.specs.declared.types.Ctx.{Ctx}
use Rattle.pip_model.specs.Handlers.{context_word, save_place, written_block}
use Rattle.pip_model.specs.Switching.{with_zeros, yield_place}
use Rattle.std.specs.List.{AllByRecursion}
use Rattle.pip_base.specs.declared.outcome.Outcome.{Outcome}
use Rattle.pip_base.specs.declared.outcome.Outcome.TheVariants as O
use Rattle.pip_base.specs.declared.outcome.Status.{Status}
use Rattle.pip_base.specs.declared.outcome.Status.TheVariants as S
use Rattle.pip_base.specs.declared.types.Access.TheVariants.{Store}
use Rattle.pip_model.specs.Answers.{Answer, Five, answer_unless, child_name, first_met, list_of}
use Rattle.pip_model.specs.Boot.{zero_words}
use Rattle.pip_model.specs.CreatePartition.{create_partition, create_refusals, tree_with_newborn, newborn}
use Rattle.pip_model.specs.DeletePartition.{delete_partition, delete_refusals, tree_without_subtree}
use Rattle.pip_model.specs.Events.{Event, IsEvent}
use Rattle.pip_model.specs.GiveBack.{AreFixed, HasRowsAgain, IsGivenBack, IsLife, IsReplyOk, creation, deletion}
use Rattle.pip_model.specs.GiveBack.{is_left, saved_by, saved_by_yield, word_after_store, word_after_store_by}
use Rattle.pip_model.specs.GiveBack.{words_after, words_after_all}
use Rattle.pip_model.specs.Happens.{after, call, call_happens, event, moments, on_running, written_over}
use Rattle.pip_model.specs.declared.call_name.MemoryCall.TheVariants.{CreatePartition, DeletePartition}
use Rattle.pip_model.specs.declared.call_name.CallName.{CallName}
use Rattle.pip_model.specs.declared.call_name.CallName.TheVariants.{OnMemory}
use Rattle.pip_model.specs.Lists.{In}
use Rattle.pip_model.specs.Poll.{occupant_name}
use Rattle.pip_model.specs.Reach.{Faulted, Place, Reached, reach}
use Rattle.pip_model.specs.Sound.{IsSound, IsWord}
use Rattle.pip_model.specs.Tree.{Node, Row, Tree, ancestry, child_at, children, free, held_pages, hidden, holder, holds}
use Rattle.pip_model.specs.Tree.{is_free_row, node, nodes, word_of}
use Rattle.pip_model.specs.Worlds.{IsSoundWorld, World, running, runs_on}
use Rattle.pip_model.specs.declared.processors.Occupant.{Occupant}
use Rattle.pip_model.specs.Events as E
use Rattle.pip_model.proofs.OnLists.Members.{In-filter_from, find_member, Rising-distinct, find_in, in_has, has_in}
use Rattle.pip_model.proofs.Trees.Ancestors.{name_in, parent_in, not_root}
use Rattle.pip_model.proofs.Trees.Free.{IsName, node_found, no_holder-unheld, passed}
use Rattle.pip_model.proofs.Events.Soundness.{event-sound, after-sound, runs_named, node_in}
use Rattle.pip_model.proofs.Calls.Create as C
use Rattle.pip_model.proofs.Calls.Create.{may_create}
use Rattle.pip_model.proofs.Calls.Delete as D
use Rattle.pip_model.proofs.Calls.Add.{child_found}
use Rattle.pip_model.proofs.Trees.Ancestry.{own_ancestry, named_node}
use Rattle.pip_model.proofs.Locality.OneEvent.{called_by, event-leaves}
use Rattle.pip_model.proofs.Calls.DeleteLaws.{deleted_words, gone_in}
use Rattle.pip_model.proofs.Events.Kept.{event-up, event-node, event-words}

-- a call that was answered was made by what runs
ok_runs : (k : CallName) (w : World) (cpu : ℕ) (a : Five) → IsReplyOk (call_happens k w cpu a).outcome
    → (r : Occupant) × (runs_on w cpu ≡ Some r)
ok_runs k w cpu a h = go (runs_on w cpu) refl h
  where
    go : (o : Option Occupant) → runs_on w cpu ≡ o → IsReplyOk (call_happens k w cpu a).outcome
        → (r : Occupant) × (runs_on w cpu ≡ Some r)
    go None e q = absurd (rw e at q)
    go (Some r) e q = (r, e)

-- where an answer is Ok, no condition is met
not_ok : (cs : List (Bool × Status)) → ((c : Bool × Status) → In c cs → c.1 ≡ S.Ok → ⊥) → (s : Status)
    → first_met cs ≡ Some s → s ≡ S.Ok → ⊥
not_ok [] h s e q = cc
not_ok (c ∷ cs) h s e q = go c.0 e (λ k. not_ok cs (λ z i. h z (inr i)) s k q)
  where
    go : (b : Bool) → cond b (Some c.1) (first_met cs) ≡ Some s → (first_met cs ≡ Some s → ⊥) → ⊥
    go true k ih = let d : c.1 ≡ s = cc in h c (inl refl) (cc)
    go false k ih = ih k

accepted : (t : Tree) (cs : List (Bool × Status)) (a : Answer) → ((c : Bool × Status) → In c cs → c.1 ≡ S.Ok → ⊥)
    → (answer_unless t (first_met cs) a).status ≡ S.Ok → first_met cs ≡ None
accepted t cs a h q = go (first_met cs) refl q
  where
    go : (o : Option Status) → first_met cs ≡ o → (answer_unless t o a).status ≡ S.Ok → o ≡ None
    go None e k = refl
    go (Some s) e k = absurd (not_ok cs h s e k)

refusal_not_ok : (t : Tree) (p : ℕ) (a : Five) (c : Bool × Status) → In c (create_refusals t p a) → c.1 ≡ S.Ok → ⊥
refusal_not_ok t p a c (inl e) q = let z : S.NotAligned ≡ S.Ok = cc in cc
refusal_not_ok t p a c (inr (inl e)) q = let z : S.NullPage ≡ S.Ok = cc in cc
refusal_not_ok t p a c (inr (inr (inl e))) q = let z : S.Repeated ≡ S.Ok = cc in cc
refusal_not_ok t p a c (inr (inr (inr (inl e)))) q = let z : S.NotMapped ≡ S.Ok = cc in cc
refusal_not_ok t p a c (inr (inr (inr (inr (inl e))))) q = let z : S.NotFree ≡ S.Ok = cc in cc
refusal_not_ok t p a c (inr (inr (inr (inr (inr (inl e)))))) q = let z : S.NoRight ≡ S.Ok = cc in
    cc
refusal_not_ok t p a c (inr (inr (inr (inr (inr (inr i)))))) q = i

delete_not_ok : (t : Tree) (rs : List ℕ) (p d : ℕ) (c : Bool × Status) → In c (delete_refusals t rs p d) → c.1 ≡ S.Ok
    → ⊥
delete_not_ok t rs p d c (inl e) q = let z : S.NotAligned ≡ S.Ok = cc in cc
delete_not_ok t rs p d c (inr (inl e)) q = let z : S.NullPage ≡ S.Ok = cc in cc
delete_not_ok t rs p d c (inr (inr (inl e))) q = let z : S.NotChild ≡ S.Ok = cc in cc
delete_not_ok t rs p d c (inr (inr (inr (inl e)))) q = let z : S.Running ≡ S.Ok = cc in cc
delete_not_ok t rs p d c (inr (inr (inr (inr i)))) q = i

-- a createPartition that answers Ok
record Made (w : World) (i : ℕ) (a : Five) (p : ℕ) : Type 0 where
  met : first_met (create_refusals w.tree p a) ≡ None
  tree : (creation w i a).world.tree ≡ tree_with_newborn w.tree p a
  rows : (node (creation w i a).world.tree p).rows ≡ (node w.tree p).rows
  name : IsName w.tree p

made_is : (w : World) (i : ℕ) (a : Five) (p : ℕ) → IsSoundWorld w → IsEvent (E.Call i 0 a)
    → occupant_name (runs_on w i) ≡ p → IsReplyOk (creation w i a).outcome → Made w i a p
made_is w i a p s ev n h =
    let (r, e) = ok_runs (OnMemory CreatePartition) w i a h in
    let q : r.name ≡ p = cc in
    let c = called_by (OnMemory CreatePartition) w i r a e in
    let st : (create_partition w.tree r.name a).status ≡ S.Ok = rw c at h in
    let m = accepted w.tree (create_refusals w.tree r.name a) (record {
      status = S.Ok;
      value = 0;
      tree = tree_with_newborn w.tree r.name a;
    }) (refusal_not_ok w.tree r.name a) st in
    let l = event-leaves w (E.Call i 0 a) r s ev (λ k. k) e in
    rw (← q) (record {
      met = m;
      tree = ap (λ y. y.world.tree) c ∙ ap
          (λ o. (answer_unless w.tree o (record {
            status = S.Ok;
            value = 0;
            tree =
                tree_with_newborn w.tree r.name a;
          })).tree) m;
      rows = sym (ap (λ z. z.rows) l.own);
      name =
          s.names_nodes r.name (runs_named w i r s e);
    })

-- a deletePartition that answers Ok
record Ended (w : World) (j : ℕ) (b : Five) (p : ℕ) : Type 0 where
  met : first_met (delete_refusals w.tree (running w) p b.x0) ≡ None
  tree : (deletion w j b).world.tree ≡ tree_without_subtree w.tree (child_name w.tree p b.x0)
  rows : (node (deletion w j b).world.tree p).rows ≡ (node w.tree p).rows

ended_is : (w : World) (j : ℕ) (b : Five) (p : ℕ) → IsSoundWorld w → IsEvent (E.Call j 1 b)
    → occupant_name (runs_on w j) ≡ p → IsReplyOk (deletion w j b).outcome → Ended w j b p
ended_is w j b p s ev n h =
    let (r, e) = ok_runs (OnMemory DeletePartition) w j b h in
    let q : r.name ≡ p = cc in
    let c = called_by (OnMemory DeletePartition) w j r b e in
    let st : (delete_partition w.tree (running w) r.name b.x0).status ≡ S.Ok = rw c at h in
    let m = accepted w.tree (delete_refusals w.tree (running w) r.name b.x0)
    (record { status = S.Ok; value = 0; tree = tree_without_subtree w.tree (child_name w.tree r.name b.x0) })
    (delete_not_ok w.tree (running w) r.name b.x0) st in
    let l = event-leaves w (E.Call j 1 b) r s ev (λ k. k) e in
    rw (← q) (record {
      met = m;
      tree = ap (λ y. y.world.tree) c ∙ ap
          (λ o. (answer_unless w.tree o (record {
            status = S.Ok;
            value = 0;
            tree =
                tree_without_subtree w.tree (child_name w.tree r.name b.x0);
          })).tree) m;
      rows =
          sym (ap (λ z. z.rows) l.own);
    })

-- moments
first_moment : (w : World) (es : List Event) → In w (moments w es)
first_moment w [] = inl refl
first_moment w (e ∷ es) = inl refl

last_moment : (w : World) (es : List Event) → In (after w es) (moments w es)
last_moment w [] = inl refl
last_moment w (e ∷ es) = inr (last_moment (event w e).world es)

-- a partition's parent is one
up_name : (t : Tree) → IsSound t → (x : Node) → In x (nodes t) → IsName t x.up
up_name t s x (inl e) =
    inl (ap (λ z. z.up) e ∙ ap (λ z. z.up) s.boot_root.same ∙ sym (ap (λ z. z.name) s.boot_root.same))
up_name t s x (inr i) = let (y, j, u) = parent_in t.root t.others s.parents_come_first x i in
    subst (IsName t) (sym u) (name_in y (nodes t) j)

parent_name : (t : Tree) (p c : ℕ) → IsSound t → IsName t c → (node t c).up ≡ p → IsName t p
parent_name t p c s n u = subst (IsName t) u (up_name t s (node t c) (node_found t c n).0)

-- between: c stays p's child, and p's rows stay
record Through (v u : World) (p c : ℕ) : Type 0 where
  up : (node u.tree c).up ≡ p
  rows : (node u.tree p).rows ≡ (node v.tree p).rows

through : (es : List Event) (w : World) (p c : ℕ) → IsSoundWorld w → AllByRecursion IsEvent es → ((v : World)
    → In v (moments w es) → IsName v.tree c) → AreFixed p w es → (node w.tree c).up ≡ p → Through w (after w es) p c
through [] w p c s ev l f u = record { up = u; rows = refl }
through (e ∷ es) w p c s ev l f u =
    let w' = (event w e).world in
    let s' = event-sound w e s ev.0 in
    let n = l w (inl refl) in
    let n' = l (event w e).world (inr (first_moment (event w e).world es)) in
    let u' : (node (event w e).world.tree c).up ≡ p = event-up w e c s n n' ∙ u in
    let k = event-node w e p s (parent_name w.tree p c s.tree n u)
    (parent_name (event w e).world.tree p c s'.tree n' u') f.0 in
    let r = through es (event w e).world p c s' ev.1 (λ v i. l v (inr i)) f.1 u' in
    record { up = r.up; rows = r.rows ∙ k.rows }

-- words, event by event
written_same : (c : Ctx) (g i : ℕ) (q : Reached) (old new : ℕ → ℕ) → old i ≡ new i
    → written_block c g q old i ≡ written_block c g q new i
written_same c g i (Place h k) old new e =
    rw e
written_same c g i (Faulted f) old new e = e

saved_same : (b : Bool) (w : World) (o : Option Occupant) (g i : ℕ) (old new : ℕ → ℕ) → old i ≡ new i
    → saved_by b w o g old i ≡ saved_by b w o g new i
saved_same true w (Some r) g i old new h = written_same r.ctx g i (save_place w.tree r.name 63) old new h
saved_same true w None g i old new h = h
saved_same false w o g i old new h = h

yield_same : (b : Bool) (w : World) (o : Option Occupant) (s g i : ℕ) (old new : ℕ → ℕ) → old i ≡ new i
    → saved_by_yield b w o s g old i ≡ saved_by_yield b w o s g new i
yield_same true w (Some r) s g i old new h = written_same (with_zeros r.ctx) g i (yield_place w.tree r.name s) old new h
yield_same true w None s g i old new h = h
yield_same false w o s g i old new h = h

words_same : (w : World) (e : Event) (g i : ℕ) (old new : ℕ → ℕ) → old i ≡ new i
    → words_after w e g old i ≡ words_after w e g new i
words_same w (E.Store cpu va z x) g i old new h =
    saved_same (is_left (event w (E.Store cpu va z x)).outcome) w (runs_on w cpu) g i _ _ (go (runs_on w cpu))
  where
    at : (q : Reached) → word_after_store va z x g q old i ≡ word_after_store va z x g q new i
    at (Place k j) = rw h
    at (Faulted f) = h

    go : (o : Option Occupant) → word_after_store_by w o va z x g old i ≡ word_after_store_by w o va z x g new i
    go None = h
    go (Some r) = at (reach w.tree r.name va Store z)
words_same w (E.Load cpu va z) g i old new h =
    saved_same (is_left (event w (E.Load cpu va z)).outcome) w (runs_on w cpu) g i old new h
words_same w (E.Fetch cpu) g i old new h =
    saved_same (is_left (event w (E.Fetch cpu)).outcome) w (runs_on w cpu) g i old new h
words_same w (E.Trap cpu k a b) g i old new h =
    saved_same (is_left (event w (E.Trap cpu k a b)).outcome) w (runs_on w cpu) g i old new h
words_same w (E.Poll cpu) g i old new h =
    saved_same (is_left (event w (E.Poll cpu)).outcome) w (runs_on w cpu) g i old new h
words_same w (E.Call cpu n a) g i old new h =
    yield_same (is_left (event w (E.Call cpu n a)).outcome) w (runs_on w cpu) a.x2 g i old new h
words_same w (E.Raise j) g i old new h = h
words_same w (E.SetContext cpu c) g i old new h = h

-- a call that answers Ok stores nothing
ok_stores : (w : World) (i n : ℕ) (a : Five) (g k : ℕ) (old : ℕ → ℕ) → IsReplyOk (event w (E.Call i n a)).outcome
    → words_after w (E.Call i n a) g old k ≡ old k
ok_stores w i n a g k old h = at (event w (E.Call i n a)).outcome h
  where
    at : (o : Outcome) → IsReplyOk o → saved_by_yield (is_left o) w (runs_on w i) a.x2 g old k ≡ old k
    at (O.Reply s v) h = refl
    at (O.Word v) h = refl
    at O.Done h = refl
    at (O.Switched from to v) h = absurd h
    at (O.Parked from v) h = absurd h
    at O.Idle h = refl

words_all_same : (es : List Event) (w : World) (g i : ℕ) (old new : ℕ → ℕ) → old i ≡ new i
    → words_after_all w es g old i ≡ words_after_all w es g new i
words_all_same [] w g i old new h = h
words_all_same (e ∷ es) w g i old new h = words_all_same es (event w e).world g i (words_after w e g old)
    (words_after w e g new) (words_same w e g i old new h)

words_through : (es : List Event) (w : World) (g i : ℕ) → IsSoundWorld w → AllByRecursion IsEvent es
    → ((v : World) → In v (moments w es) → hidden v.tree g ≡ false)
    → word_of ((after w es).tree.words g) i ≡ words_after_all w es g (word_of (w.tree.words g)) i
words_through [] w g i s ev h = refl
words_through (e ∷ es) w g i s ev h =
    words_through es (event w e).world g i (event-sound w e s ev.0) ev.1 (λ v j. h v (inr j))
    ∙ words_all_same es (event w e).world g i (word_of ((event w e).world.tree.words g))
    (words_after w e g (word_of (w.tree.words g)))
    (event-words w e g i s ev.0 (h w (inl refl)) (h (event w e).world (inr (first_moment (event w e).world es))))

-- free is that no child holds the page
free_at : (t : Tree) (p : ℕ) → IsSound t → IsName t p → (r : Row) → In r (node t p).rows
    → free t p r.at ≡ is_none (holder t p r.frame)
free_at t p s n r i = rw (find_member (λ r. r.at) r (node t p).rows
    (Rising-distinct 0 _ (s.pages_apart (node t p) (node_found t p n).0).places) i)

holder_case : (t : Tree) (p g : ℕ)
    → (holder t p g ≡ None) ⊎ ((x : Node) × In x t.others × (x.up ≡ p) × In g (held_pages x))
holder_case t p g = go (holder t p g) refl
  where
    go : (o : Option Node) → holder t p g ≡ o
        → (holder t p g ≡ None) ⊎ ((x : Node) × In x t.others × (x.up ≡ p) × In g (held_pages x))
    go None e = inl e
    go (Some x) e =
        let f = find_in (λ x. holds x g) x (children t p) e in
        let k = In-filter_from (λ x. x.up == p) x t.others f.0 in
        inr (x, k.0, eqb-true x.up p k.1, has_in g (held_pages x) f.1)

none_of : (o : Option Node) → is_none o ≡ true → o ≡ None
none_of None e = refl
none_of (Some x) e = cc

rows_again : (t0 t1 : Tree) (p c : ℕ) → IsSound t0 → IsSound t1 → IsName t0 p → IsName t1 p
    → (node t1 p).rows ≡ (node t0 p).rows → ((x : Node) → In x t0.others → x.name ≢ c)
    → ((x : Node) → In x t1.others → x.name ≢ c) → HasRowsAgain t0 t1 p c
rows_again t0 t1 p c s0 s1 n0 n1 e d0 d1 = record {
  rows = e;
  unheld = λ r i. (
    (λ f x j u d h.
        no_holder-unheld t1 p r.frame (none_of (holder t1 p r.frame) (rw (← free_at t1 p s1 n1 r i) f)) x j u h),
    (λ h. elim (holder_case t1 p r.frame) [
      | inl k ↦ rw (free_at t1 p s1 n1 r i, k)
      | inr (x, j, u, k) ↦ absurd (h x j u (d1 x j) k)
    ]),
  );
  again = λ r i f. elim (holder_case t1 p r.frame) [
    | inl k ↦ inl (rw (free_at t1 p s1 n1 r i, k))
    | inr (x, j, u, k) ↦ inr (x, j, u, d1 x j, k)
  ];
  only = λ r i f. elim (holder_case t0 p r.frame) [
    | inl k ↦ inl (rw (free_at t0 p s0 n0 r (subst (In r) e i), k))
    | inr (x, j, u, k) ↦ inr (x, j, u, d0 x j, k)
  ];
}

pub gives_back : (w : World) (i : ℕ) (a : Five) (es : List Event) (j : ℕ) (b : Five) (p c : ℕ) → IsSoundWorld w
    → AllByRecursion IsWord (list_of a) → AllByRecursion IsEvent es → AllByRecursion IsWord (list_of b) → IsLife w i a
    es j b p c → IsGivenBack w (creation w i a).world es (deletion (after (creation w i a).world es) j b).world.tree p c
gives_back w i a es j b p c s words evs words' l =
    let ev : IsEvent (E.Call i 0 a) = (omega arith, words) in
    let ev' : IsEvent (E.Call j 1 b) = (omega arith, words') in
    let m = made_is w i a p s ev l.maker l.makes in
    let may = may_create w.tree p a m.met in
    let sv = event-sound w (E.Call i 0 a) s ev in
    let u = after (creation w i a).world es in
    let su = after-sound (creation w i a).world es sv evs in
    let d = ended_is (after (creation w i a).world es) j b p su ev' l.ender l.ends in
    let st = event-sound (after (creation w i a).world es) (E.Call j 1 b) su ev' in
    let born : (node (creation w i a).world.tree c).up ≡ p =
    ap (λ t. (node t c).up) m.tree ∙ ap (λ z. z.up) (named_node (tree_with_newborn w.tree p a) c
    (C.with_newborn-sound w.tree p a s.tree m.name may) (newborn w.tree p a) (inr (inl refl)) l.child) in
    let th = through es (creation w i a).world p c sv evs l.lives l.fixed born in
    let nu = l.lives (after (creation w i a).world es) (last_moment (creation w i a).world es) in
    let np = parent_name (after (creation w i a).world es).tree p c su.tree nu th.up in
    let ot : c ≢ (after (creation w i a).world es).tree.root.name =
    not_top (after (creation w i a).world es) p c b su d l.same in
    let nt = runs_after (after (creation w i a).world es) j b p su ev' l.ender l.ends in
    let tr : (deletion (after (creation w i a).world es) j b).world.tree
    ≡ tree_without_subtree (after (creation w i a).world es).tree c =
    cc (d.tree, l.same) in
    record {
      rows = rows_again w.tree (deletion (after (creation w i a).world es) j b).world.tree p c s.tree st.tree m.name nt
          (d.rows ∙ th.rows ∙ m.rows)
          (λ x k e. C.fresh_name w.tree p a s.tree m.name may
          (subst (IsName w.tree) (cc (l.child)) (inr (name_in x w.tree.others k))))
          (λ x k e.
          let y = subst (λ t. In x (nodes t)) tr (inr k) in
          let f = D.left_stays (after (creation w i a).world es).tree c su.tree ot x y in
          let g = in_has c _ (rw e at (own_ancestry (after (creation w i a).world es).tree su.tree x
          (D.left_nodes (after (creation w i a).world es).tree c su.tree ot x y))) in
          grind (arith, f, g));
      cleared = record {
        zero = λ g x k h. rw (tr, in_has g _ (gone_in (after (creation w i a).world es).tree c g x k h));
        kept = λ g h h'. rw (tr, deleted_words (after (creation w i a).world es).tree c g h);
      };
      words = λ g k r small h.
          event-words (after (creation w i a).world es) (E.Call j 1 b) g k su ev'
          (h.between (after (creation w i a).world es) (last_moment (creation w i a).world es)) h.last
          ∙ ok_stores (after (creation w i a).world es) j 1 b g k
          (word_of ((after (creation w i a).world es).tree.words g)) l.ends
          ∙ words_through es (creation w i a).world g k sv evs h.between
          ∙ words_all_same es (creation w i a).world g k (word_of ((creation w i a).world.tree.words g))
          (word_of (w.tree.words g)) (event-words w (E.Call i 0 a) g k s ev h.first
          (h.between (creation w i a).world (first_moment (creation w i a).world es))
          ∙ ok_stores w i 0 a g k (word_of (w.tree.words g)) l.makes);
    }
  where
    -- the child that is named is no root
    not_top : (u : World) (p c : ℕ) (b : Five) → IsSoundWorld u → Ended u j b p → child_name u.tree p b.x0 ≡ c
        → c ≢ u.tree.root.name
    not_top u p c b su d e =
        go (child_at u.tree p b.x0) refl (passed (delete_refusals u.tree (running u) p b.x0) d.met S.NotChild) e
      where
        go : (o : Option Node) → child_at u.tree p b.x0 ≡ o → is_none o ≡ false
            → unwrap_or (option_map (λ x. x.name) (child_at u.tree p b.x0)) 0 ≡ c → c ≢ u.tree.root.name
        go None k z q = cc
        go (Some x) k z q = λ y. not_root u.tree su.tree x (child_found u.tree p b.x0 x k).0
            (rw (← y, ← q, k))

    -- p is still there
    runs_after : (u : World) (j : ℕ) (b : Five) (p : ℕ) → IsSoundWorld u → IsEvent (E.Call j 1 b)
        → occupant_name (runs_on u j) ≡ p → IsReplyOk (deletion u j b).outcome → IsName (deletion u j b).world.tree p
    runs_after u j b p su ev n h =
        let (r, e) = ok_runs (OnMemory DeletePartition) u j b h in
        let l = event-leaves u (E.Call j 1 b) r su ev (λ k. k) e in
        let f = node_found u.tree r.name (su.names_nodes r.name (runs_named u j r su e)) in
        subst (IsName (deletion u j b).world.tree) (sym (ap (λ z. z.name) l.own) ∙ f.1 ∙ sym (rw e)
        ∙ n) (name_in (node (deletion u j b).world.tree r.name) (nodes (deletion u j b).world.tree)
        (node_in (deletion u j b).world.tree r.name))
