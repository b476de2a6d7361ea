-- One event of p: what it leaves alone, and that it depends on nothing but what is below p.
use Rattle.std.proofs.Common.{◌≡◌, ◌≢◌, ℕ, zero, suc, ◌+◌, ◌*◌, ◌<◌, ◌%◌, ◌/◌, ◌==◌, Bool, true, false, not, cond, List}
use Rattle.std.proofs.Common.{[], ◌∷◌, length, refl, sym, ap, ◌∙◌, subst, Option, Some, None}
use Rattle.std.specs.Prelude.{slice_set, bit_and}
use Rattle.std.proofs.Math.ListN.{length-set}
use Rattle.pip_base.specs.declared.types.Access.{Access}
use Rattle.pip_base.specs.declared.types.Access.TheVariants.{Load, Store, Fetch}
use Rattle.pip_base.specs.declared.types.Size.{Size}
use Rattle.pip_base.specs.declared.types.Size.TheVariants.{Word}
use Rattle.pip_base.specs.declared.outcome.Outcome.TheVariants as O
use Rattle.pip_base.specs.Status.{status_number}
use Rattle.pip_base.specs.declared.outcome.Status.TheVariants as S
use Rattle.pip_model.specs.Answers.{Answer, Five, accept, refuse}
use Rattle.pip_model.specs.Deliver.{deliver, deliver_to, nearest_taker}
use Rattle.pip_model.specs.declared.processors.Taker.{Taker}
use Rattle.pip_model.specs.Events.{Event, IsEvent}
use Rattle.pip_model.specs.Happens.{IsSwitching, access_number, what_happens, answer, caches_after, call, call_named}
use Rattle.pip_model.specs.Happens.{call_happens, event, fault_number, fault_vector, load_happens, on_running, read_of}
use Rattle.pip_model.specs.Happens.{with_word, written_over, wrote}
use Rattle.pip_model.specs.declared.call_name.MemoryCall.TheVariants.{DeletePartition}
use Rattle.pip_model.specs.declared.call_name.CallName.{CallName}
use Rattle.pip_model.specs.declared.call_name.CallName.TheVariants.{Masks, OnMemory, Unknown, Yields}
use Rattle.pip_model.specs.Lists.{In, has}
use Rattle.pip_model.specs.Local.{AgreeBelow, Succeeded, IsBelow, IsDeletion, IsPlain, IsSameAgain, LeavesOthers}
use Rattle.pip_model.specs.Local.{SameRun, but_reply, cpu_of}
use Rattle.pip_model.specs.Reach.{Alignment, Faulted, Hidden, Place, Reached, Right, is_misaligned, reach, right}
use Rattle.pip_model.specs.Reach.{reach_by_row}
use Rattle.pip_model.specs.Sound.{IsSound}
use Rattle.pip_model.specs.Switching.{reply_happens, with_reply}
use Rattle.pip_model.specs.Tree.{Row, Tree, ancestry, hidden, node, nodes, row_at, row_pages, vpage, word_of}
use Rattle.pip_model.specs.Cache.{Places}
use Rattle.pip_model.specs.Worlds.{with_caches, with_masked, Happened, IsSoundWorld, World, running, runs_on}
use Rattle.pip_model.specs.declared.processors.Occupant.{Occupant}
use Rattle.pip_model.specs.Events as E
use Rattle.pip_model.proofs.OnLists.Members.{In-map, has_in, find_in}
use Rattle.pip_model.proofs.Trees.Ancestors.{name_in}
use Rattle.pip_model.proofs.Trees.Free.{IsName, node_found, tests_agree}
use Rattle.pip_model.proofs.Trees.Numbers.{reached_small}
use Rattle.pip_model.proofs.Events.Soundness.{acted-sound, node_in, names_at, at_cpu, runs_named}
use Rattle.pip_model.proofs.Calls.Table.{laws_of}
use Rattle.pip_model.proofs.Locality.Agree.{AgreeTrees, AgreeAnswers, Agreeing, hidden_below, node_same, mask-agrees}
use Rattle.pip_model.proofs.Locality.Leaves.{LeavesTree, leaves_same, mask-leaves, store-leaves, reach_kept}

-- processors that were set
pub at_set_other : (o : Option Occupant) (cs : List (Option Occupant)) (i j : ℕ) → j ≢ i
    → at_cpu (slice_set cs i o) j ≡ at_cpu cs j
at_set_other o [] i j n = refl
at_set_other o (c ∷ cs) zero zero n = absurd (n refl)
at_set_other o (c ∷ cs) zero (suc j) n = refl
at_set_other o (c ∷ cs) (suc i) zero n = refl
at_set_other o (c ∷ cs) (suc i) (suc j) n = at_set_other o cs i j (λ e. n (rw e))

pub at_set_here : (o : Option Occupant) (cs : List (Option Occupant)) (i : ℕ) (r : Occupant) → at_cpu cs i ≡ Some r
    → at_cpu (slice_set cs i o) i ≡ o
at_set_here o [] i r e = cc
at_set_here o (c ∷ cs) zero r e = refl
at_set_here o (c ∷ cs) (suc i) r e = at_set_here o cs i r e

pub names_set : (cs : List (Option Occupant)) (i : ℕ) (r q : Occupant) → at_cpu cs i ≡ Some r → q.name ≡ r.name
    → names_at (slice_set cs i (Some q)) ≡ names_at cs
names_set [] i r q e n = refl
names_set (None ∷ cs) zero r q e n = cc
names_set (Some c ∷ cs) zero r q e n = let k : c ≡ r = cc in let h : q.name ≡ c.name = rw (n, ← k) in
    rw h
names_set (None ∷ cs) (suc i) r q e n = names_set cs i r q e n
names_set (Some c ∷ cs) (suc i) r q e n = rw (names_set cs i r q e n)

pub own_name : (p : ℕ) (t u : Tree) → LeavesTree p t u → IsName t p → IsName u p
own_name p t u l n =
    subst (IsName u) (sym (ap (λ z. z.name) l.own) ∙ (node_found t p n).1) (name_in (node u p) (nodes u) (node_in u p))

world_leaves : (w v : World) (cpu : ℕ) (r : Occupant) → IsSoundWorld w → IsSoundWorld v → runs_on w cpu ≡ Some r
    → LeavesTree r.name w.tree v.tree → ((i : ℕ) → i ≢ cpu → runs_on v i ≡ runs_on w i) → but_reply (runs_on v cpu)
    ≡ but_reply (runs_on w cpu) → length v.cpus ≡ length w.cpus → LeavesOthers r.name cpu w v
world_leaves w v cpu r s s' e l c b k =
    let n = s.names_nodes r.name (runs_named w cpu r s e) in
    record {
      outside = l.outside;
      own = l.own;
      words = l.words;
      cpus = c;
      cpu = b;
      count = k;
      reach = λ q va a z h.
          reach_kept w.tree v.tree r.name s.tree s'.tree n (own_name r.name w.tree v.tree l n) l q h va a z;
    }

same_leaves : (w : World) (cpu : ℕ) (r : Occupant) → IsSoundWorld w → runs_on w cpu ≡ Some r
    → LeavesOthers r.name cpu w w
same_leaves w cpu r s e = world_leaves w w cpu r s s e (leaves_same r.name w.tree) (λ i n. refl) refl refl

-- a call that does not switch is replied to, and leaves the others alone
pub replied_to : (k : CallName) (w : World) (cpu : ℕ) (r : Occupant) (a : Five) → (IsSwitching k → ⊥) → IsSoundWorld w
    → runs_on w cpu ≡ Some r → (b : Answer) × (call k w cpu r a ≡ reply_happens w cpu r b)
    × LeavesTree r.name w.tree b.tree
replied_to (OnMemory k) w cpu r a h s e =
    let n = s.names_nodes r.name (runs_named w cpu r s e) in
    (answer k w r.name a, refl, ((laws_of k).keeps w r.name a s.tree n).leaves)
replied_to Yields w cpu r a h s e = absurd (h tt)
replied_to (Masks b) w cpu r a h s e = (
  accept 0 (with_masked r.name b w.tree),
  refl,
  mask-leaves w.tree r.name s.tree (s.names_nodes r.name (runs_named w cpu r s e)) b,
)
replied_to Unknown w cpu r a h s e = (refuse w.tree S.UnknownCall, refl, leaves_same r.name w.tree)

pub called_by : (k : CallName) (w : World) (cpu : ℕ) (r : Occupant) (a : Five) → runs_on w cpu ≡ Some r
    → call_happens k w cpu a ≡ call k w cpu r a
called_by k w cpu r a e = rw e

-- an event that was answered was not delivered
pub deliver-fails : (w : World) (cpu : ℕ) (r : Occupant) (k a b : ℕ) → Succeeded (deliver w cpu r k a b).outcome → ⊥
deliver-fails w cpu r k a b h = go (nearest_taker w r.name k) h
  where
    go : (o : Option Taker) → Succeeded (deliver_to w cpu r k a b o).outcome → ⊥
    go None h = h
    go (Some y) h = h

-- a page that is reached is in a row
pub reached_row : (t : Tree) (p va g i : ℕ) (a : Access) (z : Size) → reach t p va a z ≡ Place g i
    → In g (row_pages (node t p))
reached_row t p va g i a z e = off (is_misaligned va z) (row_at (node t p).rows (vpage va)) refl e
  where
    at : (r : Row) (h f : Bool) → In r (node t p).rows → cond h (Faulted Hidden)
        (cond f (Faulted Right) (Place r.frame (va % 4096 / 4))) ≡ Place g i → In g (row_pages (node t p))
    at r true f k q = cc
    at r false true k q = cc
    at r false false k q = let u : r.frame ≡ g = cc in
        rw (← u) (In-map (λ r. r.frame) r (node t p).rows k)

    off : (b : Bool) (o : Option Row) → row_at (node t p).rows (vpage va) ≡ o
        → cond b (Faulted Alignment) (reach_by_row t va a o) ≡ Place g i → In g (row_pages (node t p))
    off true o k q = cc
    off false None k q = cc
    off false (Some r) k q = at r (hidden t r.frame) (not (bit_and (right a) r.rights == right a))
        (find_in (λ r. r.at == vpage va) r (node t p).rows k).0 q

reply_hides : (s v : ℕ) (rs : List ℕ) → with_reply 0 0 (with_reply s v rs) ≡ with_reply 0 0 rs
reply_hides s v [] = refl
reply_hides s v (a ∷ []) = refl
reply_hides s v (a ∷ b ∷ rs) = refl

replied-leaves : (w : World) (cpu : ℕ) (r : Occupant) (a : Answer) → IsSoundWorld w
    → IsSoundWorld (reply_happens w cpu r a).world → runs_on w cpu ≡ Some r → LeavesTree r.name w.tree a.tree
    → LeavesOthers r.name cpu w (reply_happens w cpu r a).world
replied-leaves w cpu r a s s' e l = world_leaves w (reply_happens w cpu r a).world cpu r s s' e l
    (λ i n. at_set_other _ w.cpus cpu i n)
    (ap but_reply (at_set_here _ w.cpus cpu r e) ∙ (let h = reply_hides (status_number a.status) a.value r.ctx.regs in
    λ i. Some (record r { ctx = record r.ctx { regs = h i } })) ∙ sym (rw e))
    (length-set w.cpus cpu _)

pub loaded_world : (w : World) (cpu : ℕ) (r : Occupant) (va : ℕ) (a : Access) (z : Size) (q : Reached)
    → Succeeded (load_happens w cpu r va a z q).outcome → (load_happens w cpu r va a z q).world ≡ w
loaded_world w cpu r va a z (Place g i) h = refl
loaded_world w cpu r va a z (Faulted f) h =
    absurd (deliver-fails w cpu r (fault_vector f) va (16 * access_number a + fault_number f) h)

wrote-leaves : (w : World) (cpu va : ℕ) (r : Occupant) (z : Size) (x : ℕ) (q : Reached) → IsSoundWorld w
    → IsSoundWorld (wrote w cpu r va z x q).world → runs_on w cpu ≡ Some r → reach w.tree r.name va Store z ≡ q
    → Succeeded (wrote w cpu r va z x q).outcome → LeavesOthers r.name cpu w (wrote w cpu r va z x q).world
wrote-leaves w cpu va r z x (Place g i) s s' e h k =
    world_leaves w _ cpu r s s' e (store-leaves w.tree r.name s.tree (s.names_nodes r.name (runs_named w cpu r s e)) g i
    _ (reached_row w.tree r.name va g i Store z h)) (λ i n. refl) refl refl
wrote-leaves w cpu va r z x (Faulted f) s s' e h k =
    absurd (deliver-fails w cpu r (fault_vector f) va (16 * access_number Store + fault_number f) k)

-- the first half of the law
acted-leaves : (w : World) (e : Event) (r : Occupant) → IsSoundWorld w → IsEvent e → IsPlain w e
    → runs_on w (cpu_of e) ≡ Some r → LeavesOthers r.name (cpu_of e) w (what_happens w e).world
acted-leaves w (E.Load cpu va z) r s v h e =
    let k : Succeeded (load_happens w cpu r va Load z (reach w.tree r.name va Load z)).outcome = rw e at h in
    rw (e, loaded_world w cpu r va Load z (reach w.tree r.name va Load z) k) (same_leaves w cpu r s e)
acted-leaves w (E.Fetch cpu) r s v h e =
    let k : Succeeded (load_happens w cpu r r.ctx.pc Fetch Word (reach w.tree r.name r.ctx.pc Fetch Word)).outcome =
    rw e at h in
    subst (LeavesOthers r.name cpu w) (sym (ap (λ o. (on_running w cpu o
    (λ r. load_happens w cpu r r.ctx.pc Fetch Word (reach w.tree r.name r.ctx.pc Fetch Word))).world) e ∙ loaded_world w
    cpu r r.ctx.pc Fetch Word (reach w.tree r.name r.ctx.pc Fetch Word) k)) (same_leaves w cpu r s e)
acted-leaves w (E.Store cpu va z x) r s v h e =
    let q : what_happens w (E.Store cpu va z x) ≡ wrote w cpu r va z x (reach w.tree r.name va Store z) =
    rw e in
    let k = subst (λ y. Succeeded y.outcome) q h in
    let s' = subst (λ y. IsSoundWorld y.world) q (acted-sound w (E.Store cpu va z x) s v) in
    rw q (wrote-leaves w cpu va r z x (reach w.tree r.name va Store z) s s' e refl k)
acted-leaves w (E.Call cpu number a) r s v h e =
    let (b, c, l) = replied_to (call_named number) w cpu r a h s e in
    let q = called_by (call_named number) w cpu r a e ∙ c in
    let s' = subst (λ y. IsSoundWorld y.world) q (acted-sound w (E.Call cpu number a) s v) in
    rw q (replied-leaves w cpu r b s s' e l)
acted-leaves w (E.Trap cpu k a b) r s v h e = absurd h
acted-leaves w (E.Raise j) r s v h e = absurd h
acted-leaves w (E.Poll cpu) r s v h e = absurd h
acted-leaves w (E.SetContext cpu c) r s v h e = absurd h

pub event-leaves : (w : World) (e : Event) (r : Occupant) → IsSoundWorld w → IsEvent e → IsPlain w e
    → runs_on w (cpu_of e) ≡ Some r → LeavesOthers r.name (cpu_of e) w (event w e).world
event-leaves w e r s v h f =
    let l = acted-leaves w e r s v h f in
    assumption

-- the second half
pub to_trees : (p : ℕ) (w v : World) → AgreeBelow p w v → AgreeTrees p w.tree v.tree
to_trees p w v a = record { to = λ x. (a.nodes x).0; from = λ x. (a.nodes x).1; words = a.words }

pub to_worlds : (p : ℕ) (w v : World) → AgreeTrees p w.tree v.tree → AgreeBelow p w v
to_worlds p w v a = record { nodes = λ x. (a.to x, a.from x); words = a.words }

record Again (p cpu : ℕ) (w v : World) (a b : Happened) : Type 0 where
  outcome : a.outcome ≡ b.outcome
  below : AgreeBelow p a.world b.world
  on : runs_on a.world cpu ≡ runs_on b.world cpu
  run : SameRun p w v → SameRun p a.world b.world

-- accesses reach the same
pub reach_same : (t u : Tree) (p : ℕ) → IsSound t → IsSound u → IsName t p → AgreeTrees p t u
    → (va : ℕ) (c : Access) (z : Size) → reach t p va c z ≡ reach u p va c z
reach_same t u p s r n a va c z =
    rw (at (row_at (node t p).rows (vpage va)) refl, node_same t u p s r n a)
  where
    at : (o : Option Row) → row_at (node t p).rows (vpage va) ≡ o → reach_by_row t va c o ≡ reach_by_row u va c o
    at None e = refl
    at (Some b) e = rw (hidden_below t u p s r n a b.frame
        (In-map (λ b. b.frame) b (node t p).rows (find_in (λ b. b.at == vpage va) b (node t p).rows e).0))

loaded-again : (w v : World) (cpu va : ℕ) (r : Occupant) (c : Access) (z : Size) (q : Reached) → AgreeBelow r.name w v
    → runs_on w cpu ≡ runs_on v cpu → reach w.tree r.name va c z ≡ q → Succeeded (load_happens w cpu r va c z q).outcome
    → Again r.name cpu w v (load_happens w cpu r va c z q) (load_happens v cpu r va c z q)
loaded-again w v cpu va r c z (Place g i) a o e k = record {
  outcome = rw (← a.words g i (reached_row w.tree r.name va g i c z e) (reached_small w.tree r.name va g i c z e));
  below = a;
  on = o;
  run = λ h. h;
}
loaded-again w v cpu va r c z (Faulted f) a o e k =
    absurd (deliver-fails w cpu r (fault_vector f) va (16 * access_number c + fault_number f) k)

pub stored-agree : (t u : Tree) (p g i x y : ℕ) → AgreeTrees p t u → In g (row_pages (node t p)) → x ≡ y
    → AgreeTrees p (with_word t g i x) (with_word u g i y)
stored-agree t u p g i x y a h e = record {
  to = a.to;
  from = a.from;
  words = λ k j l b. at k j (k == g) refl l b;
}
  where
    at : (k j : ℕ) (q : Bool) → (k == g) ≡ q → In k (row_pages (node t p)) → j < 1024
        → word_of (cond q (Some (λ j. cond (j == i) y (word_of (u.words g) j))) (u.words k)) j
        ≡ word_of (cond q (Some (λ j. cond (j == i) x (word_of (t.words g) j))) (t.words k)) j
    at k j true q l b = let d = a.words g j h b in let f = sym e in λ n. cond (j == i) (f n) (d n)
    at k j false q l b = a.words k j l b

wrote-again : (w v : World) (cpu va : ℕ) (r : Occupant) (z : Size) (x : ℕ) (q : Reached) → AgreeBelow r.name w v
    → runs_on w cpu ≡ runs_on v cpu → reach w.tree r.name va Store z ≡ q → Succeeded (wrote w cpu r va z x q).outcome
    → Again r.name cpu w v (wrote w cpu r va z x q) (wrote v cpu r va z x q)
wrote-again w v cpu va r z x (Place g i) a o e k = record {
  outcome = refl;
  below = to_worlds r.name _ _ (stored-agree w.tree v.tree r.name g i _ _ (to_trees r.name w v a)
      (reached_row w.tree r.name va g i Store z e) (ap (written_over va z x)
      (sym (a.words g i (reached_row w.tree r.name va g i Store z e) (reached_small w.tree r.name va g i Store z e)))));
  on = o;
  run = λ h y b. h y b;
}
wrote-again w v cpu va r z x (Faulted f) a o e k =
    absurd (deliver-fails w cpu r (fault_vector f) va (16 * access_number Store + fault_number f) k)

-- which of the partitions below p run, after a call
run_after : (p : ℕ) (w v w' v' : World) → IsSoundWorld w → IsSoundWorld v → LeavesTree p w.tree w'.tree
    → LeavesTree p v.tree v'.tree → AgreeBelow p w v → AgreeBelow p w' v' → running w' ≡ running w
    → running v' ≡ running v → SameRun p w v → SameRun p w' v'
run_after p w v w' v' s r l m a b e f run x h = rw (
  e,
  tests_agree _ _ (λ q. let (i, o) = old w w' s l (has_in x.name _ q) h in at i o ∙ q)
      (λ q. let (i, o) = old v v' r m (has_in x.name _ q) ((b.nodes x).0 h) in let g = node_found v.tree x.name i in
      let k = (a.nodes (node v.tree x.name)).1 (g.0, subst (λ n. In p (ancestry v.tree n)) (sym g.1) o) in
      ap (has (running w)) (sym g.1) ∙ run (node v.tree x.name) k ∙ ap (has (running v)) g.1 ∙ q),
  ← f,
)
  where
    old : (w w' : World) → IsSoundWorld w → LeavesTree p w.tree w'.tree → In x.name (running w) → IsBelow w'.tree p x
        → IsName w.tree x.name × In p (ancestry w.tree x.name)
    old w w' s l i h = let n = s.names_nodes x.name i in (n, (l.lines x.name p n (name_in x (nodes w'.tree) h.0)).1 h.1)

    at : IsName w.tree x.name → In p (ancestry w.tree x.name) → has (running v) x.name ≡ has (running w) x.name
    at i o = let g = node_found w.tree x.name i in ap (has (running v)) (sym g.1) ∙ sym (run (node w.tree x.name)
        (g.0, subst (λ n. In p (ancestry w.tree n)) (sym g.1) o)) ∙ ap (has (running w)) g.1

replied-again : (w v : World) (cpu : ℕ) (r : Occupant) (a b : Answer) → IsSoundWorld w → IsSoundWorld v → runs_on w cpu
    ≡ Some r → runs_on v cpu ≡ Some r → LeavesTree r.name w.tree a.tree → LeavesTree r.name v.tree b.tree
    → AgreeBelow r.name w v → AgreeAnswers r.name a b → Again r.name cpu w v (reply_happens w cpu r a)
    (reply_happens v cpu r b)
replied-again w v cpu r a b s s' e f l m g h =
    let st = h.status in
    let vl = h.value in
    let k = to_worlds r.name (reply_happens w cpu r a).world (reply_happens v cpu r b).world h.tree in
    record {
      outcome = λ i. O.Reply (st i) (vl i);
      below = k;
      on = at_set_here _ w.cpus cpu r e
          ∙ (λ i. Some (record r { ctx = record r.ctx { regs = with_reply (status_number (st i)) (vl i) r.ctx.regs } }))
          ∙ sym (at_set_here _ v.cpus cpu r f);
      run = run_after r.name w v (reply_happens w cpu r a).world (reply_happens v cpu r b).world s s' l m g k
          (names_set w.cpus cpu r _ e refl) (names_set v.cpus cpu r _ f refl);
    }

-- what is said of two outcomes looks at no cache
again_recached : (p cpu : ℕ) (w v : World) (a b : Happened) (cs ds : List Places) → Again p cpu w v a b
    → Again p cpu w v (with_caches cs a) (with_caches ds b)
again_recached p cpu w v a b cs ds g =
    assumption

again : (p : ℕ) (e : Event) (w v : World) → Again p (cpu_of e) w v (what_happens w e) (what_happens v e)
    → IsSameAgain p e w v
again p e w v g =
    let a = again_recached p (cpu_of e) w v (what_happens w e) (what_happens v e) (caches_after w e) (caches_after v e)
    g in
    assumption

call-again : (k : CallName) (w v : World) (cpu : ℕ) (r : Occupant) (c : Five) → (IsSwitching k → ⊥) → IsSoundWorld w
    → IsSoundWorld v → runs_on w cpu ≡ Some r → runs_on v cpu ≡ Some r → AgreeBelow r.name w v
    → (k ≡ OnMemory DeletePartition → SameRun r.name w v) → Again r.name cpu w v (call k w cpu r c) (call k v cpu r c)
call-again k w v cpu r c h s s' e f a d = go k h d
  where
    n : IsName w.tree r.name
    n = s.names_nodes r.name (runs_named w cpu r s e)

    n' : IsName v.tree r.name
    n' = s'.names_nodes r.name (runs_named v cpu r s' f)

    g : Agreeing r.name w.tree v.tree
    g = record { sound = s.tree; sound' = s'.tree; name = n; trees = to_trees r.name w v a }

    go : (k : CallName) → (IsSwitching k → ⊥) → (k ≡ OnMemory DeletePartition → SameRun r.name w v)
        → Again r.name cpu w v (call k w cpu r c) (call k v cpu r c)
    go (OnMemory k) h d =
        let l = laws_of k in
        let one = (l.keeps w r.name c s.tree n).leaves in
        let other = (l.keeps v r.name c s'.tree n').leaves in
        replied-again w v cpu r _ _ s s' e f one other a (l.agrees w v r.name c g (λ q. d (rw q)))
    go Yields h d = absurd (h tt)
    go (Masks b) h d =
        let one = mask-leaves w.tree r.name s.tree n b in
        let other = mask-leaves v.tree r.name s'.tree n' b in
        replied-again w v cpu r _ _ s s' e f one other a
        (record { status = refl; value = refl; tree = mask-agrees g b })
    go Unknown h d = replied-again w v cpu r _ _ s s' e f (leaves_same r.name w.tree) (leaves_same r.name v.tree) a
        (record { status = refl; value = refl; tree = to_trees r.name w v a })

pub event-again : (w v : World) (e : Event) (r : Occupant) → IsSoundWorld w → IsSoundWorld v → IsEvent e → IsPlain w e
    → runs_on w (cpu_of e) ≡ Some r → runs_on v (cpu_of e) ≡ Some r → AgreeBelow r.name w v
    → (IsDeletion e → SameRun r.name w v) → IsSameAgain r.name e w v
event-again w v (E.Load cpu va z) r s s' ev h e f a d =
    let k = subst (λ o.
    Succeeded (on_running w cpu o (λ r. load_happens w cpu r va Load z (reach w.tree r.name va Load z))).outcome) e h in
    let q = reach_same w.tree v.tree r.name s.tree s'.tree (s.names_nodes r.name (runs_named w cpu r s e))
    (to_trees r.name w v a) va Load z in
    again r.name (E.Load cpu va z) w v
    (rw e (subst (λ o. Again r.name cpu w v (load_happens w cpu r va Load z (reach w.tree r.name va Load z))
    (on_running v cpu o (λ r. load_happens v cpu r va Load z (reach v.tree r.name va Load z)))) (sym f)
    (subst (λ p. Again r.name cpu w v (load_happens w cpu r va Load z (reach w.tree r.name va Load z))
    (load_happens v cpu r va Load z p)) q
    (loaded-again w v cpu va r Load z (reach w.tree r.name va Load z) a (e ∙ sym f) refl k))))
event-again w v (E.Fetch cpu) r s s' ev h e f a d =
    let k = subst (λ o. Succeeded (on_running w cpu o
    (λ r. load_happens w cpu r r.ctx.pc Fetch Word (reach w.tree r.name r.ctx.pc Fetch Word))).outcome) e h in
    let q = reach_same w.tree v.tree r.name s.tree s'.tree (s.names_nodes r.name (runs_named w cpu r s e))
    (to_trees r.name w v a) r.ctx.pc Fetch Word in
    again r.name (E.Fetch cpu) w v
    (rw e (subst (λ o. Again r.name cpu w v (load_happens w cpu r r.ctx.pc Fetch Word
    (reach w.tree r.name r.ctx.pc Fetch Word))
    (on_running v cpu o (λ r. load_happens v cpu r r.ctx.pc Fetch Word
    (reach v.tree r.name r.ctx.pc Fetch Word)))) (sym f)
    (subst (λ p. Again r.name cpu w v
    (load_happens w cpu r r.ctx.pc Fetch Word (reach w.tree r.name r.ctx.pc Fetch Word))
    (load_happens v cpu r r.ctx.pc Fetch Word p)) q
    (loaded-again w v cpu r.ctx.pc r Fetch Word (reach w.tree r.name r.ctx.pc Fetch Word) a
    (e ∙ sym f) refl k))))
event-again w v (E.Store cpu va z x) r s s' ev h e f a d =
    let k = subst (λ o.
    Succeeded (on_running w cpu o (λ r. wrote w cpu r va z x (reach w.tree r.name va Store z))).outcome) e h in
    let q = reach_same w.tree v.tree r.name s.tree s'.tree (s.names_nodes r.name (runs_named w cpu r s e))
    (to_trees r.name w v a) va Store z in
    again r.name (E.Store cpu va z x) w v
    (rw e (subst (λ o. Again r.name cpu w v (wrote w cpu r va z x (reach w.tree r.name va Store z))
    (on_running v cpu o (λ r. wrote v cpu r va z x (reach v.tree r.name va Store z)))) (sym f)
    (subst (λ p. Again r.name cpu w v (wrote w cpu r va z x (reach w.tree r.name va Store z))
    (wrote v cpu r va z x p)) q (wrote-again w v cpu va r z x (reach w.tree r.name va Store z) a (e ∙ sym f)
    refl k))))
event-again w v (E.Call cpu number c) r s s' ev h e f a d =
    let k = call_named number in
    again r.name (E.Call cpu number c) w v
    (rw (called_by k w cpu r c e) (subst (λ y. Again r.name cpu w v (call k w cpu r c) y)
    (sym (called_by k v cpu r c f)) (call-again k w v cpu r c h s s' e f a d)))
event-again w v (E.Trap cpu k x b) r s s' ev h e f a d = absurd h
event-again w v (E.Raise j) r s s' ev h e f a d = absurd h
event-again w v (E.Poll cpu) r s s' ev h e f a d = absurd h
event-again w v (E.SetContext cpu c) r s s' ev h e f a d = absurd h
