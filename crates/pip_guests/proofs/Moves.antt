-- What an event of a partition moves, whatever comes of it, and where control is then.
use Rattle.std.proofs.Common.{◌≡◌, ◌≢◌, ℕ, ◌+◌, ◌*◌, ◌-◌, ◌==◌, ◌&&◌, ◌⊎◌, inl, inr, Bool, true, false, cond, List, []}
use Rattle.std.proofs.Common.{◌∷◌, map, length, refl, sym, ap, ap₂, ◌∙◌, subst, Option, Some, None}
use Rattle.std.specs.Prelude.{nat_le, nat_lt, option_map}
use Rattle.std.proofs.Math.ListN.{length-set}
use Rattle.std.proofs.lemmas.Bool.{ne_eqb}
use Rattle.pip_base.specs.Status.{status_number}
use Rattle.pip_base.specs.declared.outcome.Status.{Status}
use Rattle.pip_base.specs.declared.types.Access.{Access}
use Rattle.pip_base.specs.declared.types.Access.TheVariants.{Load, Store, Fetch}
use Rattle.pip_base.specs.declared.types.Ctx.{Ctx}
use Rattle.pip_base.specs.declared.types.Size.{Size}
use Rattle.pip_base.specs.declared.types.Size.TheVariants.{Word}
use Rattle.pip_model.specs.Answers.{Five, first_met}
use Rattle.pip_model.specs.Deliver.{deliver, deliver_to, nearest_above, nearest_among, nearest_taker, taker_or}
use Rattle.pip_model.specs.Events.{Event, IsEvent}
use Rattle.pip_model.specs.Events as E
use Rattle.pip_model.specs.Handlers.{context_word, handler, save, save_place, saved_to, written_block}
use Rattle.pip_model.specs.Happens.{access_number, what_happens, answer, call, call_named, event, fault_number}
use Rattle.pip_model.specs.Happens.{fault_vector, load_happens, on_running, wrote}
use Rattle.pip_model.specs.Lists.{In, has}
use Rattle.pip_model.specs.Local.{cpu_of}
use Rattle.pip_model.specs.Reach.{Faulted, Place, Reached, reach}
use Rattle.pip_model.specs.Sound.{IsSound}
use Rattle.pip_model.specs.Switching.{node_name, parent_of, reply_unless, target_node, with_zeros, with_reply, yield}
use Rattle.pip_model.specs.Switching.{yield_place, yield_refusals, yield_happens, yielded_tree}
use Rattle.pip_model.specs.Tree.{Node, Tree, ancestry, chain, child_at, names_of, node, row_pages}
use Rattle.pip_model.specs.Worlds.{IsSoundWorld, World, done, enter, masked_node, with_running, running, runs_on}
use Rattle.pip_model.specs.Worlds.{handler_context, with_masked}
use Rattle.pip_model.specs.declared.call_name.CallName.{CallName}
use Rattle.pip_model.specs.declared.call_name.CallName.TheVariants.{Masks, OnMemory, Unknown, Yields}
use Rattle.pip_model.specs.declared.processors.Occupant.{Occupant}
use Rattle.pip_model.specs.declared.processors.Taker.{Taker}
use Rattle.pip_model.proofs.Calls.Add.{child_found}
use Rattle.pip_model.proofs.Calls.Table.{laws_of}
use Rattle.pip_model.proofs.Events.Saves.{IsOwnPlace, save_own, yield_own}
use Rattle.pip_model.proofs.Events.Soundness.{runs_named}
use Rattle.pip_model.proofs.Locality.Leaves.{LeavesTree, leaves_same, mask-leaves, store-leaves}
use Rattle.pip_model.proofs.Locality.OneEvent.{at_set_here, at_set_other, reached_row}
use Rattle.pip_model.proofs.Trees.Ancestors.{not_root}
use Rattle.pip_model.proofs.Trees.Free.{IsName, node_found}
use Rattle.pip_guests.specs.Guests.{is_own}
use Rattle.pip_guests.proofs.Lines.{own_line, parent_line}

-- what an event of p on a processor leaves alone
pub record Moves (p here : ℕ) (w v : World) : Type 0 where
  pub leaves : LeavesTree p w.tree v.tree
  pub cpus : (i : ℕ) → i ≢ here → runs_on v i ≡ runs_on w i
  pub count : length v.cpus ≡ length w.cpus

-- which partition can run after an event of p: p or one above it, or a child of p (0 is none)
abbrev pub Goes : Tree → ℕ → ℕ → Type 0
Goes t p n = In n (ancestry t p) ⊎ (((c : Node) × In c t.others × (c.up ≡ p) × (c.name ≡ n)) ⊎ (n ≡ 0))

-- both, of an event of r
record Acts (r : Occupant) (here : ℕ) (w v : World) : Type 0 where
  moves : Moves r.name here w v
  goes : (z : Occupant) → runs_on v here ≡ Some z → Goes w.tree r.name z.name

acts_still : (w : World) (cpu : ℕ) (r : Occupant) → IsSoundWorld w → runs_on w cpu ≡ Some r → Acts r cpu w w
acts_still w cpu r s k = record {
  moves = record { leaves = leaves_same r.name w.tree; cpus = λ i n. refl; count = refl };
  goes = λ z e. let j : Some z ≡ Some r = cc in let d : z ≡ r = cc in
      inl (rw d (own_line w.tree s.tree r.name (s.names_nodes r.name (runs_named w cpu r s k))));
}

-- the processor runs another partition, or nothing
acts_put : (w : World) (cpu : ℕ) (r : Occupant) (t : Tree) (o : Option Occupant) → runs_on w cpu ≡ Some r
    → LeavesTree r.name w.tree t → ((z : Occupant) → o ≡ Some z → Goes w.tree r.name z.name)
    → Acts r cpu w (with_running (record w { tree = t }) cpu o)
acts_put w cpu r t o k l g = record {
  moves = record { leaves = l; cpus = λ i n. at_set_other o w.cpus cpu i n; count = length-set w.cpus cpu o };
  goes = λ z e. g z (rw (← at_set_here o w.cpus cpu r k) e);
}

-- it runs r as before, with another context
acts_on : (w : World) (cpu : ℕ) (r q : Occupant) (t : Tree) → IsSoundWorld w → runs_on w cpu ≡ Some r → q.name ≡ r.name
    → LeavesTree r.name w.tree t → Acts r cpu w (with_running (record w { tree = t }) cpu (Some q))
acts_on w cpu r q t s k n l = acts_put w cpu r t (Some q) k l (λ z e. let d : q ≡ z = cc in
    inl (rw (← d, n) (own_line w.tree s.tree r.name (s.names_nodes r.name (runs_named w cpu r s k)))))

-- ---- saves

saved_same : (t : Tree) (p : ℕ) (c : Ctx) (q : Reached) (g : ℕ) → IsOwnPlace t p q → (In g (row_pages (node t p)) → ⊥)
    → (saved_to t c q).words g ≡ t.words g
saved_same t p c q g own out = go (t.words g)
  where
    one : (q : Reached) → IsOwnPlace t p q → (w : ℕ → ℕ) → Some (λ j. written_block c g q w j) ≡ Some w
    one (Faulted f) o w = refl
    one (Place h i) o w =
        rw (ne_eqb h g (λ e. out (subst (λ v. In v (row_pages (node t p))) e (o.row h i refl))))

    go : (o : Option (ℕ → ℕ)) → option_map (λ old. written_block c g q old) o ≡ o
    go None = refl
    go (Some w) = one q own w

pub saved_leaves : (t : Tree) (p : ℕ) (c : Ctx) (q : Reached) → IsOwnPlace t p q → LeavesTree p t (saved_to t c q)
saved_leaves t p c q own = record {
  outside = λ x. ((λ h. h), (λ h. h));
  own = refl;
  words = λ g h. saved_same t p c q g own h;
  lines = λ m n i j. ((λ h. h), (λ h. h));
}

-- ---- deliveries

-- the taker of a fault is above
pub among_in : (w : World) (k born : ℕ) (qs : List Node) (y : Taker) → nearest_among w k born qs ≡ Some y
    → In y.to (names_of qs)
among_in w k born [] y e = cc
among_in w k born (q ∷ qs) y e = go (has (running w) q.name) (handler w.tree q.name k) e (among_in w k q.born qs y)
  where
    go : (b : Bool) (h : Option Ctx) → taker_or b h q born (nearest_among w k q.born qs) ≡ Some y
        → (nearest_among w k q.born qs ≡ Some y → In y.to (names_of qs)) → In y.to (names_of (q ∷ qs))
    go false (Some h) z f = let d : record { to = q.name; handler = h; born = born } ≡ y = cc in
        inl (rw (← d))
    go false None z f = inr (f z)
    go true (Some h) z f = inr (f z)
    go true None z f = inr (f z)

pub taker_in : (w : World) (p k : ℕ) (y : Taker) → nearest_taker w p k ≡ Some y → In y.to (ancestry w.tree p)
taker_in w p k y e = go (chain w.tree p) e
  where
    go : (qs : List Node) → nearest_above w k qs ≡ Some y → In y.to (names_of qs)
    go [] z = cc
    go (q ∷ qs) z = inr (among_in w k q.born qs y z)

deliver_acts : (w : World) (cpu : ℕ) (r : Occupant) (k a b : ℕ) → runs_on w cpu ≡ Some r
    → Acts r cpu w (deliver w cpu r k a b).world
deliver_acts w cpu r k a b e = go (nearest_taker w r.name k) refl
  where
    saved : LeavesTree r.name w.tree (save w.tree r.name 63 r.ctx)
    saved = saved_leaves w.tree r.name r.ctx (save_place w.tree r.name 63) (save_own w.tree r.name 63)

    go : (o : Option Taker) → nearest_taker w r.name k ≡ o → Acts r cpu w (deliver_to w cpu r k a b o).world
    go None q = acts_put w cpu r (save w.tree r.name 63 r.ctx) None e saved (λ z d. cc)
    go (Some y) q = acts_put w cpu r (save w.tree r.name 63 r.ctx)
        (Some (record { name = y.to; ctx = handler_context y.handler k a b y.born })) e saved
        (λ z d. let u : record { name = y.to; ctx = handler_context y.handler k a b y.born } ≡ z = cc in
        inl (rw (← u) (taker_in w r.name k y q)))

-- ---- yields

-- only a root that yields takes its mask away
others_kept : (p : ℕ) (b : Bool) (xs : List Node) → ((x : Node) → In x xs → x.name ≢ p) → map (masked_node p b) xs ≡ xs
others_kept p b [] h = refl
others_kept p b (x ∷ xs) h = ap₂ (λ y ys. y ∷ ys) (let q = ne_eqb x.name p (h x (inl refl)) in
    λ n. record x { masked = cond (q n) b x.masked }) (others_kept p b xs (λ y i. h y (inr i)))

either_same : (c m : Bool) → cond c m m ≡ m
either_same true m = refl
either_same false m = refl

pub yielded_same : (t : Tree) (r : Occupant) (s : ℕ) → IsSound t → r.name ≢ t.root.name
    → yielded_tree t r s ≡ saved_to t (with_zeros r.ctx) (yield_place t r.name s)
yielded_same t r s sound d = ap (λ b. with_masked t.root.name (cond b false t.root.masked) u)
    (ne_eqb r.name t.root.name d) ∙ (λ n. record u { root = top n; others = rest n })
  where
    u : Tree
    u = saved_to t (with_zeros r.ctx) (yield_place t r.name s)

    top : masked_node t.root.name t.root.masked t.root ≡ t.root
    top = let q = either_same (t.root.name == t.root.name) t.root.masked in λ n. record t.root { masked = q n }

    rest : map (masked_node t.root.name t.root.masked) t.others ≡ t.others
    rest = others_kept t.root.name t.root.masked t.others (λ x i e. not_root t sound x i (sym e))

-- the target of a yield
target_goes : (t : Tree) (p d : ℕ) → IsSound t → IsName t p → p ≢ t.root.name → Goes t p (node_name (target_node t p d))
target_goes t p d s n m = go (d == 0) (d == 1)
  where
    parent : (b : Bool) → Goes t p (node_name (cond b None (Some (node t (node t p).up))))
    parent true = inr (inr refl)
    parent false = let u = parent_line t s p n m in
        inl (rw (← sym (node_found t (node t p).up u.1).1) u.2)

    child : (o : Option Node) → child_at t p d ≡ o → Goes t p (node_name o)
    child None e = inr (inr refl)
    child (Some c) e = let k = child_found t p d c e in inr (inl (c, k.0, k.1, refl))

    go : (a b : Bool) → Goes t p (node_name (cond a (parent_of t p) (cond b (Some (node t p)) (child_at t p d))))
    go true b = parent (p == t.root.name)
    go false true = inl (rw (← sym (node_found t p n).1) (own_line t s p n))
    go false false = child (child_at t p d) refl

module _ (w : World) (cpu : ℕ) (r : Occupant) (s : IsSoundWorld w) (k : runs_on w cpu ≡ Some r)
    (d : r.name ≢ w.tree.root.name) where
  is_name : IsName w.tree r.name
  is_name = s.names_nodes r.name (runs_named w cpu r s k)

  yield_acts : (a : Five) → Acts r cpu w (yield w cpu r a).world
  yield_acts a = go (first_met (yield_refusals w r.name a q)) (handler w.tree (node_name q) a.x1)
    where
      q : Option Node
      q = target_node w.tree r.name a.x0

      go : (o : Option Status) (h : Option Ctx)
          → Acts r cpu w (reply_unless w cpu r o (yield_happens w cpu r a (node_name q) h)).world
      go (Some st) h =
          acts_on w cpu r (record r { ctx = record r.ctx { regs = with_reply (status_number st) 0 r.ctx.regs } }) w.tree
          s k refl (leaves_same r.name w.tree)
      go None None = acts_still w cpu r s k
      go None (Some c) = rw (yielded_same w.tree r a.x2 s.tree d)
          (acts_put w cpu r _ (Some (record { name = node_name q; ctx = c })) k
          (saved_leaves w.tree r.name (with_zeros r.ctx) (yield_place w.tree r.name a.x2)
          (yield_own w.tree r.name a.x2)) (λ z e. let u : record { name = node_name q; ctx = c } ≡ z = cc in
          subst (Goes w.tree r.name) (ap (λ z. z.name) u)
          (target_goes w.tree r.name a.x0 s.tree is_name d)))

  call_acts : (c : CallName) (a : Five) → Acts r cpu w (call c w cpu r a).world
  call_acts (OnMemory c) a =
      acts_on w cpu r _ (answer c w r.name a).tree s k refl ((laws_of c).keeps w r.name a s.tree is_name).leaves
  call_acts Yields a = yield_acts a
  call_acts (Masks b) a =
      acts_on w cpu r _ (with_masked r.name b w.tree) s k refl (mask-leaves w.tree r.name s.tree is_name b)
  call_acts Unknown a = acts_on w cpu r _ w.tree s k refl (leaves_same r.name w.tree)

  loaded_acts : (va : ℕ) (c : Access) (z : Size) (q : Reached) → Acts r cpu w (load_happens w cpu r va c z q).world
  loaded_acts va c z (Place g i) = acts_still w cpu r s k
  loaded_acts va c z (Faulted f) = deliver_acts w cpu r (fault_vector f) va (16 * access_number c + fault_number f) k

  wrote_acts : (va : ℕ) (z : Size) (x : ℕ) (q : Reached) → reach w.tree r.name va Store z ≡ q
      → Acts r cpu w (wrote w cpu r va z x q).world
  wrote_acts va z x (Place g i) e = record {
    moves = record {
      leaves = store-leaves w.tree r.name s.tree is_name g i _
          (reached_row w.tree r.name va g i Store z e);
      cpus = λ i n. refl;
      count = refl;
    };
    goes = (acts_still w cpu r s k).goes;
  }
  wrote_acts va z x (Faulted f) e =
      deliver_acts w cpu r (fault_vector f) va (16 * access_number Store + fault_number f) k

-- what runs on the processor of an event acts
module _ (w : World) (r : Occupant) where
  pub load_by : (cpu va : ℕ) (z : Size) → runs_on w cpu ≡ Some r
      → what_happens w (E.Load cpu va z) ≡ load_happens w cpu r va Load z (reach w.tree r.name va Load z)
  load_by cpu va z k = rw k

  pub store_by : (cpu va : ℕ) (z : Size) (x : ℕ) → runs_on w cpu ≡ Some r
      → what_happens w (E.Store cpu va z x) ≡ wrote w cpu r va z x (reach w.tree r.name va Store z)
  store_by cpu va z x k = rw k

  pub fetch_by : (cpu : ℕ) → runs_on w cpu ≡ Some r
      → what_happens w (E.Fetch cpu) ≡ load_happens w cpu r r.ctx.pc Fetch Word
      (reach w.tree r.name r.ctx.pc Fetch Word)
  fetch_by cpu k =
      rw k

  pub trap_by : (cpu v a b : ℕ) → runs_on w cpu ≡ Some r → what_happens w (E.Trap cpu v a b) ≡ deliver w cpu r v a b
  trap_by cpu v a b k = rw k

  pub call_by : (cpu number : ℕ) (a : Five) → runs_on w cpu ≡ Some r
      → what_happens w (E.Call cpu number a) ≡ call (call_named number) w cpu r a
  call_by cpu number a k = rw k

  pub set_by : (cpu : ℕ) (c : Ctx) → runs_on w cpu ≡ Some r
      → what_happens w (E.SetContext cpu c) ≡ done (with_running w cpu (Some (record r { ctx = c })))
  set_by cpu c k = rw k

own_acts : (w : World) (e : Event) (r : Occupant) → IsSoundWorld w → is_own e ≡ true → runs_on w (cpu_of e) ≡ Some r
    → r.name ≢ w.tree.root.name → Acts r (cpu_of e) w (what_happens w e).world
own_acts w (E.Load cpu va z) r s o k d = rw (load_by w r cpu va z k)
    (loaded_acts w cpu r s k d va Load z (reach w.tree r.name va Load z))
own_acts w (E.Store cpu va z x) r s o k d = rw (store_by w r cpu va z x k)
    (wrote_acts w cpu r s k d va z x (reach w.tree r.name va Store z) refl)
own_acts w (E.Fetch cpu) r s o k d = rw (fetch_by w r cpu k)
    (loaded_acts w cpu r s k d r.ctx.pc Fetch Word (reach w.tree r.name r.ctx.pc Fetch Word))
own_acts w (E.Trap cpu v a b) r s o k d =
    rw (trap_by w r cpu v a b k) (deliver_acts w cpu r v a b k)
own_acts w (E.Call cpu number a) r s o k d =
    rw (call_by w r cpu number a k) (call_acts w cpu r s k d (call_named number) a)
own_acts w (E.Raise j) r s o k d = cc
own_acts w (E.Poll cpu) r s o k d = cc
own_acts w (E.SetContext cpu c) r s o k d = rw (set_by w r cpu c k)
    (acts_on w cpu r (record r { ctx = c }) w.tree s k refl (leaves_same r.name w.tree))

module _ (w : World) (e : Event) (r : Occupant) (s : IsSoundWorld w)
    (o : is_own e ≡ true) (k : runs_on w (cpu_of e) ≡ Some r) (d : r.name ≢ w.tree.root.name) where
  pub event_moves : Moves r.name (cpu_of e) w (event w e).world
  event_moves = let m = (own_acts w e r s o k d).moves in assumption

  pub event_goes : (z : Occupant) → runs_on (event w e).world (cpu_of e) ≡ Some z → Goes w.tree r.name z.name
  event_goes = (own_acts w e r s o k d).goes
