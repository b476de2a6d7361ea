-- What one event leaves of a node's rows, and of the words of a page that is not hidden.
use Rattle.std.proofs.Common.{◌≡◌, ◌≢◌, ℕ, ◌+◌, ◌*◌, ◌==◌, ◌&&◌, Bool, true, false, cond, List, refl, sym, ap, ◌∙◌}
use Rattle.std.proofs.Common.{subst, arith, eqb-true, eq-eqb, Option, Some, None}
use Rattle.std.specs.Prelude.{is_none, is_some, ◌-◌, nat_le, nat_lt, option_map}
use Rattle.pip_base.specs.declared.types.Ctx.{Ctx}
use Rattle.pip_base.specs.declared.types.Access.{Access}
use Rattle.pip_base.specs.declared.types.Access.TheVariants.{Load, Store, Fetch}
use Rattle.pip_base.specs.declared.types.Size.{Size}
use Rattle.pip_base.specs.declared.types.Size.TheVariants.{Word}
use Rattle.pip_base.specs.declared.outcome.Status.{Status}
use Rattle.pip_base.specs.declared.outcome.Outcome.TheVariants as O
use Rattle.pip_base.specs.declared.outcome.Status.TheVariants as S
use Rattle.pip_model.specs.Answers.{Five, first_met}
use Rattle.pip_model.specs.Deliver.{deliver, deliver_to, nearest_taker}
use Rattle.pip_model.specs.declared.processors.Taker.{Taker}
use Rattle.pip_model.specs.Events.{Event, IsEvent}
use Rattle.pip_model.specs.GiveBack.{NamesChild, ChangesRows, IsReplyOk, is_left, saved_by, saved_by_yield}
use Rattle.pip_model.specs.GiveBack.{word_after_store, word_after_store_by, words_after}
use Rattle.pip_model.specs.Handlers.{block, context_word, handler, save, save_place, saved_to, saved_words, store_at}
use Rattle.pip_model.specs.Handlers.{written_block}
use Rattle.pip_model.specs.Happens.{access_number, call, call_named, call_happens, event, fault_number, fault_vector}
use Rattle.pip_model.specs.Happens.{load_happens, on_running, with_word, written_over, wrote}
use Rattle.pip_model.specs.declared.call_name.CallName.{CallName}
use Rattle.pip_model.specs.declared.call_name.CallName.TheVariants.{Masks, OnMemory, Unknown, Yields}
use Rattle.pip_model.specs.Poll.{lowest_line, may_take, occupant_name, poll, poll_line, none_taken, lines_with}
use Rattle.pip_model.specs.Poll.{take_line}
use Rattle.pip_model.specs.Reach.{Faulted, Place, Reached, Unmapped, reach}
use Rattle.pip_model.specs.Sound.{IsSound, IsWord}
use Rattle.pip_model.specs.Switching.{node_name, reply_unless, target_node, with_zeros, yield, yield_place}
use Rattle.pip_model.specs.Switching.{yield_refusals, yield_happens}
use Rattle.pip_model.specs.Tree.{Node, Tree, config, hidden, node, on_nodes, row_at, word_of}
use Rattle.pip_model.specs.Worlds.{Happened, IsSoundWorld, World, done, lines_in, masked_node, with_running, runs_on}
use Rattle.pip_model.specs.Worlds.{save_running, with_masked, with_pending}
use Rattle.pip_model.specs.declared.processors.Occupant.{Occupant}
use Rattle.pip_model.specs.Events as E
use Rattle.pip_model.proofs.Trees.Free.{IsName, passed}
use Rattle.pip_model.proofs.Trees.Control.{memory}
use Rattle.pip_model.proofs.Trees.Ancestry.{node_on}
use Rattle.pip_model.proofs.Calls.Laws.{KeepsEntries, entries_on}
use Rattle.pip_model.proofs.Calls.Table.{laws_of}
use Rattle.pip_model.proofs.Events.Soundness.{reached_words, runs_named}

-- u has the nodes of t, but for masks and lines
pub record ControlOnly (t u : Tree) : Type 0 where
  pub node : (q : ℕ) → memory (node t q) ≡ memory (node u q)
  pub entries : KeepsEntries t u

control_same : (t : Tree) → ControlOnly t t
control_same t = record { node = λ q. refl; entries = λ e h. h }

control_then : (t u v : Tree) → ControlOnly t u → ControlOnly u v → ControlOnly t v
control_then t u v a b = record { node = λ q. a.node q ∙ b.node q; entries = λ e h. b.entries e (a.entries e h) }

control_on : (f : Node → Node) (t : Tree) → ((x : Node) → memory x ≡ memory (f x)) → ControlOnly t (on_nodes f t)
control_on f t same = record {
  node = λ q. rw (same (node t q), ← node_on f (λ x. ap (λ z. z.name) (sym (same x))) t q);
  entries = entries_on f t (λ x. ap (λ z. z.name) (sym (same x))) (λ x. ap config (sym (same x)))
      (λ a x v r i e. ap (λ z. row_at z.rows v) (sym (same x)) ∙ e);
}

pub masked_control : (p : ℕ) (b : Bool) (t : Tree) → ControlOnly t (with_masked p b t)
masked_control p b t = control_on (masked_node p b) t (λ x. refl)

pub pending_control : (js : List ℕ) (t : Tree) → ControlOnly t (with_pending js t)
pending_control js t = control_on (lines_in t.root.name js) t (λ x. refl)

saved_control : (t : Tree) (c : Ctx) (q : Reached) → ControlOnly t (saved_to t c q)
saved_control t c q = record {
  node = λ p. refl;
  entries = λ e h.
      search;
}

running_control : (t : Tree) (o : Option Occupant) → ControlOnly t (save_running t o)
running_control t None = control_same t
running_control t (Some r) = saved_control t r.ctx (save_place t r.name 63)

pub deliver_control : (w : World) (cpu : ℕ) (r : Occupant) (k a b : ℕ)
    → ControlOnly w.tree (deliver w cpu r k a b).world.tree
deliver_control w cpu r k a b = go (nearest_taker w r.name k)
  where
    go : (o : Option Taker) → ControlOnly w.tree (deliver_to w cpu r k a b o).world.tree
    go None = saved_control w.tree r.ctx (save_place w.tree r.name 63)
    go (Some y) = saved_control w.tree r.ctx (save_place w.tree r.name 63)

reply_unless_control : (w : World) (cpu : ℕ) (r : Occupant) (o : Option Status) (h : Happened)
    → ControlOnly w.tree h.world.tree → ControlOnly w.tree (reply_unless w cpu r o h).world.tree
reply_unless_control w cpu r None h c = c
reply_unless_control w cpu r (Some s) h c = control_same w.tree

yielded_control : (w : World) (cpu : ℕ) (r : Occupant) (a : Five) (q : ℕ) (o : Option Ctx)
    → ControlOnly w.tree (yield_happens w cpu r a q o).world.tree
yielded_control w cpu r a q None = control_same w.tree
yielded_control w cpu r a q (Some c) =
    let t = saved_to w.tree (with_zeros r.ctx) (yield_place w.tree r.name a.x2) in
    control_then w.tree t _ (saved_control w.tree (with_zeros r.ctx) (yield_place w.tree r.name a.x2))
    (masked_control w.tree.root.name _ t)

polled_control : (w : World) (o : Option Occupant) → ControlOnly w.tree (none_taken w o).world.tree
polled_control w None = control_same w.tree
polled_control w (Some r) = control_same w.tree

take_control : (w : World) (cpu : ℕ) (o : Option Occupant) (j : ℕ) (h : Option Ctx)
    → ControlOnly w.tree (take_line w cpu o j h).world.tree
take_control w cpu o j None = polled_control w o
take_control w cpu o j (Some h) =
    let t0 = save_running w.tree o in
    let t1 = with_masked w.tree.root.name true t0 in
    control_then w.tree t1 _ (control_then w.tree t0 t1 (running_control w.tree o)
    (masked_control w.tree.root.name true t0)) (pending_control _ t1)

pub poll_control : (w : World) (cpu : ℕ) (o : Option Occupant) → ControlOnly w.tree (poll w cpu o).world.tree
poll_control w cpu o = go (may_take w cpu o) (lowest_line w w.tree.root.pending)
  where
    go : (b : Bool) (j : Option ℕ) → ControlOnly w.tree (cond b (poll_line w cpu o j) (none_taken w o)).world.tree
    go false j = polled_control w o
    go true None = polled_control w o
    go true (Some j) = take_control w cpu o j (handler w.tree w.tree.root.name (32 + j))

pub loaded_control : (w : World) (cpu : ℕ) (r : Occupant) (va : ℕ) (a : Access) (z : Size) (q : Reached)
    → ControlOnly w.tree (load_happens w cpu r va a z q).world.tree
loaded_control w cpu r va a z (Place g i) = control_same w.tree
loaded_control w cpu r va a z (Faulted f) =
    deliver_control w cpu r (fault_vector f) va (16 * access_number a + fault_number f)

pub yield_control : (w : World) (cpu : ℕ) (r : Occupant) (a : Five) → ControlOnly w.tree (yield w cpu r a).world.tree
yield_control w cpu r a = reply_unless_control w cpu r _ _ (yielded_control w cpu r a _ _)

-- the parent and the rows of a node
pub record KeepsNode (q : ℕ) (t u : Tree) : Type 0 where
  pub up : (node u q).up ≡ (node t q).up
  pub rows : (node u q).rows ≡ (node t q).rows

keeps_same : (q : ℕ) (t : Tree) → KeepsNode q t t
keeps_same q t = record { up = refl; rows = refl }

control_keeps : (q : ℕ) (t u : Tree) → ControlOnly t u → KeepsNode q t u
control_keeps q t u c = record { up = sym (ap (λ z. z.up) (c.node q)); rows = sym (ap (λ z. z.rows) (c.node q)) }

-- the rows of a node that stays change by an accepted addVAddr or removeVAddr that names it alone
pub event-node : (w : World) (e : Event) (q : ℕ) → IsSoundWorld w → IsName w.tree q → IsName (event w e).world.tree q
    → (ChangesRows q w e → ⊥) → KeepsNode q w.tree (event w e).world.tree
event-node w (E.Load cpu va z) q s n m h = go (runs_on w cpu)
  where
    go : (o : Option Occupant) → KeepsNode q w.tree
        (on_running w cpu o (λ r. load_happens w cpu r va Load z (reach w.tree r.name va Load z))).world.tree
    go None = keeps_same q w.tree
    go (Some r) = control_keeps q w.tree _ (loaded_control w cpu r va Load z (reach w.tree r.name va Load z))
event-node w (E.Fetch cpu) q s n m h = go (runs_on w cpu)
  where
    go : (o : Option Occupant) → KeepsNode q w.tree (on_running w cpu o
        (λ r. load_happens w cpu r r.ctx.pc Fetch Word (reach w.tree r.name r.ctx.pc Fetch Word))).world.tree
    go None = keeps_same q w.tree
    go (Some r) =
        control_keeps q w.tree _ (loaded_control w cpu r r.ctx.pc Fetch Word (reach w.tree r.name r.ctx.pc Fetch Word))
event-node w (E.Store cpu va z x) q s n m h = go (runs_on w cpu)
  where
    at : (r : Occupant) (p : Reached) → KeepsNode q w.tree (wrote w cpu r va z x p).world.tree
    at r (Place g i) = record { up = refl; rows = refl }
    at r (Faulted f) = control_keeps q w.tree _
        (deliver_control w cpu r (fault_vector f) va (16 * access_number Store + fault_number f))

    go : (o : Option Occupant) → KeepsNode q w.tree
        (on_running w cpu o (λ r. wrote w cpu r va z x (reach w.tree r.name va Store z))).world.tree
    go None = keeps_same q w.tree
    go (Some r) = at r (reach w.tree r.name va Store z)
event-node w (E.Trap cpu k a b) q s n m h = go (runs_on w cpu)
  where
    go : (o : Option Occupant) → KeepsNode q w.tree (on_running w cpu o (λ r. deliver w cpu r k a b)).world.tree
    go None = keeps_same q w.tree
    go (Some r) = control_keeps q w.tree _ (deliver_control w cpu r k a b)
event-node w (E.Call cpu number a) q s n m h = go (runs_on w cpu) refl
  where
    of : (k : CallName) (r : Occupant) → runs_on w cpu ≡ Some r → IsName (call k w cpu r a).world.tree q
        → (IsReplyOk (call k w cpu r a).outcome × NamesChild w.tree r.name k a q → ⊥)
        → KeepsNode q w.tree (call k w cpu r a).world.tree
    of (OnMemory k) r e i c =
        let h = (laws_of k).keeps w r.name a s.tree (s.names_nodes r.name (runs_named w cpu r s e)) in
        record { up = h.up q n i; rows = h.rows q n i c }
    of Yields r e i c = control_keeps q w.tree _ (yield_control w cpu r a)
    of (Masks b) r e i c = control_keeps q w.tree _ (masked_control r.name b w.tree)
    of Unknown r e i c = keeps_same q w.tree

    go : (o : Option Occupant) → runs_on w cpu ≡ o → KeepsNode q w.tree
        (call_happens (call_named number) w cpu a).world.tree
    go None e = rw e (keeps_same q w.tree)
    go (Some r) e = rw e (of (call_named number) r e
        (subst (λ o. IsName (on_running w cpu o (λ r. call (call_named number) w cpu r a)).world.tree q) e m)
        (λ z. h (subst (λ o. IsReplyOk (on_running w cpu o (λ r. call (call_named number) w cpu r a)).outcome ×
        NamesChild w.tree (occupant_name o) (call_named number) a q) (sym e) z)))
event-node w (E.Raise j) q s n m h =
    control_keeps q w.tree _ (pending_control (lines_with j w.tree.root.pending) w.tree)
event-node w (E.Poll cpu) q s n m h = control_keeps q w.tree _ (poll_control w cpu (runs_on w cpu))
event-node w (E.SetContext cpu c) q s n m h = go (runs_on w cpu)
  where
    go : (o : Option Occupant) → KeepsNode q w.tree
        (on_running w cpu o (λ r. done (with_running w cpu (Some (record r { ctx = c }))))).world.tree
    go None = keeps_same q w.tree
    go (Some r) = keeps_same q w.tree

-- a store, by where it reaches
stored_words : (t : Tree) (va : ℕ) (z : Size) (x g j h i : ℕ)
    → word_of ((with_word t h i (written_over va z x (word_of (t.words h) i))).words g) j
    ≡ word_after_store va z x g (Place h i) (word_of (t.words g)) j
stored_words t va z x g j h i = go (g == h) (h == g) (j == i) refl refl refl
  where
    go : (a b c : Bool) → (g == h) ≡ a → (h == g) ≡ b → (j == i) ≡ c → word_of (cond a
        (Some (λ j. cond (j == i) (written_over va z x (word_of (t.words h) i)) (word_of (t.words h) j))) (t.words g)) j
        ≡ cond (b && c) (written_over va z x (word_of (t.words g) j)) (word_of (t.words g) j)
    go true true c e f k = let d = eqb-true g h e in
        rw (← d, one c k)
      where
        one : (c : Bool) → (j == i) ≡ c → cond (j == i) (written_over va z x (word_of (t.words g) i))
            (word_of (t.words g) j) ≡ cond c (written_over va z x (word_of (t.words g) j)) (word_of (t.words g) j)
        one true k = rw (k, ← eqb-true j i k)
        one false k = rw k
    go true false c e f k = let d = eqb-true g h e in let y = eq-eqb h g (sym d) in absurd (grind (arith, f, y))
    go false true c e f k = let d = eqb-true h g f in let y = eq-eqb g h (sym d) in absurd (grind (arith, e, y))
    go false false c e f k = refl

-- a save, by where it reaches: a page that can be read
pub saved_word : (t : Tree) (c : Ctx) (q : Reached) (g j : ℕ) → ((h i : ℕ) → q ≡ Place h i → is_some (t.words h) ≡ true)
    → word_of ((saved_to t c q).words g) j ≡ written_block c g q (word_of (t.words g)) j
saved_word t c q g j there = go (t.words g) refl
  where
    nowhere : (q : Reached) → ((h i : ℕ) → q ≡ Place h i → is_some (t.words h) ≡ true) → t.words g ≡ None
        → 0 ≡ written_block c g q (word_of None) j
    nowhere (Faulted f) k e = refl
    nowhere (Place h i) k e = at (h == g) refl
      where
        at : (b : Bool) → (h == g) ≡ b → 0 ≡ cond (b && (nat_le i j && nat_lt j (i + 17))) (context_word c (j - i)) 0
        at false d = refl
        at true d =
            let z : is_some (t.words g) ≡ true =
            rw (← eqb-true h g d) (k h i refl) in
            let y : is_some (t.words g) ≡ false = rw e in
            absurd (grind (arith, z, y))

    go : (o : Option (ℕ → ℕ)) → t.words g ≡ o
        → word_of (option_map (λ old. written_block c g q old) o) j ≡ written_block c g q (word_of o) j
    go None e = nowhere q there e
    go (Some w) e = refl

pub save_there : (t : Tree) (p k h i : ℕ) → IsSound t → IsName t p → save_place t p k ≡ Place h i
    → is_some (t.words h) ≡ true
save_there t p k h i s n e = go (block t p k) e
  where
    go : (o : Option ℕ) → store_at t p o ≡ Place h i → is_some (t.words h) ≡ true
    go None z = cc
    go (Some a) z = reached_words t p a h i Store Word s n z

pub yield_there : (t : Tree) (p k h i : ℕ) → IsSound t → IsName t p → yield_place t p k ≡ Place h i
    → is_some (t.words h) ≡ true
yield_there t p k h i s n e = go (nat_lt k 256) e
  where
    go : (b : Bool) → cond b (save_place t p k) (Faulted Unmapped) ≡ Place h i → is_some (t.words h) ≡ true
    go true z = save_there t p k h i s n z
    go false z = cc

-- what runs is saved in its block of 63
save_word : (t : Tree) (r : Occupant) (g j : ℕ) → IsSound t → IsName t r.name
    → word_of ((save t r.name 63 r.ctx).words g) j ≡ saved_words t r.name 63 r.ctx g (word_of (t.words g)) j
save_word t r g j s n = saved_word t r.ctx (save_place t r.name 63) g j (λ h i e. save_there t r.name 63 h i s n e)

deliver_words : (w : World) (cpu : ℕ) (r : Occupant) (k a b g j : ℕ) → IsSound w.tree → IsName w.tree r.name
    → word_of ((deliver w cpu r k a b).world.tree.words g) j
    ≡ saved_by (is_left (deliver w cpu r k a b).outcome) w (Some r) g (word_of (w.tree.words g)) j
deliver_words w cpu r k a b g j s n = go (nearest_taker w r.name k)
  where
    go : (o : Option Taker) → word_of ((deliver_to w cpu r k a b o).world.tree.words g) j
        ≡ saved_by (is_left (deliver_to w cpu r k a b o).outcome) w (Some r) g (word_of (w.tree.words g)) j
    go None = save_word w.tree r g j s n
    go (Some y) = save_word w.tree r g j s n

loaded_words : (w : World) (cpu : ℕ) (r : Occupant) (va : ℕ) (a : Access) (z : Size) (q : Reached) (g j : ℕ)
    → IsSound w.tree → IsName w.tree r.name → word_of ((load_happens w cpu r va a z q).world.tree.words g) j
    ≡ saved_by (is_left (load_happens w cpu r va a z q).outcome) w (Some r) g (word_of (w.tree.words g)) j
loaded_words w cpu r va a z (Place h i) g j s n = refl
loaded_words w cpu r va a z (Faulted f) g j s n =
    deliver_words w cpu r (fault_vector f) va (16 * access_number a + fault_number f) g j s n

yielded_words : (w : World) (cpu : ℕ) (r : Occupant) (a : Five) (o : Option Status) (q : ℕ) (h : Option Ctx) (g j : ℕ)
    → IsSound w.tree → IsName w.tree r.name → word_of ((reply_unless w cpu r o
    (yield_happens w cpu r a q h)).world.tree.words
    g) j ≡ saved_by_yield (is_left (reply_unless w cpu r o (yield_happens w cpu r a q h)).outcome) w (Some r) a.x2 g
    (word_of (w.tree.words g)) j
yielded_words w cpu r a (Some z) q h g j s n = refl
yielded_words w cpu r a None q None g j s n = refl
yielded_words w cpu r a None q (Some c) g j s n = saved_word w.tree (with_zeros r.ctx) (yield_place w.tree r.name a.x2)
    g j (λ h i e. yield_there w.tree r.name a.x2 h i s n e)

call_words : (k : CallName) (w : World) (cpu : ℕ) (r : Occupant) (a : Five) (g j : ℕ) → IsSound w.tree
    → IsName w.tree r.name → IsWord a.x1 → hidden w.tree g ≡ false → hidden (call k w cpu r a).world.tree g ≡ false
    → word_of ((call k w cpu r a).world.tree.words g) j
    ≡ saved_by_yield (is_left (call k w cpu r a).outcome) w (Some r) a.x2 g (word_of (w.tree.words g)) j
call_words Yields w cpu r a g j s n l h h' = let to = target_node w.tree r.name a.x0 in yielded_words w cpu r a
    (first_met (yield_refusals w r.name a to)) (node_name to) (handler w.tree (node_name to) a.x1) g j s n
call_words (OnMemory k) w cpu r a g j s n l h h' =
    rw (((laws_of k).keeps w r.name a s n).words l g h h')
call_words (Masks b) w cpu r a g j s n l h h' = refl
call_words Unknown w cpu r a g j s n l h h' = refl

polled_words : (w : World) (o : Option Occupant) (g j : ℕ) → word_of ((none_taken w o).world.tree.words g) j
    ≡ saved_by (is_left (none_taken w o).outcome) w o g (word_of (w.tree.words g)) j
polled_words w None g j = refl
polled_words w (Some r) g j = refl

poll_words : (w : World) (cpu : ℕ) (o : Option Occupant) (g j : ℕ) → IsSoundWorld w → runs_on w cpu ≡ o
    → word_of ((poll w cpu o).world.tree.words g) j
    ≡ saved_by (is_left (poll w cpu o).outcome) w o g (word_of (w.tree.words g)) j
poll_words w cpu o g j s e = go (may_take w cpu o) (lowest_line w w.tree.root.pending)
  where
    running : (o : Option Occupant) → runs_on w cpu ≡ o
        → word_of ((save_running w.tree o).words g) j ≡ saved_by true w o g (word_of (w.tree.words g)) j
    running None e = refl
    running (Some r) e = save_word w.tree r g j s.tree (s.names_nodes r.name (runs_named w cpu r s e))

    take : (i : ℕ) (h : Option Ctx) → word_of ((take_line w cpu o i h).world.tree.words g) j
        ≡ saved_by (is_left (take_line w cpu o i h).outcome) w o g (word_of (w.tree.words g)) j
    take i None = polled_words w o g j
    take i (Some h) = running o e

    go : (b : Bool) (i : Option ℕ) → word_of ((cond b (poll_line w cpu o i) (none_taken w o)).world.tree.words g) j
        ≡ saved_by (is_left (cond b (poll_line w cpu o i) (none_taken w o)).outcome) w o g (word_of (w.tree.words g)) j
    go false i = polled_words w o g j
    go true None = polled_words w o g j
    go true (Some i) = take i (handler w.tree w.tree.root.name (32 + i))

-- the words of such a page change by what the event stores alone
pub event-words : (w : World) (e : Event) (g j : ℕ) → IsSoundWorld w → IsEvent e → hidden w.tree g ≡ false
    → hidden (event w e).world.tree g ≡ false
    → word_of ((event w e).world.tree.words g) j ≡ words_after w e g (word_of (w.tree.words g)) j
event-words w (E.Load cpu va z) g j s ev h h' = go (runs_on w cpu) refl
  where
    go : (o : Option Occupant) → runs_on w cpu ≡ o
        → word_of ((on_running w cpu o (λ r. load_happens w cpu r va Load z
        (reach w.tree r.name va Load z))).world.tree.words
        g) j ≡ saved_by (is_left (on_running w cpu o
        (λ r. load_happens w cpu r va Load z (reach w.tree r.name va Load z))).outcome) w o g
        (word_of (w.tree.words g)) j
    go None e = refl
    go (Some r) e = loaded_words w cpu r va Load z (reach w.tree r.name va Load z) g j s.tree
        (s.names_nodes r.name (runs_named w cpu r s e))
event-words w (E.Fetch cpu) g j s ev h h' = go (runs_on w cpu) refl
  where
    go : (o : Option Occupant) → runs_on w cpu ≡ o → word_of ((on_running w cpu o
        (λ r. load_happens w cpu r r.ctx.pc Fetch Word (reach w.tree r.name r.ctx.pc Fetch Word))).world.tree.words g) j
        ≡ saved_by (is_left (on_running w cpu o (λ r. load_happens w cpu r r.ctx.pc Fetch Word
        (reach w.tree r.name r.ctx.pc Fetch Word))).outcome) w o g (word_of (w.tree.words g)) j
    go None e = refl
    go (Some r) e = loaded_words w cpu r r.ctx.pc Fetch Word (reach w.tree r.name r.ctx.pc Fetch Word) g j s.tree
        (s.names_nodes r.name (runs_named w cpu r s e))
event-words w (E.Store cpu va z x) g j s ev h h' = go (runs_on w cpu) refl
  where
    at : (r : Occupant) → runs_on w cpu ≡ Some r → (q : Reached)
        → word_of ((wrote w cpu r va z x q).world.tree.words g) j ≡ saved_by (is_left (wrote w cpu r va z x q).outcome)
        w (Some r) g (word_after_store va z x g q (word_of (w.tree.words g))) j
    at r e (Place k i) = stored_words w.tree va z x g j k i
    at r e (Faulted f) = deliver_words w cpu r (fault_vector f) va (16 * access_number Store + fault_number f) g j
        s.tree (s.names_nodes r.name (runs_named w cpu r s e))

    go : (o : Option Occupant) → runs_on w cpu ≡ o
        → word_of ((on_running w cpu o (λ r. wrote w cpu r va z x (reach w.tree r.name va Store z))).world.tree.words g)
        j ≡ saved_by (is_left (on_running w cpu o (λ r. wrote w cpu r va z x (reach w.tree r.name va Store z))).outcome)
        w o g (word_after_store_by w o va z x g (word_of (w.tree.words g))) j
    go None e = refl
    go (Some r) e = at r e (reach w.tree r.name va Store z)
event-words w (E.Trap cpu k a b) g j s ev h h' = go (runs_on w cpu) refl
  where
    go : (o : Option Occupant) → runs_on w cpu ≡ o
        → word_of ((on_running w cpu o (λ r. deliver w cpu r k a b)).world.tree.words g) j
        ≡ saved_by (is_left (on_running w cpu o (λ r. deliver w cpu r k a b)).outcome) w o g (word_of (w.tree.words g))
        j
    go None e = refl
    go (Some r) e = deliver_words w cpu r k a b g j s.tree (s.names_nodes r.name (runs_named w cpu r s e))
event-words w (E.Call cpu number a) g j s ev h h' = go (runs_on w cpu) refl h'
  where
    go : (o : Option Occupant) → runs_on w cpu ≡ o
        → hidden (on_running w cpu o (λ r. call (call_named number) w cpu r a)).world.tree g ≡ false
        → word_of ((on_running w cpu o (λ r. call (call_named number) w cpu r a)).world.tree.words g) j
        ≡ saved_by_yield (is_left (on_running w cpu o (λ r. call (call_named number) w cpu r a)).outcome) w o a.x2 g
        (word_of (w.tree.words g)) j
    go None e c = refl
    go (Some r) e c =
        call_words (call_named number) w cpu r a g j s.tree (s.names_nodes r.name (runs_named w cpu r s e)) ev.1.1.0 h c
event-words w (E.Raise i) g j s ev h h' = refl
event-words w (E.Poll cpu) g j s ev h h' = poll_words w cpu (runs_on w cpu) g j s refl
event-words w (E.SetContext cpu c) g j s ev h h' = go (runs_on w cpu)
  where
    go : (o : Option Occupant)
        → word_of ((on_running w cpu o (λ r. done (with_running w cpu (Some (record r { ctx = c }))))).world.tree.words
        g) j ≡ word_of (w.tree.words g) j
    go None = refl
    go (Some r) = refl

-- the parent of a node that stays never changes
pub event-up : (w : World) (e : Event) (q : ℕ) → IsSoundWorld w → IsName w.tree q → IsName (event w e).world.tree q
    → (node (event w e).world.tree q).up ≡ (node w.tree q).up
event-up w (E.Call cpu number a) q s n m = go (runs_on w cpu) refl
  where
    of : (k : CallName) (r : Occupant) → runs_on w cpu ≡ Some r → IsName (call k w cpu r a).world.tree q
        → (node (call k w cpu r a).world.tree q).up ≡ (node w.tree q).up
    of (OnMemory k) r e i =
        let name = s.names_nodes r.name (runs_named w cpu r s e) in
        ((laws_of k).keeps w r.name a s.tree name).up q n i
    of Yields r e i = (control_keeps q w.tree _ (yield_control w cpu r a)).up
    of (Masks b) r e i = (control_keeps q w.tree _ (masked_control r.name b w.tree)).up
    of Unknown r e i = refl

    go : (o : Option Occupant) → runs_on w cpu ≡ o
        → (node (on_running w cpu (runs_on w cpu) (λ r. call (call_named number) w cpu r a)).world.tree q).up
        ≡ (node w.tree q).up
    go None e = rw e refl
    go (Some r) e = rw e (of (call_named number) r e
        (subst (λ o. IsName (on_running w cpu o (λ r. call (call_named number) w cpu r a)).world.tree q) e m))
event-up w (E.Load cpu va z) q s n m = (event-node w (E.Load cpu va z) q s n m (λ x. x)).up
event-up w (E.Fetch cpu) q s n m = (event-node w (E.Fetch cpu) q s n m (λ x. x)).up
event-up w (E.Store cpu va z x) q s n m = (event-node w (E.Store cpu va z x) q s n m (λ x. x)).up
event-up w (E.Trap cpu k a b) q s n m = (event-node w (E.Trap cpu k a b) q s n m (λ x. x)).up
event-up w (E.Raise j) q s n m = (event-node w (E.Raise j) q s n m (λ x. x)).up
event-up w (E.Poll cpu) q s n m = (event-node w (E.Poll cpu) q s n m (λ x. x)).up
event-up w (E.SetContext cpu c) q s n m = (event-node w (E.SetContext cpu c) q s n m (λ x. x)).up

-- a call by what runs is never answered by Idle: the case of yield that says so is empty
never_idle : (k : CallName) (w : World) (cpu : ℕ) (r : Occupant) (a : Five) → (call k w cpu r a).outcome ≢ O.Idle
never_idle Yields w cpu r a e = go (first_met cs) (handler w.tree (node_name to) a.x1) refl refl e
  where
    to : Option Node
    to = target_node w.tree r.name a.x0

    cs : List (Bool × Status)
    cs = yield_refusals w r.name a to

    go : (o : Option Status) (h : Option Ctx) → first_met cs ≡ o → handler w.tree (node_name to) a.x1 ≡ h
        → (reply_unless w cpu r o (yield_happens w cpu r a (node_name to) h)).outcome ≢ O.Idle
    go (Some s) h f g q = cc
    go None (Some h) f g q = cc
    go None None f g q = let z : is_none (handler w.tree (node_name to) a.x1) ≡ false = passed cs f S.NoHandler in
        absurd (grind (arith, z, g))
never_idle (OnMemory k) w cpu r a e = cc
never_idle (Masks b) w cpu r a e = cc
never_idle Unknown w cpu r a e = cc

pub calls_answer : (w : World) (cpu n : ℕ) (a : Five) (r : Occupant) → runs_on w cpu ≡ Some r
    → (event w (E.Call cpu n a)).outcome ≢ O.Idle
calls_answer w cpu n a r e q = never_idle (call_named n) w cpu r a
    (cc)
