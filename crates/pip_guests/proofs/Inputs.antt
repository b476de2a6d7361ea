-- Inputs: a guest depends on its own events and on what partitions above do to it; and which of their events are
-- inputs.
use Rattle.std.proofs.Common.{◌≡◌, ◌≢◌, ℕ, ◌+◌, ◌^◌, ◌%◌, ◌/◌, ◌*◌, ◌-◌, ◌==◌, ◌&&◌, inl, inr, Bool, true, false, cond}
use Rattle.std.proofs.Common.{List, ◌∷◌, refl, sym, ap, ap₂, ◌∙◌, subst, arith, Option, Some, None}
use Rattle.std.specs.Prelude.{option_map, nat_le, nat_lt}
use Rattle.std.specs.List.{AllByRecursion}
use Rattle.std.proofs.lemmas.Bool.{cases_Bool, cases_eq, false_from_ne_true, ne_eqb}
use Rattle.pip_base.specs.Status.{status_number}
use Rattle.pip_base.specs.declared.outcome.Outcome.TheVariants as O
use Rattle.pip_base.specs.declared.outcome.Status.{Status}
use Rattle.pip_base.specs.declared.types.Access.TheVariants.{Store}
use Rattle.pip_base.specs.declared.types.Ctx.{Ctx}
use Rattle.pip_base.specs.declared.types.Size.{Size}
use Rattle.pip_base.specs.declared.types.Size.TheVariants.{Byte, Word}
use Rattle.pip_model.specs.Answers.{Answer, Five, first_met}
use Rattle.pip_model.specs.Events.{Event, IsEvent}
use Rattle.pip_model.specs.Events as E
use Rattle.pip_model.specs.Handlers.{context_word, handler, saved_to, written_block}
use Rattle.pip_model.specs.Happens.{what_happens, after, call, call_named, event, on_running, with_word, wrote}
use Rattle.pip_model.specs.Happens.{written_over}
use Rattle.pip_model.specs.Lists.{In, has}
use Rattle.pip_model.specs.Local.{actor}
use Rattle.pip_model.specs.Poll.{occupant_name}
use Rattle.pip_model.specs.Reach.{Faulted, Place, Reached, reach}
use Rattle.pip_model.specs.Switching.{node_name, reply_happens, reply_unless, target_node, with_reply, with_zeros}
use Rattle.pip_model.specs.Switching.{yield, yield_place, yield_refusals, yield_happens, yielded_tree}
use Rattle.pip_model.specs.Tree.{Tree, ancestry, node, row_pages, word_of}
use Rattle.pip_model.specs.Worlds.{IsSoundWorld, World, runs_on}
use Rattle.pip_model.specs.Sound.{IsSound}
use Rattle.pip_model.specs.declared.processors.Occupant.{Occupant}
use Rattle.pip_model.proofs.OnLists.Members.{has_in, in_has}
use Rattle.pip_model.proofs.Events.Soundness.{at_cpu, event-sound, runs_named}
use Rattle.pip_model.proofs.Locality.Agree.{AgreeTrees}
use Rattle.pip_model.proofs.Locality.Leaves.{LeavesTree}
use Rattle.pip_model.proofs.Locality.OneEvent.{at_set_here, at_set_other, replied_to, stored-agree, to_worlds}
use Rattle.pip_model.proofs.Trees.Free.{IsName}
use Rattle.pip_model.proofs.Trees.Numbers.{reached_small}
use Rattle.pip_guests.specs.Guests.{IsSameGuest, is_of_guest, is_own, learns, learns_own}
use Rattle.pip_guests.specs.Inputs.{CallsAreInputs, CallsOn, Enters, EntriesAreInputs, GuestsDependOnInputs, RunAlike}
use Rattle.pip_guests.specs.Inputs.{StoresAreInputs, StoresTo, asked, ended, first, input, own, second}
use Rattle.pip_guests.proofs.Lines.{agree_sym, agree_trans, below_before, line_alike, line_name, line_top, not_top}
use Rattle.pip_guests.proofs.Lines.{own_line, top_alone}
use Rattle.pip_guests.proofs.Moves.{call_by, store_by}
use Rattle.pip_guests.proofs.Taking.{handlers, trees}
use Rattle.pip_guests.proofs.Inside.{actor_runs, one_way}
use Rattle.pip_guests.proofs.Asking.{asked_same}
use Rattle.pip_guests.proofs.Elsewhere.{masked_agrees, name_after, name_kept, same_sym, same_trans}
use Rattle.pip_guests.proofs.Together.{guest_of, step_name, step_same}

-- ---- two runs with the same inputs

record Alike (p : ℕ) (w : World) (es : List Event) (v : World) (fs : List Event) : Type 0 where
  answers : learns_own p w es ≡ learns_own p v fs
  guest : IsSameGuest p (after w es) (after v fs)

-- what a guest learns of its own event, and of another's
learns_first : (p : ℕ) (w : World) (e : Event) (es : List Event) (b : Bool) → is_of_guest p w e ≡ b → learns_own p w
    (e ∷ es) ≡ cond b (learns p w e ∷ learns_own p (event w e).world es) (learns_own p (event w e).world es)
learns_first p w e es b q =
    rw q

run_alike : (p : ℕ) (w : World) (es : List Event) (v : World) (fs : List Event) → RunAlike p w es v fs → IsSoundWorld w
    → IsSoundWorld v → IsName w.tree p → p ≢ w.tree.root.name → IsSameGuest p w v → AllByRecursion IsEvent es
    → AllByRecursion IsEvent fs → Alike p w es v fs
run_alike p _ _ _ _ (ended {w = w} {v = v}) s s' n m g all all' = record { answers = refl; guest = g }
run_alike p _ _ _ _ (own {w = w} {v = v} {es = es} {fs = fs} e i rest) s s' n m g all all' =
    let z = step_same w v p e s s' all.0 m g i in
    let sw = event-sound w e s all.0 in
    let h = run_alike p (event w e).world es (event v e).world fs rest sw (event-sound v e s' all.0) (step_name w p e s
    all.0 m i n) (not_top w.tree (event w e).world.tree s.tree sw.tree p m) z.guest all.1 all'.1 in
    record {
      answers = learns_first p w e es true (guest_of w p e i) ∙ ap₂ (λ x l. x ∷ l) z.answer h.answers
          ∙ sym (learns_first p v e fs true (guest_of v p e z.there));
      guest = h.guest;
    }
run_alike p _ _ _ _ (asked {w = w} {v = v} {es = es} {fs = fs} e i rest) s s' n m g all all' =
    let sw = event-sound w e s all.0 in
    let z = asked_same w v p e s s' all.0 n m g i in
    let h = run_alike p (event w e).world es (event v e).world fs rest sw (event-sound v e s' all.0) z.name
    (not_top w.tree (event w e).world.tree s.tree sw.tree p m) z.guest all.1 all'.1 in
    record {
      answers = learns_first p w e es true z.own ∙ ap₂ (λ x l. x ∷ l) i.answer h.answers
          ∙ sym (learns_first p v e fs true z.own_there);
      guest = h.guest;
    }
run_alike p _ _ _ _ (input {w = w} {v = v} {es = es} {fs = fs} e f i rest) s s' n m g all all' =
    let sw = event-sound w e s all.0 in
    let h = run_alike p (event w e).world es (event v f).world fs rest sw (event-sound v f s' all'.0) i.name
    (not_top w.tree (event w e).world.tree s.tree sw.tree p m) i.guest all.1 all'.1 in
    record {
      answers = cc (learns_first p w e es false i.others, h.answers, learns_first p v f fs false i.others_there);
      guest = h.guest;
    }
run_alike p _ _ _ _ (first {w = w} {v = v} {es = es} {fs = fs} e i rest) s s' n m g all all' =
    let sw = event-sound w e s all.0 in
    let n' = name_kept w (event w e).world p s sw n i.same in
    let back = same_trans p (event w e).world w v sw s s' n' (same_sym p w (event w e).world s sw n i.same) g in
    let h = run_alike p (event w e).world es v fs rest sw s' n'
    (not_top w.tree (event w e).world.tree s.tree sw.tree p m) back all.1 all' in
    record { answers = learns_first p w e es false i.others ∙ h.answers; guest = h.guest }
run_alike p _ _ _ _ (second {w = w} {v = v} {es = es} {fs = fs} f i rest) s s' n m g all all' =
    let sv = event-sound v f s' all'.0 in
    let on = same_trans p w v (event v f).world s s' sv n g i.same in
    let h = run_alike p w es (event v f).world fs rest s sv n m on all all'.1 in
    record { answers = cc (h.answers, learns_first p v f fs false i.others); guest = h.guest }

pub guests_depend_on_inputs : GuestsDependOnInputs
guests_depend_on_inputs w v p es fs s s' n m g all all' r = let h = run_alike p w es v fs r s s' n m g all all' in
    (h.answers, h.guest)

-- ---- entries

-- an event of a partition that is not of the guest is none of the guest's
pub not_guests : (w : World) (p : ℕ) (e : Event) → (In p (ancestry w.tree (actor w e)) → ⊥)
    → (is_own e && has (ancestry w.tree (actor w e)) p) ≡ false
not_guests w p e h = go (is_own e)
  where
    go : (b : Bool) → (b && has (ancestry w.tree (actor w e)) p) ≡ false
    go true = false_from_ne_true _ (λ z. h (has_in p _ z))
    go false = refl

-- a save to no page of the guest leaves its words
pub saved_apart : (t : Tree) (c : Ctx) (q : Reached) (g j : ℕ) → ((h i : ℕ) → q ≡ Place h i → h ≢ g)
    → word_of ((saved_to t c q).words g) j ≡ word_of (t.words g) j
saved_apart t c q g j d = go (t.words g) q d
  where
    go : (o : Option (ℕ → ℕ)) (q : Reached) → ((h i : ℕ) → q ≡ Place h i → h ≢ g)
        → word_of (option_map (λ old. written_block c g q old) o) j ≡ word_of o j
    go None q d = refl
    go (Some w) (Faulted f) d = refl
    go (Some w) (Place h i) d =
        rw (ne_eqb h g (d h i refl))

-- nor does the mask of the root matter
pub yielded_agrees : (t : Tree) (p s : ℕ) (r : Occupant) → IsSound t → p ≢ t.root.name → ((g i : ℕ)
    → yield_place t r.name s ≡ Place g i → In g (row_pages (node t p)) → ⊥) → AgreeTrees p t (yielded_tree t r s)
yielded_agrees t p s r sound m apart =
    let u = saved_to t (with_zeros r.ctx) (yield_place t r.name s) in
    let a = masked_agrees u p m (top_alone t sound p) (cond (r.name == t.root.name) false t.root.masked) in
    record {
      to = a.to;
      from = a.from;
      words = λ g i j l. saved_apart t (with_zeros r.ctx) (yield_place t r.name s) g i
          (λ h k e z. apart h k e (rw z j));
    }

-- one world after a yield into the guest
record Entered (p q k cpu : ℕ) (w after : World) : Type 0 where
  trees : AgreeTrees p w.tree after.tree
  here : (c : Ctx) × (handler w.tree q k ≡ Some c) × (runs_on after cpu ≡ Some (record { name = q; ctx = c }))
  cpus : (i : ℕ) → i ≢ cpu → runs_on after i ≡ runs_on w i

yield_entered : (w : World) (p q k cpu n x : ℕ) (r : Occupant) (a : Five) (o : Option Status) (h : Option Ctx)
    → IsSoundWorld w → p ≢ w.tree.root.name → runs_on w cpu ≡ Some r
    → ((g i : ℕ) → yield_place w.tree r.name a.x2 ≡ Place g i → In g (row_pages (node w.tree p)) → ⊥)
    → handler w.tree x a.x1 ≡ h → (reply_unless w cpu r o (yield_happens w cpu r a x h)).outcome ≡ O.Switched n q k
    → Entered p q k cpu w (reply_unless w cpu r o (yield_happens w cpu r a x h)).world
yield_entered w p q k cpu n x r a (Some st) h s m runs apart e z = cc
yield_entered w p q k cpu n x r a None None s m runs apart e z = cc
yield_entered w p q k cpu n x r a None (Some c) s m runs apart e z =
    let to : x ≡ q = cc in
    let vector : a.x1 ≡ k = cc in
    record {
      trees = yielded_agrees w.tree p a.x2 r s.tree m apart;
      here = (
        c,
        ap₂ (λ x k. handler w.tree x k) (sym to) (sym vector) ∙ e,
        rw (at_set_here (Some (record { name = x; ctx = c })) w.cpus cpu r runs, to),
      );
      cpus = λ i d. at_set_other (Some (record { name = x; ctx = c })) w.cpus cpu i d;
    }

entered : (w : World) (p q k cpu number : ℕ) (a : Five) → IsSoundWorld w → p ≢ w.tree.root.name
    → Enters p q k w cpu number a → Entered p q k cpu w (event w (E.Call cpu number a)).world
entered w p q k cpu number a s m en = from_acted (go (runs_on w cpu) refl)
  where
    e : Event
    e = E.Call cpu number a

    from_acted : Entered p q k cpu w (what_happens w e).world → Entered p q k cpu w (event w e).world
    from_acted h = record {
      trees = assumption;
      here = h.here;
      cpus = h.cpus;
    }

    go : (o : Option Occupant) → runs_on w cpu ≡ o → Entered p q k cpu w (what_happens w e).world
    go None z =
        let idle = ap (λ o. (on_running w cpu o (λ r. call (call_named number) w cpu r a)).outcome) z in
        let both : O.Idle ≡ O.Switched (actor w e) q k = cc (en.switched) in cc
    go (Some r) z =
        let t = target_node w.tree r.name a.x0 in
        let one : what_happens w e ≡ yield w cpu r a = rw (call_by w r cpu number a z, en.yields) in
        let apart = λ (g i : ℕ) (d : yield_place w.tree r.name a.x2 ≡ Place g i).
        en.saved g i (ap (λ o. yield_place w.tree (occupant_name o) a.x2) z ∙ d) in
        rw one (yield_entered w p q k cpu (actor w e) (node_name t) r a (first_met (yield_refusals w r.name a t))
        (handler w.tree (node_name t) a.x1) s m z apart refl (ap (λ h. h.outcome) (sym one) ∙ en.switched))

pub entries_are_inputs : EntriesAreInputs
entries_are_inputs w v p q k cpu number number2 a b s s' ev ev' m g en en' =
    let e = E.Call cpu number a in
    let f = E.Call cpu number2 b in
    let sw = event-sound w e s ev in
    let sv = event-sound v f s' ev' in
    let n = line_top w.tree s.tree p q en.target in
    let tr = trees w v p s s' g in
    let n' = name_after p w.tree v.tree s.tree s'.tree n tr in
    let x = entered w p q k cpu number a s m en in
    let y = entered v p q k cpu number2 b s' (not_top w.tree v.tree s.tree s'.tree p m) en' in
    let (c, hc, on) = x.here in
    let (d, hd, on') = y.here in
    let same : ◌≡◌ {A = Option Ctx} (Some c) (Some d) = cc (handlers w v p s s' g q k en.target) in
    let ctx : c ≡ d = cc in
    let here = on ∙ ap (λ c. Some (record { name = q; ctx = c })) ctx ∙ sym on' in
    let back = agree_trans (event w e).world.tree w.tree (event v f).world.tree p sw.tree s.tree
    (name_after p w.tree (event w e).world.tree s.tree sw.tree n x.trees) (agree_sym w.tree (event w e).world.tree p
    s.tree sw.tree n x.trees) (agree_trans w.tree v.tree (event v f).world.tree p s.tree s'.tree n tr y.trees) in
    record {
      others = not_guests w p e en.outside;
      others_there = not_guests v p f en'.outside;
      name = name_after p w.tree (event w e).world.tree s.tree sw.tree n x.trees;
      guest = record {
        below = to_worlds p _ _ back;
        runs = one_way w v (event w e).world (event v f).world p cpu s (λ a i h.
            below_before w.tree (event w e).world.tree p a s.tree sw.tree n x.trees h) x.cpus y.cpus here g.runs;
        runs_back = one_way v w (event v f).world (event w e).world p cpu s' (λ a i h. below_before v.tree
            (event v f).world.tree p a s'.tree sv.tree n' y.trees h) y.cpus x.cpus (sym here) g.runs_back;
      };
    }

-- ---- stores

-- a value that is stored to a place in both of two trees that agree
place_agrees : (t u : Tree) (p g i x y : ℕ) → AgreeTrees p t u → (In g (row_pages (node t p)) → x ≡ y)
    → AgreeTrees p (with_word t g i x) (with_word u g i y)
place_agrees t u p g i x y a same = elim (cases_Bool (has (row_pages (node t p)) g)) [
  | inl e ↦ let j = has_in g _ e in stored-agree t u p g i x y a j (same j)
  | inr e ↦ record {
    to = a.to;
    from = a.from;
    words = λ k j l b.
        let d : k ≢ g = λ z. let h = in_has g _ (rw z at l) in
        absurd (grind (arith, e, h)) in
        let off = ne_eqb k g d in
        cc (a.words k j l b);
  }
]

-- one world after a store to a place
record Stored (g i x : ℕ) (w after : World) : Type 0 where
  tree : after.tree ≡ with_word w.tree g i x
  cpus : after.cpus ≡ w.cpus

stored : (w : World) (p g i cpu va : ℕ) (size : Size) (x : ℕ) → IsSoundWorld w → StoresTo p g i w cpu va size x
    → Stored g i (written_over va size x (word_of (w.tree.words g) i)) w (event w (E.Store cpu va size x)).world
stored w p g i cpu va size x s st =
    let e = E.Store cpu va size x in
    let (r, k, q) = actor_runs w (actor w e) e s (own_line w.tree s.tree (actor w e) st.runs) in
    let one = store_by w r cpu va size x k
    ∙ ap (wrote w cpu r va size x) (ap (λ a. reach w.tree a va Store size) (sym q) ∙ st.place) in
    record { tree = cc; cpus = cc }

-- the address counts by its byte alone
written_same : (va va2 : ℕ) (size : Size) (x m : ℕ) → va % 4 ≡ va2 % 4
    → written_over va size x m ≡ written_over va2 size x m
written_same va va2 Word x m e = refl
written_same va va2 Byte x m e = rw e

pub stores_are_inputs : StoresAreInputs
stores_are_inputs w v p g i cpu cpu2 va va2 size x s s' ev ev' byte n m same st st' =
    let e = E.Store cpu va size x in
    let f = E.Store cpu2 va2 size x in
    let one = stored w p g i cpu va size x s st in
    let two = stored v p g i cpu2 va2 size x s' st' in
    let tr = trees w v p s s' same in
    let small = reached_small w.tree (actor w e) va g i Store size st.place in
    let on = place_agrees w.tree v.tree p g i _ _ tr (λ j. ap (written_over va size x) (sym (tr.words g i j small))
    ∙ written_same va va2 size x (word_of (v.tree.words g) i) byte) in
    let both : AgreeTrees p (event w e).world.tree (event v f).world.tree =
    rw one.tree (subst (AgreeTrees p (with_word w.tree g i (written_over va size x (word_of (w.tree.words g) i))))
    (sym two.tree) on) in
    record {
      others = not_guests w p e st.outside;
      others_there = not_guests v p f st'.outside;
      name = rw one.tree n;
      guest = record {
        below = to_worlds p _ _ both;
        runs = λ j r h z. ap (λ cs. at_cpu cs j) two.cpus ∙ same.runs j r
            (subst (λ t. In p (ancestry t r.name)) one.tree h) (sym (ap (λ cs. at_cpu cs j) one.cpus) ∙ z);
        runs_back = λ j r h z. ap (λ cs. at_cpu cs j) one.cpus ∙ same.runs_back j r
            (subst (λ t. In p (ancestry t r.name)) two.tree h) (sym (ap (λ cs. at_cpu cs j) two.cpus) ∙ z);
      };
    }

-- ---- calls

-- one world after a call that does not switch, by a partition that is not of the guest
record Called (p cpu : ℕ) (w after : World) : Type 0 where
  before : (z : Occupant) → runs_on w cpu ≡ Some z → In p (ancestry w.tree z.name) → ⊥
  here : (z : Occupant) → runs_on after cpu ≡ Some z → In p (ancestry after.tree z.name) → ⊥
  lines : (n : ℕ) → IsName w.tree n → In p (ancestry after.tree n) → In p (ancestry w.tree n)
  cpus : (i : ℕ) → i ≢ cpu → runs_on after i ≡ runs_on w i

called : (w : World) (p cpu number : ℕ) (a : Five) → IsSoundWorld w → CallsOn p w cpu number a
    → Called p cpu w (event w (E.Call cpu number a)).world
called w p cpu number a s c =
    let e = E.Call cpu number a in
    let (r, k, q) = actor_runs w (actor w e) e s (own_line w.tree s.tree (actor w e) c.runs) in
    let (b, one, l) = replied_to (call_named number) w cpu r a c.plain s k in
    from_acted (subst (λ h. Called p cpu w h.world) (sym (call_by w r cpu number a k ∙ one)) (after r b k l
    (λ h. c.outside (subst (λ n. In p (ancestry w.tree n)) (sym q) h))))
  where
    from_acted : Called p cpu w (what_happens w (E.Call cpu number a)).world
        → Called p cpu w (event w (E.Call cpu number a)).world
    from_acted h = assumption

    after : (r : Occupant) (b : Answer) → runs_on w cpu ≡ Some r → LeavesTree r.name w.tree b.tree
        → (In p (ancestry w.tree r.name) → ⊥) → Called p cpu w (reply_happens w cpu r b).world
    after r b k l out =
        let q : Occupant =
        record r { ctx = record r.ctx { regs = with_reply (status_number b.status) b.value r.ctx.regs } } in
        record {
          before = λ z e h. let u : Some r ≡ Some z = cc in let d : r ≡ z = cc in
              out (rw d h);
          here = λ z e h.
              let u : Some q ≡ Some z = rw (← at_set_here (Some q) w.cpus cpu r k) e in
              let d : q ≡ z = cc in
              let g : In p (ancestry b.tree r.name) =
              rw (← d) at h in
              out ((l.lines r.name p (s.names_nodes r.name (runs_named w cpu r s k)) (line_name b.tree r.name p g)).1
              g);
          lines = λ n i h. (l.lines n p i (line_name b.tree n p h)).1 h;
          cpus = λ i d. at_set_other (Some q) w.cpus cpu i d;
        }

-- what of the guest runs in the one runs in the other
goes_on : (w v w' v' : World) (p cpu cpu2 : ℕ) → IsSoundWorld w → Called p cpu w w' → Called p cpu2 v v'
    → ((n : ℕ) → In p (ancestry w.tree n) → In p (ancestry v.tree n))
    → ((i : ℕ) (r : Occupant) → In p (ancestry w.tree r.name) → runs_on w i ≡ Some r → runs_on v i ≡ Some r)
    → (i : ℕ) (r : Occupant) → In p (ancestry w'.tree r.name) → runs_on w' i ≡ Some r → runs_on v' i ≡ Some r
goes_on w v w' v' p cpu cpu2 s x y there g i r h e = elim (cases_eq i cpu) [
  | inl d ↦ absurd (x.here r (rw (← d) e) h)
  | inr d ↦
      let old : runs_on w i ≡ Some r = rw (← x.cpus i d) e in
      let below = x.lines r.name (s.names_nodes r.name (runs_named w i r s old)) h in
      let other = g i r below old in
      elim (cases_eq i cpu2) [
        | inl c ↦ absurd (y.before r (rw (← c) other) (there r.name below))
        | inr c ↦ cc (y.cpus i c)
      ]
]

pub calls_are_inputs : CallsAreInputs
calls_are_inputs w v p cpu cpu2 number number2 a b s s' n g c c' agree =
    let e = E.Call cpu number a in
    let f = E.Call cpu2 number2 b in
    let x = called w p cpu number a s c in
    let y = called v p cpu2 number2 b s' c' in
    let tr = trees w v p s s' g in
    record {
      others = not_guests w p e c.outside;
      others_there = not_guests v p f c'.outside;
      name = c.name;
      guest = record {
        below = agree;
        runs = goes_on w v (event w e).world (event v f).world p cpu cpu2 s x y
            (λ n h. line_alike w.tree v.tree p s.tree s'.tree tr n h) g.runs;
        runs_back = goes_on v w (event v f).world (event w e).world p cpu2 cpu s' y x
            (λ m h. below_before w.tree v.tree p m s.tree s'.tree n tr h) g.runs_back;
      };
    }
