-- One event in two worlds that look alike, and that reads no word by which they differ.
use Rattle.std.proofs.Common.{◌≡◌, ℕ, ◌+◌, ◌*◌, ◌==◌, ◌&&◌, ◌||◌, inl, not, Bool, true, false, cond, List}
use Rattle.std.proofs.Common.{[], ◌∷◌, refl, sym, ap, ◌∙◌, subst, eqb-true, Option, Some, None}
use Rattle.std.specs.Prelude.{filter, is_none, is_some, nat_le, nat_lt}
use Rattle.pip_base.specs.Status.{status_number}
use Rattle.pip_base.specs.declared.outcome.Outcome.{Outcome}
use Rattle.pip_base.specs.declared.outcome.Outcome.TheVariants as O
use Rattle.pip_base.specs.declared.outcome.Status.{Status}
use Rattle.pip_base.specs.declared.outcome.Status.TheVariants as S
use Rattle.pip_base.specs.declared.types.Access.{Access}
use Rattle.pip_base.specs.declared.types.Access.TheVariants.{Load, Store, Fetch}
use Rattle.pip_base.specs.declared.types.Ctx.{Ctx}
use Rattle.pip_base.specs.declared.types.Size.{Size}
use Rattle.pip_base.specs.declared.types.Size.TheVariants.{Word}
use Rattle.pip_model.specs.Answers.{Answer, Five, first_met, refuse}
use Rattle.pip_model.specs.Cache.{Places}
use Rattle.pip_model.specs.Deliver.{deliver, deliver_to, nearest_above, nearest_among, nearest_taker, taker_or}
use Rattle.pip_model.specs.Events as E
use Rattle.pip_model.specs.Events.{Event}
use Rattle.pip_model.specs.Handlers.{can_save, handler, save, save_place, saved_to}
use Rattle.pip_model.specs.Happens.{access_number, what_happens, answer, call, call_named, fault_number, fault_vector}
use Rattle.pip_model.specs.Happens.{load_happens, on_running, written_over, wrote}
use Rattle.pip_model.specs.Lists.{In, has}
use Rattle.pip_model.specs.Poll.{lowest_line, may_take, none_taken, occupant_name, poll, poll_line}
use Rattle.pip_model.specs.Poll.{runs_elsewhere, take_line}
use Rattle.pip_model.specs.Reach.{Faulted, Place, Reached, Unmapped, reach}
use Rattle.pip_model.specs.Switching.{reply_happens, reply_unless, target_node, with_reply, with_zeros, yield, yield_to}
use Rattle.pip_model.specs.Switching.{yield_happens, yield_place, yield_refusals, yielded_tree}
use Rattle.pip_model.specs.Tree.{Node, chain, is_place, word_of}
use Rattle.pip_model.specs.Worlds.{Happened, World, done, handler_context, running, runs_on}
use Rattle.pip_model.specs.Worlds.{save_running, with_masked, with_pending, with_running}
use Rattle.pip_model.specs.declared.call_name.CallName.{CallName}
use Rattle.pip_model.specs.declared.call_name.CallName.TheVariants.{Masks, OnMemory, Unknown, Yields}
use Rattle.pip_model.specs.declared.processors.Occupant.{Occupant}
use Rattle.pip_model.specs.declared.processors.Taker.{Taker}
use Rattle.pip_guests.specs.Outside.{AboveMiss, AlikeCpus, AlikeOn, AlikeTrees, AlikeWord, ByRunner, DeliveryMisses}
use Rattle.pip_guests.specs.Outside.{HandlerMisses, HandlersMiss, LoadMisses, MemoryMisses, SaveMisses}
use Rattle.pip_guests.specs.Outside.{StoreMisses}
use Rattle.pip_guests.specs.Outside.{CallMisses, Lands, LinesMiss, OutsideDependsOnOutside, PollMisses, ReadsOutside}
use Rattle.pip_guests.specs.Outside.{YieldMisses, one_mask}
use Rattle.pip_model.specs.declared.call_name.MemoryCall.{MemoryCall}
use Rattle.pip_model.specs.declared.call_name.MemoryCall.TheVariants.{AddVAddr, Collect, CountToMap, CreatePartition}
use Rattle.pip_model.specs.declared.call_name.MemoryCall.TheVariants.{DeletePartition, MappedInChild, Prepare}
use Rattle.pip_model.specs.declared.call_name.MemoryCall.TheVariants.{RemoveVAddr}
use Rattle.pip_guests.proofs.Answered.{AlikeAnswers, add_alike, collect_alike, count_alike, create_alike, delete_alike}
use Rattle.pip_guests.proofs.Answered.{mapped_alike, prepare_alike, remove_alike}
use Rattle.pip_guests.proofs.Alikes.{trees_on}
use Rattle.pip_guests.proofs.Masks.{bare_alike, masks_tell_nothing}
use Rattle.pip_guests.proofs.Runners.{at_alike, count_same, names_same, set_alike}
use Rattle.pip_guests.proofs.Seen.{AlikeHandlers, AlikePlaces, handler_same, place_same, reached_same, saved_alike}

-- two outcomes are one, and the worlds look alike
pub record Both (own : List ℕ) (look : ℕ → ℕ → ℕ → ℕ) (a b : Happened) : Type 0 where
  pub outcome : a.outcome ≡ b.outcome
  pub tree : AlikeTrees look a.world.tree b.world.tree
  pub cpus : AlikeCpus own a.world.cpus b.world.cpus

-- two that take one vector
abbrev AlikeTakers : List ℕ → Option Taker → Option Taker → Type 0
AlikeTakers own None None = Unit {0}
AlikeTakers own None (Some y) = ⊥
AlikeTakers own (Some x) None = ⊥
AlikeTakers own (Some x) (Some y) =
    (x.to ≡ y.to) × (x.born ≡ y.born) × ((In x.to own → ⊥) → x.handler ≡ y.handler)

-- the status of a yield that has no target
abbrev no_target : Five → Status
no_target a = cond (not (a.x0 == 1) && not (is_place a.x0)) S.NotAligned S.NotChild

abbrev refused_as : World → ℕ → Occupant → Status → Happened
refused_as w cpu r z = reply_happens w cpu r (refuse w.tree z)

none_refused : (w : World) (p : ℕ) (a : Five) → first_met (yield_refusals w p a None) ≡ Some (no_target a)
none_refused w p a = go (not (a.x0 == 1) && not (is_place a.x0))
  where
    go : (b : Bool) → cond b (Some S.NotAligned) (Some S.NotChild) ≡ Some (cond b S.NotAligned S.NotChild)
    go true = refl
    go false = refl

module _ (own : List ℕ) (look : ℕ → ℕ → ℕ → ℕ) (w : World) (u : ℕ → Option (ℕ
    → ℕ)) (ds : List (Option Occupant)) (ks : List Places)
    (h : (g : ℕ) → AlikeWord look g (w.tree.words g) (u g)) (c : AlikeCpus own w.cpus ds) where
  -- the other world
  abbrev v : World
  v = record { tree = record w.tree { words = u }; cpus = ds; caches = ks }

  running_same : running w ≡ running v
  running_same = names_same own w.cpus ds c

  still : (o : Outcome) → Both own look (record { outcome = o; world = w }) (record { outcome = o; world = v })
  still o = record { outcome = refl; tree = record { nodes = refl; words = h }; cpus = c }

  -- ---- who takes a vector

  take_or : (b : Bool) (q : Node) (born : ℕ) (x y : Option Ctx) (xs ys : Option Taker) → (b ≡ false
      → AlikeHandlers own q.name x y) → AlikeTakers own xs ys
      → AlikeTakers own (taker_or b x q born xs) (taker_or b y q born ys)
  take_or true q born x y xs ys k r = r
  take_or false q born None None xs ys k r = r
  take_or false q born None (Some y) xs ys k r = absurd (k refl)
  take_or false q born (Some x) None xs ys k r = absurd (k refl)
  take_or false q born (Some x) (Some y) xs ys k r = (refl, refl, k refl)

  among_alike : (k born : ℕ) (qs : List Node) → HandlersMiss own look w k qs
      → AlikeTakers own (nearest_among w k born qs) (nearest_among v k born qs)
  among_alike k born [] m = tt
  among_alike k born (q ∷ qs) m =
      rw (← running_same) (take_or (has (running w) q.name) q born (handler w.tree q.name k) (handler v.tree q.name k)
      (nearest_among w k q.born qs) (nearest_among v k q.born qs)
      (λ b. handler_same own look w.tree u h q.name k (m.0 b)) (among_alike k q.born qs m.1))

  above_alike : (k : ℕ) (ps : List Node) → AboveMiss own look w k ps
      → AlikeTakers own (nearest_above w k ps) (nearest_above v k ps)
  above_alike k [] m = tt
  above_alike k (p ∷ qs) m = among_alike k p.born qs m

  -- ---- a partition that runs, with a context that may be another there

  module _ (cpu : ℕ) (r : Occupant) (d : Ctx) (e : (In r.name own → ⊥) → r.ctx ≡ d) where
    abbrev s : Occupant
    s = record r { ctx = d }

    saved : (k : ℕ) → SaveMisses own look w.tree r.name k
        → AlikeTrees look (save w.tree r.name k r.ctx) (save v.tree s.name k s.ctx)
    saved k m = saved_alike own look w.tree u h r.ctx d r.name (save_place w.tree r.name k)
        (save_place v.tree r.name k) e m.lands (place_same own look w.tree u h r.name k m.entry)

    delivered : (k a b : ℕ) → DeliveryMisses own look w r.name k
        → Both own look (deliver w cpu r k a b) (deliver v cpu s k a b)
    delivered k a b m =
        go (nearest_taker w r.name k) (nearest_taker v r.name k) (above_alike k (chain w.tree r.name) m.handlers)
      where
        go : (x y : Option Taker) → AlikeTakers own x y
            → Both own look (deliver_to w cpu r k a b x) (deliver_to v cpu s k a b y)
        go None None l =
            record { outcome = refl; tree = saved 63 m.save; cpus = set_alike own w.cpus ds cpu None None c tt }
        go None (Some y) l = absurd l
        go (Some x) None l = absurd l
        go (Some x) (Some y) l = record {
          outcome = rw l.0;
          tree = saved 63 m.save;
          cpus = set_alike own w.cpus ds cpu _ _ c
              (l.0, (λ n. let f = l.2 n in let g = l.1 in λ i. handler_context (f i) k a b (g i)));
        }

    loaded : (va : ℕ) (a : Access) (z : Size) (q : Reached) → LoadMisses own look w r.name q
        → Both own look (load_happens w cpu r va a z q) (load_happens v cpu s va a z q)
    loaded va a z (Place g i) m = record {
      outcome = rw (m _ _ ((h g).words i));
      tree = record { nodes = refl; words = h };
      cpus = c;
    }
    loaded va a z (Faulted f) m = delivered (fault_vector f) va (16 * access_number a + fault_number f) m

    written : (va : ℕ) (z : Size) (x : ℕ) (q : Reached) → StoreMisses own look w r.name va z q
        → Both own look (wrote w cpu r va z x q) (wrote v cpu s va z x q)
    written va z x (Place g i) m =
        record { outcome = refl; tree = record { nodes = refl; words = λ k. at k (k == g) refl }; cpus = c }
      where
        word : (j : ℕ) (b : Bool) → (j == i) ≡ b
            → look g j (cond b (written_over va z x (word_of (w.tree.words g) i)) (word_of (w.tree.words g) j))
            ≡ look g j (cond b (written_over va z x (word_of (u g) i)) (word_of (u g) j))
        word j false e = (h g).words j
        word j true e = rw (eqb-true j i e) (m x _ _ ((h g).words i))

        at : (k : ℕ) (b : Bool) → (k == g) ≡ b → AlikeWord look k
            (cond b (Some (λ j. cond (j == i) (written_over va z x (word_of (w.tree.words g) i))
            (word_of (w.tree.words g) j))) (w.tree.words k))
            (cond b (Some (λ j. cond (j == i) (written_over va z x (word_of (u g) i)) (word_of (u g) j))) (u k))
        at k false e = h k
        at k true e =
            record {
              there = refl;
              words = λ j. rw (eqb-true k g e) (word j (j == i) refl);
            }
    written va z x (Faulted f) m = delivered (fault_vector f) va (16 * access_number Store + fault_number f) m

    -- ---- calls

    replied : (a b : Answer) → AlikeAnswers look a b → Both own look (reply_happens w cpu r a)
        (reply_happens v cpu s b)
    replied a b k =
        let st = k.status in
        let vl = k.value in
        record {
          outcome = λ i. O.Reply (st i) (vl i);
          tree = k.tree;
          cpus = set_alike own w.cpus ds cpu _ _ c (
            refl,
            (λ n. let f = e n in
                λ i. record (f i) { regs = with_reply (status_number (st i)) (vl i) (f i).regs }),
          );
        }

    refused : (z : Status) → Both own look (reply_happens w cpu r (refuse w.tree z)) (reply_happens v cpu s
        (refuse v.tree z))
    refused z = replied _ _ (record { status = refl; value = refl; tree = record { nodes = refl; words = h } })

    answered : (a : Five) (k : MemoryCall) → MemoryMisses look w.tree r.name a k
        → AlikeAnswers look (answer k w r.name a) (answer k v r.name a)
    answered a CreatePartition m = create_alike look w.tree u h r.name a
    answered a DeletePartition m =
        rw (← running_same) (delete_alike look w.tree u h (running w) r.name a.x0)
    answered a CountToMap m = count_alike look w.tree u h r.name a
    answered a Prepare m = prepare_alike look w.tree u h r.name a m
    answered a Collect m = collect_alike look w.tree u h r.name a
    answered a AddVAddr m = add_alike look w.tree u h r.name a
    answered a RemoveVAddr m = remove_alike look w.tree u h r.name a
    answered a MappedInChild m = mapped_alike look w.tree u h r.name a

    unless : (o : Option Status) (x y : Happened) → Both own look x y
        → Both own look (reply_unless w cpu r o x) (reply_unless v cpu s o y)
    unless None x y k = k
    unless (Some z) x y k = refused z

    yield_place_same : (k : ℕ) → (nat_lt k 256 ≡ true → SaveMisses own look w.tree r.name k)
        → AlikePlaces own look r.name (yield_place w.tree r.name k) (yield_place v.tree r.name k)
    yield_place_same k m = go (nat_lt k 256) refl
      where
        go : (b : Bool) → nat_lt k 256 ≡ b
            → AlikePlaces own look r.name (cond b (save_place w.tree r.name k) (Faulted Unmapped))
            (cond b (save_place v.tree r.name k) (Faulted Unmapped))
        go true q = place_same own look w.tree u h r.name k (m q).entry
        go false q = inl refl

    yield_lands : (k : ℕ) → (nat_lt k 256 ≡ true → SaveMisses own look w.tree r.name k) → In r.name own
        → Lands look (yield_place w.tree r.name k)
    yield_lands k m i = go (nat_lt k 256) refl
      where
        go : (b : Bool) → nat_lt k 256 ≡ b → Lands look (cond b (save_place w.tree r.name k) (Faulted Unmapped))
        go true q = (m q).lands i
        go false q = tt

    yielded : (k : ℕ) → (nat_lt k 256 ≡ true → SaveMisses own look w.tree r.name k)
        → AlikeTrees look (yielded_tree w.tree r k) (yielded_tree v.tree s k)
    yielded k m = record { nodes = refl; words = x.words }
      where
        x : AlikeTrees look (saved_to w.tree (with_zeros r.ctx) (yield_place w.tree r.name k))
            (saved_to v.tree (with_zeros d) (yield_place v.tree r.name k))
        x = saved_alike own look w.tree u h (with_zeros r.ctx) (with_zeros d) r.name (yield_place w.tree r.name k)
            (yield_place v.tree r.name k) (λ n. rw (e n)) (yield_lands k m) (yield_place_same k m)

    entered : (a : Five) (q : ℕ) (x y : Option Ctx) → AlikeHandlers own q x y
        → (nat_lt a.x2 256 ≡ true → SaveMisses own look w.tree r.name a.x2)
        → Both own look (yield_happens w cpu r a q x) (yield_happens v cpu s a q y)
    entered a q None None l m = still O.Idle
    entered a q None (Some y) l m = absurd l
    entered a q (Some x) None l m = absurd l
    entered a q (Some x) (Some y) l m =
        record { outcome = refl; tree = yielded a.x2 m; cpus = set_alike own w.cpus ds cpu _ _ c (refl, l) }

    none_same : (q : ℕ) (x y : Option Ctx) → AlikeHandlers own q x y → is_none x ≡ is_none y
    none_same q None None l = refl
    none_same q None (Some y) l = absurd l
    none_same q (Some x) None l = absurd l
    none_same q (Some x) (Some y) l = refl

    can_same : (k : ℕ) → (nat_lt k 256 ≡ true → SaveMisses own look w.tree r.name k)
        → (nat_lt k 256 && not (can_save w.tree r.name k)) ≡ (nat_lt k 256 && not (can_save v.tree r.name k))
    can_same k m = go (nat_lt k 256) refl
      where
        go : (b : Bool) → nat_lt k 256 ≡ b
            → (b && not (can_save w.tree r.name k)) ≡ (b && not (can_save v.tree r.name k))
        go true q = rw (reached_same own look r.name _ _ (place_same own look w.tree u h r.name k (m q).entry))
        go false q = refl

    yield_alike : (a : Five) → YieldMisses own look w r.name a → Both own look (yield w cpu r a) (yield v cpu s a)
    yield_alike a m = go (target_node w.tree r.name a.x0) m.target
      where
        go : (q : Option Node)
            → ((x : Node) → q ≡ Some x → HandlerMisses own look w.tree x.name a.x1)
            → Both own look (yield_to w cpu r a q) (yield_to v cpu s a q)
        go None t =
            let z = no_target a in
            subst (λ o. Both own look (reply_unless w cpu r o (yield_happens w cpu r a 0 (handler w.tree 0 a.x1)))
            (yield_to v cpu s a None)) (sym (none_refused w r.name a))
            (rw (none_refused v r.name a) (refused z))
        go (Some x) t =
            let l = handler_same own look w.tree u h x.name a.x1 (t x refl) in
            rw (← refusals_same x l) (unless (first_met (yield_refusals w r.name a (Some x))) _ _
            (entered a x.name (handler w.tree x.name a.x1) (handler v.tree x.name a.x1) l m.save))
          where
            refusals_same : (x : Node)
                → AlikeHandlers own x.name (handler w.tree x.name a.x1) (handler v.tree x.name a.x1)
                → first_met (yield_refusals w r.name a (Some x)) ≡ first_met (yield_refusals v r.name a (Some x))
            refusals_same x l =
                let rs = running_same in
                let n = none_same x.name (handler w.tree x.name a.x1) (handler v.tree x.name a.x1) l in
                let b = can_same a.x2 m.save in
                λ i. first_met (
                (not (a.x0 == 1) && not (is_place a.x0), S.NotAligned)
                ∷ (false, S.NotChild)
                ∷ (nat_le 256 a.x1 || nat_le 257 a.x2, S.BadVector)
                ∷ (not (x.name == r.name) && has (rs i) x.name, S.Running)
                ∷ (n i, S.NoHandler)
                ∷ (b i, S.BadSave)
                ∷ [])

    called : (a : Five) (k : CallName) → CallMisses own look w r.name a k
        → Both own look (call k w cpu r a) (call k v cpu s a)
    called a (OnMemory k) m = replied _ _ (answered a k m)
    called a Yields m = yield_alike a m
    called a (Masks b) m =
        replied _ _ (record { status = refl; value = refl; tree = record { nodes = refl; words = h } })
    called a Unknown m = refused S.UnknownCall

  -- ---- lines

  line_same : (js : List ℕ) → LinesMiss own look w.tree js → lowest_line w js ≡ lowest_line v js
  line_same [] m = refl
  line_same (j ∷ js) m =
      let l = some_same (handler w.tree w.tree.root.name (32 + j)) (handler v.tree w.tree.root.name (32 + j))
      (handler_same own look w.tree u h w.tree.root.name (32 + j) m.0) in
      let rest = line_same js m.1 in
      λ i. cond (l i) (Some j) (rest i)
    where
      some_same : (x y : Option Ctx) → AlikeHandlers own w.tree.root.name x y → is_some x ≡ is_some y
      some_same None None l = refl
      some_same None (Some y) l = absurd l
      some_same (Some x) None l = absurd l
      some_same (Some x) (Some y) l = refl

  line_misses : (js : List ℕ) (j : ℕ) → LinesMiss own look w.tree js → lowest_line w js ≡ Some j
      → HandlerMisses own look w.tree w.tree.root.name (32 + j)
  line_misses [] j m e = cc
  line_misses (k ∷ js) j m e =
      go (is_some (handler w.tree w.tree.root.name (32 + k))) e (λ q. line_misses js j m.1 q)
    where
      go : (b : Bool) → cond b (Some k) (lowest_line w js) ≡ Some j
          → (lowest_line w js ≡ Some j → HandlerMisses own look w.tree w.tree.root.name (32 + j))
          → HandlerMisses own look w.tree w.tree.root.name (32 + j)
      go true q f = let d : k ≡ j = cc in rw (← d) m.0
      go false q f = f q

  elsewhere_same : (cpu : ℕ) → runs_elsewhere w cpu w.tree.root.name ≡ runs_elsewhere v cpu w.tree.root.name
  elsewhere_same cpu = rw (names_same own _ _ (set_alike own w.cpus ds cpu None None c tt))

  may_same : (cpu : ℕ) (o p : Option Occupant) → occupant_name o ≡ occupant_name p
      → may_take w cpu o ≡ may_take v cpu p
  may_same cpu o p n =
      let a = elsewhere_same cpu in
      let b = count_same own w.cpus ds c in
      λ i. not (a i) && ((not w.tree.root.masked || not (n i == w.tree.root.name)) && nat_lt cpu (b i))

  untaken : (cpu : ℕ) (o p : Option Occupant) → AlikeOn own o p → Both own look (none_taken w o) (none_taken v p)
  untaken cpu None None a = still O.Idle
  untaken cpu None (Some q) a = absurd a
  untaken cpu (Some r) None a = absurd a
  untaken cpu (Some r) (Some q) a = still O.Done

  module _ (cpu : ℕ) (o p : Option Occupant) (a : AlikeOn own o p) (n : occupant_name o ≡ occupant_name p)
      (k : AlikeTrees look (save_running w.tree o) (save_running v.tree p)) where
    taken : (j : ℕ) (x y : Option Ctx) → AlikeHandlers own w.tree.root.name x y
        → Both own look (take_line w cpu o j x) (take_line v cpu p j y)
    taken j None None l = untaken cpu o p a
    taken j None (Some y) l = absurd l
    taken j (Some x) None l = absurd l
    taken j (Some x) (Some y) l = record {
      outcome = rw n;
      tree = record {
        nodes = lined o p;
        words = k.words;
      };
      cpus = set_alike own w.cpus ds cpu _ _ c
          (refl, (λ n. rw (l n)));
    }
      where
        lined : (o p : Option Occupant) →
            record (one_mask (with_pending (filter (λ i. not (i == j)) w.tree.root.pending)
            (with_masked w.tree.root.name true (save_running w.tree o)))) { words = (save_running v.tree p).words }
            ≡ one_mask (with_pending (filter (λ i. not (i == j)) w.tree.root.pending) (with_masked w.tree.root.name true
            (save_running v.tree p)))
        lined None None = refl
        lined None (Some q) = refl
        lined (Some r) None = refl
        lined (Some r) (Some q) = refl

    polled : LinesMiss own look w.tree w.tree.root.pending → Both own look (poll w cpu o) (poll v cpu p)
    polled m = rw (← may_same cpu o p n) (go (may_take w cpu o))
      where
        line : Both own look (poll_line w cpu o (lowest_line w w.tree.root.pending))
            (poll_line v cpu p (lowest_line v w.tree.root.pending))
        line = rw (← line_same w.tree.root.pending m) (at (lowest_line w w.tree.root.pending) refl)
          where
            at : (x : Option ℕ) → lowest_line w w.tree.root.pending ≡ x
                → Both own look (poll_line w cpu o x) (poll_line v cpu p x)
            at None e = untaken cpu o p a
            at (Some j) e = taken j (handler w.tree w.tree.root.name (32 + j))
                (handler v.tree w.tree.root.name (32 + j))
                (handler_same own look w.tree u h w.tree.root.name (32 + j)
                (line_misses w.tree.root.pending j m e))

        go : (b : Bool) → Both own look
            (cond b (poll_line w cpu o (lowest_line w w.tree.root.pending)) (none_taken w o))
            (cond b (poll_line v cpu p (lowest_line v w.tree.root.pending)) (none_taken v p))
        go true = line
        go false = untaken cpu o p a

  -- ---- by what runs on the processor

  -- one that runs there, with its context there
  as_there : (r q : Occupant) → r.name ≡ q.name → record r { ctx = q.ctx } ≡ q
  as_there r q e = λ i. record { name = e i; ctx = q.ctx }

  by_runner : (cpu : ℕ) (o p : Option Occupant) (P : Occupant → Type 0) (f g : Occupant → Happened)
      → AlikeOn own o p → ByRunner o P
      → ((r : Occupant) (d : Ctx) → ((In r.name own → ⊥) → r.ctx ≡ d) → P r
      → Both own look (f r) (g (record r { ctx = d })))
      → Both own look (on_running w cpu o f) (on_running v cpu p g)
  by_runner cpu None None P f g a b k = still O.Idle
  by_runner cpu None (Some q) P f g a b k = absurd a
  by_runner cpu (Some r) None P f g a b k = absurd a
  by_runner cpu (Some r) (Some q) P f g a b k =
      rw (← as_there r q a.0) (k r q.ctx a.1 b)

  poll_both : (cpu : ℕ) (o p : Option Occupant) → AlikeOn own o p → PollMisses own look w o
      → Both own look (poll w cpu o) (poll v cpu p)
  poll_both cpu None None a m = polled cpu None None a refl (record { nodes = refl; words = h }) m.lines
  poll_both cpu None (Some q) a m = absurd a
  poll_both cpu (Some r) None a m = absurd a
  poll_both cpu (Some r) (Some q) a m =
      rw (← as_there r q a.0) (polled cpu (Some r) (Some (record r { ctx = q.ctx })) (refl, a.1) refl
      (saved cpu r q.ctx a.1 63 m.save) m.lines)

  -- ---- an event

  at : (cpu : ℕ) → AlikeOn own (runs_on w cpu) (runs_on v cpu)
  at cpu = at_alike own w.cpus ds cpu c

  pub moved : (e : Event) → ReadsOutside own look w e → Both own look (what_happens w e) (what_happens v e)
  moved (E.Load cpu va z) m = by_runner cpu (runs_on w cpu) (runs_on v cpu) _
      (λ r. load_happens w cpu r va Load z (reach w.tree r.name va Load z))
      (λ r. load_happens v cpu r va Load z (reach w.tree r.name va Load z)) (at cpu) m
      (λ r d e k. loaded cpu r d e va Load z (reach w.tree r.name va Load z) k)
  moved (E.Store cpu va z x) m = by_runner cpu (runs_on w cpu) (runs_on v cpu) _
      (λ r. wrote w cpu r va z x (reach w.tree r.name va Store z))
      (λ r. wrote v cpu r va z x (reach w.tree r.name va Store z)) (at cpu) m
      (λ r d e k. written cpu r d e va z x (reach w.tree r.name va Store z) k)
  moved (E.Fetch cpu) m = by_runner cpu (runs_on w cpu) (runs_on v cpu) _
      (λ r. load_happens w cpu r r.ctx.pc Fetch Word (reach w.tree r.name r.ctx.pc Fetch Word))
      (λ r. load_happens v cpu r r.ctx.pc Fetch Word (reach w.tree r.name r.ctx.pc Fetch Word)) (at cpu) m
      (λ r d e k.
      subst (λ x. Both own look (load_happens w cpu r r.ctx.pc Fetch Word (reach w.tree r.name r.ctx.pc Fetch Word))
      (load_happens v cpu (record r { ctx = d }) x Fetch Word (reach w.tree r.name x Fetch Word)))
      (rw (e k.0))
      (loaded cpu r d e r.ctx.pc Fetch Word (reach w.tree r.name r.ctx.pc Fetch Word) k.1))
  moved (E.Trap cpu k a b) m = by_runner cpu (runs_on w cpu) (runs_on v cpu) _
      (λ r. deliver w cpu r k a b) (λ r. deliver v cpu r k a b) (at cpu) m (λ r d e l. delivered cpu r d e k a b l)
  moved (E.Call cpu number a) m = by_runner cpu (runs_on w cpu) (runs_on v cpu) _
      (λ r. call (call_named number) w cpu r a) (λ r. call (call_named number) v cpu r a) (at cpu) m
      (λ r d e l. called cpu r d e a (call_named number) l)
  moved (E.Raise j) m = record { outcome = refl; tree = record { nodes = refl; words = h }; cpus = c }
  moved (E.Poll cpu) m = poll_both cpu (runs_on w cpu) (runs_on v cpu) (at cpu) m
  moved (E.SetContext cpu x) m = by_runner cpu (runs_on w cpu) (runs_on v cpu) (λ r. Unit {0})
      (λ r. done (with_running w cpu (Some (record r { ctx = x }))))
      (λ r. done (with_running v cpu (Some (record r { ctx = x })))) (at cpu) (any (runs_on w cpu))
      (λ r d e l. record {
        outcome = refl;
        tree = record { nodes = refl; words = h };
        cpus = set_alike own w.cpus ds cpu _ _ c (refl, (λ n. refl));
      })
    where
      any : (o : Option Occupant) → ByRunner o (λ r. Unit {0})
      any None = tt
      any (Some r) = tt

pub outside_depends_on_outside : OutsideDependsOnOutside
outside_depends_on_outside own look w v e a m =
    let u : World = record v { tree = record w.tree { words = v.tree.words } } in
    let b = moved own look w v.tree.words v.cpus v.caches a.tree.words a.cpus e m in
    let from = masks_tell_nothing u e in
    let to = masks_tell_nothing v e in
    let over : ◌≡◌ {A = World} (record u { tree = one_mask u.tree }) (record v { tree = one_mask v.tree }) =
    rw a.tree.nodes in
    let same = ap (λ x. what_happens x e) over in
    let tree = sym from.tree ∙ ap (λ h. one_mask h.world.tree) same ∙ to.tree in
    let cpus = sym from.cpus ∙ ap (λ h. h.world.cpus) same ∙ to.cpus in
    record {
      outcome = rw (b.outcome, ← from.outcome, same, to.outcome);
      world = record {
        tree = trees_on look _ _ _ b.tree (bare_alike look _ _ tree);
        cpus = rw (← cpus) b.cpus;
      };
    }
