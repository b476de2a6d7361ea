-- Which events are on a menu.
use Rattle.std.proofs.Common.{◌≡◌, ℕ, ◌+◌, ◌*◌, ◌==◌, ◌&&◌, ◌||◌, not, Bool, true, false, cond, eqb-true, List, [], ◌∷◌}
use Rattle.std.proofs.Common.{refl, sym, ap}
use Rattle.std.proofs.Common.{◌∙◌, subst, Option, Some, None}
use Rattle.std.specs.Prelude.{is_none, nat_le, nat_lt, option_map}
use Rattle.pip_base.specs.declared.outcome.Outcome.TheVariants as O
use Rattle.pip_base.specs.declared.types.Access.TheVariants.{Store}
use Rattle.pip_base.specs.declared.types.Ctx.{Ctx}
use Rattle.pip_base.specs.declared.types.Size.{Size}
use Rattle.pip_base.specs.declared.types.Size.TheVariants.{Word}
use Rattle.pip_every.specs.Menus.{Menu, deed_event}
use Rattle.pip_every.specs.declared.menus.Deed.{Deed}
use Rattle.pip_every.specs.declared.menus.Deed.TheVariants as D
use Rattle.pip_base.specs.declared.outcome.Status.TheVariants as S
use Rattle.pip_model.specs.Answers.{Five, first_met, five_of}
use Rattle.pip_model.specs.Handlers.{can_save, handler, written_block}
use Rattle.pip_model.specs.Lists.{has}
use Rattle.pip_model.specs.Reach.{Faulted, Place, Unmapped, reach}
use Rattle.pip_model.specs.Switching.{node_name, reply_unless, target_node, with_zeros, yield, yield_happens}
use Rattle.pip_model.specs.Switching.{yield_place, yield_refusals, yield_to, yielded_tree}
use Rattle.pip_model.specs.Tree.{Node, is_place, word_of}
use Rattle.pip_guests.specs.Outside.{Alike, AlikeCpus, AlikeTrees, AlikeWord, Lands}
use Rattle.pip_guests.proofs.Alikes.{alike_on, alike_same, tree_alike_same}
use Rattle.pip_guests.proofs.Seen.{lands_word}
use Rattle.pip_guests.proofs.Runners.{cpus_alike_same}
use Rattle.pip_model.specs.Deliver.{deliver, deliver_to, nearest_taker}
use Rattle.pip_model.specs.Events.{Event}
use Rattle.pip_model.specs.Events as E
use Rattle.pip_model.specs.Happens.{call, call_named, event, fault_number, fault_vector, on_running, what_happens}
use Rattle.pip_model.specs.Happens.{with_word, written_over, wrote}
use Rattle.pip_model.specs.Worlds.{Happened, World, done, running, runs_on}
use Rattle.pip_model.specs.declared.call_name.CallName.{CallName}
use Rattle.pip_model.specs.declared.call_name.CallName.TheVariants.{Yields}
use Rattle.pip_model.specs.declared.processors.Occupant.{Occupant}
use Rattle.pip_model.specs.declared.processors.Taker.{Taker}
use Rattle.pip_guests.proofs.Refusing.{fetch_faults_are_traps, load_faults_are_traps, store_faults_are_traps}
use Rattle.pip_guests.proofs.Refusing.{untaken_words_do_not_matter}
use Rattle.pip_any.specs.Hostile.{CallsAreOnMenu, FetchFaultsAreOnMenu, HasDeed, IsNoWord, IsOnMenu}
use Rattle.pip_any.specs.Hostile.{LoadFaultsAreOnMenu, MasksReadNone, StandsForEvent, StoreFaultsAreOnMenu}
use Rattle.pip_any.specs.Hostile.{StoresAreOnMenu}
use Rattle.pip_any.specs.Hostile.{TrapsAreOnMenu, UntakenAreOnMenu, YieldsAreOnMenu, YieldsReadThree}

-- what is delivered gives no word
no_word : (w : World) (cpu : ℕ) (r : Occupant) (k a b : ℕ) → IsNoWord (deliver w cpu r k a b).outcome
no_word w cpu r k a b = go (nearest_taker w r.name k)
  where
    go : (o : Option Taker) → IsNoWord (deliver_to w cpu r k a b o).outcome
    go None = tt
    go (Some y) = tt

trap_no_word : (w : World) (cpu k a b : ℕ) → IsNoWord (event w (E.Trap cpu k a b)).outcome
trap_no_word w cpu k a b = go (runs_on w cpu)
  where
    go : (o : Option Occupant) → IsNoWord (on_running w cpu o (λ r. deliver w cpu r k a b)).outcome
    go None = tt
    go (Some r) = no_word w cpu r k a b

-- two that do the same lead to worlds that look alike
happened_alike : (own : List ℕ) (look : ℕ → ℕ → ℕ → ℕ) (w : World) (e f : Event) → what_happens w e ≡ what_happens w f
    → Alike own look (event w e).world (event w f).world
happened_alike own look w e f q =
    let a = alike_same own look (event w f).world in
    record {
      tree = rw q a.tree;
      cpus = rw q a.cpus;
    }

module _ (own : List ℕ) (look : ℕ → ℕ → ℕ → ℕ) where
  -- a deed of the menu is of the same kind, has the same outcome, and leads to a world that looks alike
  on_menu : (g : Menu) (w : World) (cpu : ℕ) (e : Event) (d : Deed) → HasDeed g w cpu d → StandsForEvent d e
      → (event w e).outcome ≡ (event w (deed_event cpu d)).outcome
      → Alike own look (event w e).world (event w (deed_event cpu d)).world → IsNoWord (event w e).outcome
      → IsOnMenu own look g w cpu e
  on_menu g w cpu e d h s o a n = record {
    place = h.place;
    may = h.may;
    at = h.at;
    its = h.its;
    stands = rw h.deed s;
    outcome = rw (o, ← h.deed);
    alike = rw h.deed a;
    word = n;
  }

  -- so it is where it does the same
  listed : (g : Menu) (w : World) (cpu : ℕ) (e : Event) (d : Deed) → HasDeed g w cpu d → StandsForEvent d e
      → what_happens w e ≡ what_happens w (deed_event cpu d) → IsNoWord (event w e).outcome
      → IsOnMenu own look g w cpu e
  listed g w cpu e d h s q n = on_menu g w cpu e d h s (rw q)
      (happened_alike own look w e (deed_event cpu d) q) n

  -- an event that does what a trap does is on the menu where the trap is
  as_trap : (g : Menu) (w : World) (cpu k a b : ℕ) (e : Event) → what_happens w e ≡ what_happens w (E.Trap cpu k a b)
      → ((d : Deed) → StandsForEvent d (E.Trap cpu k a b) → StandsForEvent d e)
      → IsOnMenu own look g w cpu (E.Trap cpu k a b) → IsOnMenu own look g w cpu e
  as_trap g w cpu k a b e q f m = record {
    place = m.place;
    may = m.may;
    at = m.at;
    its = m.its;
    stands = f m.may.deed m.stands;
    outcome = rw (q, m.outcome);
    alike = alike_on own look _ _ _ (happened_alike own look w e (E.Trap cpu k a b) q) m.alike;
    word = rw q m.word;
  }

pub traps_are_on_menu : TrapsAreOnMenu
traps_are_on_menu own look g w cpu k a b h =
    listed own look g w cpu (E.Trap cpu k a b) (D.Trap k a b) h tt refl (trap_no_word w cpu k a b)

pub untaken_are_on_menu : UntakenAreOnMenu
untaken_are_on_menu own look g w cpu k a b c d r e n h = listed own look g w cpu (E.Trap cpu k a b) (D.Trap k c d)
    h tt
    (untaken_words_do_not_matter w cpu k a b c d r e n) (trap_no_word w cpu k a b)

pub load_faults_are_on_menu : LoadFaultsAreOnMenu
load_faults_are_on_menu own look g w cpu va z r f e q m = as_trap own look g w cpu _ va _ (E.Load cpu va z)
    (load_faults_are_traps w cpu va z r f e q) by m
  where
    by : (d : Deed) → StandsForEvent d (E.Trap cpu (fault_vector f) va (16 * 0 + fault_number f))
        → StandsForEvent d (E.Load cpu va z)
    by (D.Load a y) s = tt
    by (D.StoreWord a y) s = tt
    by (D.StoreByte a y) s = tt
    by (D.Trap v x y) s = tt
    by (D.Call n args) s = s

pub store_faults_are_on_menu : StoreFaultsAreOnMenu
store_faults_are_on_menu own look g w cpu va z x r f e q m = as_trap own look g w cpu _ va _ (E.Store cpu va z x)
    (store_faults_are_traps w cpu va z x r f e q) by m
  where
    by : (d : Deed) → StandsForEvent d (E.Trap cpu (fault_vector f) va (16 * 1 + fault_number f))
        → StandsForEvent d (E.Store cpu va z x)
    by (D.Load a y) s = tt
    by (D.StoreWord a y) s = tt
    by (D.StoreByte a y) s = tt
    by (D.Trap v x y) s = tt
    by (D.Call n args) s = s

pub fetch_faults_are_on_menu : FetchFaultsAreOnMenu
fetch_faults_are_on_menu own look g w cpu r f e q m = as_trap own look g w cpu _ r.ctx.pc _ (E.Fetch cpu)
    (fetch_faults_are_traps w cpu r f e q) by m
  where
    by : (d : Deed) → StandsForEvent d (E.Trap cpu (fault_vector f) r.ctx.pc (16 * 2 + fault_number f))
        → StandsForEvent d (E.Fetch cpu)
    by (D.Load a y) s = tt
    by (D.StoreWord a y) s = tt
    by (D.StoreByte a y) s = tt
    by (D.Trap v x y) s = tt
    by (D.Call n args) s = s

pub stores_are_on_menu : StoresAreOnMenu
stores_are_on_menu own look g w cpu va z x a y r h i k q e l d =
    on_menu own look g w cpu (E.Store cpu va z x) (D.StoreWord a y) d tt
    (ap (λ z. z.outcome) one ∙ sym (ap (λ z. z.outcome) two))
    (record {
      tree = subst (λ z. AlikeTrees look z.world.tree (what_happens w (E.Store cpu a Word y)).world.tree) (sym one)
          (subst (λ z. AlikeTrees look (with_word w.tree h i n) z.world.tree) (sym two)
          (record { nodes = refl; words = words }));
      cpus = subst (λ z. AlikeCpus own z.world.cpus (what_happens w (E.Store cpu a Word y)).world.cpus) (sym one)
          (subst (λ z. AlikeCpus own w.cpus z.world.cpus) (sym two) (cpus_alike_same own w.cpus));
    })
    (subst (λ z. IsNoWord z.outcome) (sym one) tt)
  where
    n : ℕ
    n = written_over va z x (word_of (w.tree.words h) i)

    does : (va : ℕ) (z : Size) (x : ℕ) → reach w.tree r.name va Store z
        ≡ Place h i → what_happens w (E.Store cpu va z x)
        ≡ done (record w { tree = with_word w.tree h i (written_over va z x (word_of (w.tree.words h) i)) })
    does va z x q = ap (λ o. on_running w cpu o (λ r. wrote w cpu r va z x (reach w.tree r.name va Store z))) k
        ∙ ap (wrote w cpu r va z x) q

    one : what_happens w (E.Store cpu va z x) ≡ done (record w { tree = with_word w.tree h i n })
    one = does va z x q

    two : what_happens w (E.Store cpu a Word y) ≡ done (record w { tree = with_word w.tree h i y })
    two = does a Word y e

    word : (j : ℕ) (b : Bool) → (j == i) ≡ b → look h j (cond b n (word_of (w.tree.words h) j))
        ≡ look h j (cond b y (word_of (w.tree.words h) j))
    word j false e = refl
    word j true e = rw (eqb-true j i e) l

    words : (m : ℕ) → AlikeWord look m ((with_word w.tree h i n).words m) ((with_word w.tree h i y).words m)
    words m = by (m == h) refl
      where
        by : (b : Bool) → (m == h) ≡ b → AlikeWord look m
            (cond b (Some (λ j. cond (j == i) n (word_of (w.tree.words h) j))) (w.tree.words m))
            (cond b (Some (λ j. cond (j == i) y (word_of (w.tree.words h) j))) (w.tree.words m))
        by false e = record { there = refl; words = λ j. refl }
        by true e = record { there = refl; words = λ j. rw (eqb-true m h e) (word j (j == i) refl) }

pub calls_are_on_menu : CallsAreOnMenu
calls_are_on_menu own look g w cpu n args a q m h = listed own look g w cpu (E.Call cpu n a) (D.Call n args)
    h refl q m

pub yields_read_three : YieldsReadThree
yields_read_three w cpu n a b y e f g = go (call_named n) y
  where
    go : (c : CallName) → c ≡ Yields → on_running w cpu (runs_on w cpu) (λ r. call c w cpu r a)
        ≡ on_running w cpu (runs_on w cpu) (λ r. call c w cpu r b)
    go c q = ap (λ x. on_running w cpu (runs_on w cpu) (λ r. call x w cpu r a)) q
        ∙ (λ i. on_running w cpu (runs_on w cpu)
        (λ r. call Yields w cpu r (record { x0 = e i; x1 = f i; x2 = g i; x3 = a.x3; x4 = a.x4 })))
        ∙ sym (ap (λ x. on_running w cpu (runs_on w cpu) (λ r. call x w cpu r b)) q)

pub masks_read_none : MasksReadNone
masks_read_none w cpu n a b m y = cc

-- a yield that isn't refused isn't refused either if it saves nothing
saves_nothing : (w : World) (p : ℕ) (a b : Five) (q : Option Node) → b.x0 ≡ a.x0 → b.x1 ≡ a.x1 → b.x2 ≡ 256
    → first_met (yield_refusals w p a q) ≡ None → first_met (yield_refusals w p b q) ≡ None
saves_nothing w p a b q e f g h =
    (λ i. first_met (
    (not (e i == 1) && not (is_place (e i)), S.NotAligned)
    ∷ (is_none q, S.NotChild)
    ∷ (nat_le 256 (f i) || nat_le 257 (g i), S.BadVector)
    ∷ (not (node_name q == p) && has (running w) (node_name q), S.Running)
    ∷ (is_none (handler w.tree (node_name q) (f i)), S.NoHandler)
    ∷ (nat_lt (g i) 256 && not (can_save w.tree p (g i)), S.BadSave)
    ∷ []))
    ∙ go (not (a.x0 == 1) && not (is_place a.x0)) (is_none q) (nat_le 256 a.x1) (nat_le 257 a.x2)
    (not (node_name q == p) && has (running w) (node_name q)) (is_none (handler w.tree (node_name q) a.x1))
    (nat_lt a.x2 256 && not (can_save w.tree p a.x2)) h
  where
    go : (c d x y z k l : Bool) → first_met ((c, S.NotAligned) ∷ (d, S.NotChild) ∷ (x || y, S.BadVector) ∷ (
      z,
      S.Running,
    )
        ∷ (k, S.NoHandler) ∷ (l, S.BadSave) ∷ []) ≡ None
        → first_met ((c, S.NotAligned) ∷ (d, S.NotChild) ∷ (x || false, S.BadVector) ∷ (z, S.Running) ∷ (k, S.NoHandler)
        ∷ (false, S.BadSave) ∷ []) ≡ None
    go true d x y z k l n = cc
    go false true x y z k l n = cc
    go false false true y z k l n = cc
    go false false false true z k l n = cc
    go false false false false true k l n = cc
    go false false false false false true l n = cc
    go false false false false false false l n = refl

module _ (own : List ℕ) (look : ℕ → ℕ → ℕ → ℕ) (w : World) (cpu : ℕ) (r : Occupant) where
  -- two outcomes are one that gives no word, and the worlds look alike
  record Same (x y : Happened) : Type 0 where
    outcome : x.outcome ≡ y.outcome
    tree : AlikeTrees look x.world.tree y.world.tree
    cpus : AlikeCpus own x.world.cpus y.world.cpus
    word : IsNoWord x.outcome

  entered : (a b : Five) (q : ℕ) (c : Option Ctx) → b.x1 ≡ a.x1 → b.x2 ≡ 256
      → Lands look (yield_place w.tree r.name a.x2)
      → Same (yield_happens w cpu r a q c) (yield_happens w cpu r b q c)
  entered a b q None e f l = record {
    outcome = refl;
    tree = tree_alike_same look w.tree;
    cpus = cpus_alike_same own w.cpus;
    word = tt;
  }
  entered a b q (Some c) e f l = record {
    outcome = rw (← e);
    tree = rw f (record { nodes = refl; words = λ g. word g (w.tree.words g) });
    cpus = cpus_alike_same own _;
    word = tt;
  }
    where
      word : (g : ℕ) (o : Option (ℕ → ℕ)) → AlikeWord look g
          (option_map (written_block (with_zeros r.ctx) g (yield_place w.tree r.name a.x2)) o)
          (option_map (written_block (with_zeros r.ctx) g (Faulted Unmapped)) o)
      word g None = record { there = refl; words = λ j. refl }
      word g (Some x) = record {
        there = refl;
        words = lands_word look (with_zeros r.ctx) g (yield_place w.tree r.name a.x2) l x;
      }

  yielded : (a b : Five) → b.x0 ≡ a.x0 → b.x1 ≡ a.x1 → b.x2 ≡ 256
      → first_met (yield_refusals w r.name a (target_node w.tree r.name a.x0)) ≡ None
      → Lands look (yield_place w.tree r.name a.x2) → Same (yield w cpu r a) (yield w cpu r b)
  yielded a b e f g h l =
      let q = target_node w.tree r.name a.x0 in
      let c = handler w.tree (node_name q) a.x1 in
      let n = saves_nothing w r.name a b q e f g h in
      let one : yield w cpu r a ≡ yield_happens w cpu r a (node_name q) c =
      rw h in
      let to : yield w cpu r b ≡ yield_to w cpu r b q = cc in
      let two : yield_to w cpu r b q ≡ yield_happens w cpu r b (node_name q) (handler w.tree (node_name q) b.x1) =
      rw n in
      let last : yield_happens w cpu r b (node_name q) (handler w.tree (node_name q) b.x1)
      ≡ yield_happens w cpu r b (node_name q) c =
      rw f in
      rw one (subst (Same (yield_happens w cpu r a (node_name q) c)) (sym (to ∙ two ∙ last))
      (entered a b (node_name q) c f g l))

pub yields_are_on_menu : YieldsAreOnMenu
yields_are_on_menu own look g w cpu n a r y k e l h =
    let s = same in
    on_menu own look g w cpu (E.Call cpu n a) (D.Call n (a.x0 ∷ a.x1 ∷ 256 ∷ 0 ∷ 0 ∷ []))
    h refl s.outcome (assumption)
    s.word
  where
    by : (b : Five) → what_happens w (E.Call cpu n b) ≡ yield w cpu r b
    by b = rw (k, y)

    same : Same own look w cpu r (what_happens w (E.Call cpu n a))
        (what_happens w (E.Call cpu n (five_of (a.x0 ∷ a.x1 ∷ 256 ∷ 0 ∷ 0 ∷ []))))
    same = rw (by a) (subst (Same own look w cpu r (yield w cpu r a))
        (sym (by (five_of (a.x0 ∷ a.x1 ∷ 256 ∷ 0 ∷ 0 ∷ []))))
        (yielded own look w cpu r a (five_of (a.x0 ∷ a.x1 ∷ 256 ∷ 0 ∷ 0 ∷ [])) refl refl refl e l))
