-- A partition that is confined: what it does stays inside, or is one of a few exits.
use Rattle.std.proofs.Common.{◌≡◌, ◌≢◌, ℕ, zero, suc, ◌<◌, ◌≤◌, arith, ◌==◌, ◌&&◌, ◌⊎◌, inl, inr, Bool, true, false}
use Rattle.std.proofs.Common.{cond, List, [], ◌∷◌, map, not}
use Rattle.std.proofs.Common.{refl, sym, ap, ◌∙◌, ◌||◌, subst, Option, Some, None}
use Rattle.std.specs.Prelude.{◌+◌, ◌-◌, is_none, is_some, nat_le, nat_lt, option_map}
use Rattle.std.proofs.lemmas.Bool.{cases_eq, ne_eqb}
use Rattle.pip_base.specs.declared.outcome.Status.{Status}
use Rattle.pip_base.specs.declared.outcome.Status.TheVariants as S
use Rattle.pip_base.specs.declared.types.Access.{Access}
use Rattle.pip_base.specs.declared.types.Access.TheVariants.{Load, Store, Fetch}
use Rattle.pip_base.specs.declared.types.Ctx.{Ctx}
use Rattle.pip_base.specs.declared.types.Size.{Size}
use Rattle.pip_base.specs.declared.types.Size.TheVariants.{Word}
use Rattle.pip_model.specs.AddVAddr.{add_refusals, exceeds, tree_with_row}
use Rattle.pip_model.specs.Answers.{Answer, Five, accept, answer_unless, child_name, child_of, first_met, is_mapped}
use Rattle.pip_model.specs.Answers.{no_child, page_of, rights_at}
use Rattle.pip_model.specs.Collect.{collect_refusals, first_va, has_row_in, returned_pages, table_for}
use Rattle.pip_model.specs.Collect.{tree_without_table}
use Rattle.pip_model.specs.CountToMap.{count_refusals, pages_needed}
use Rattle.pip_model.specs.CreatePartition.{create_refusals, tree_with_newborn}
use Rattle.pip_model.specs.DeletePartition.{delete_refusals, some_run, tree_without_subtree}
use Rattle.pip_model.specs.Events.{Event}
use Rattle.pip_model.specs.Events as E
use Rattle.pip_model.specs.Handlers.{can_save, context_word, handler, saved_to, written_block}
use Rattle.pip_model.specs.Happens.{answer, call, call_named, on_running, what_happens, written_over}
use Rattle.pip_model.specs.Lists.{In, has}
use Rattle.pip_model.specs.MappedInChild.{find_refusals, holder_born}
use Rattle.pip_model.specs.Prepare.{page_chain, prepare_with}
use Rattle.pip_model.specs.Reach.{Faulted, Place, Reached, reach}
use Rattle.pip_model.specs.RemoveVAddr.{remove_refusals, tree_without_row}
use Rattle.pip_model.specs.Switching.{node_name, reply_unless, target_node, with_zeros, yield_happens, yield_to}
use Rattle.pip_model.specs.Switching.{yield_place, yield_refusals, yielded_tree}
use Rattle.pip_model.specs.Tree.{Node, Tree, below, child_at, word_of, dir, free, has_table, holder, is_place, row_at}
use Rattle.pip_model.specs.Tree.{vpage}
use Rattle.pip_model.specs.Worlds.{Happened, World, ctx_of, masked_node, running, runs_on}
use Rattle.pip_model.specs.declared.call_name.CallName.{CallName}
use Rattle.pip_model.specs.declared.call_name.CallName.TheVariants.{Masks, OnMemory, Unknown, Yields}
use Rattle.pip_model.specs.declared.call_name.MemoryCall.{MemoryCall}
use Rattle.pip_model.specs.declared.call_name.MemoryCall.TheVariants.{AddVAddr, Collect, CountToMap, CreatePartition}
use Rattle.pip_model.specs.declared.call_name.MemoryCall.TheVariants.{DeletePartition, MappedInChild, Prepare}
use Rattle.pip_model.specs.declared.call_name.MemoryCall.TheVariants.{RemoveVAddr}
use Rattle.pip_model.specs.declared.processors.Occupant.{Occupant}
use Rattle.pip_guests.specs.Exits.{ConfinedAlike, ConfinedStaysOrExits, Faults, GoesAway, IsConfined, IsExit, IsMadeOn}
use Rattle.pip_guests.specs.Exits.{IsSeen, MasksAreUnseen}
use Rattle.pip_guests.specs.Exits.{SaveIsSeen, SoundConfines}
use Rattle.pip_guests.specs.Outside.{AlikeTrees, AlikeWord, one_mask, unmasked}
use Rattle.pip_guests.specs.Unseen.{Answers, ByOneOf, GoesTo, IsUnseen, StaysThere}
use Rattle.pip_model.proofs.Events.Soundness.{reached_words}
use Rattle.pip_guests.proofs.Alikes.{tree_alike_same}
use Rattle.pip_guests.proofs.Seen.{landed_word}
use Rattle.pip_guests.proofs.Masks.{child_bare, masked_alike, reach_bare}

-- ---- calls on memory

same_trees : (look : ℕ → ℕ → ℕ → ℕ) (t u : Tree) → u ≡ t → AlikeTrees look u t
same_trees look t u e =
    rw e (tree_alike_same look t)

unless_same : (t : Tree) (o : Option Status) (a : Answer) → a.tree ≡ t → (answer_unless t o a).tree ≡ t
unless_same t None a e = e
unless_same t (Some s) a e = refl

-- where the third condition is met, or one before it, a call is refused
third : (x y : Bool) (p q : Status) (xs : List (Bool × Status)) (s : Status)
    → first_met ((x, p) ∷ (y, q) ∷ (true, s) ∷ xs) ≢ None
third true y p q xs s e = cc
third false true p q xs s e = cc
third false false p q xs s e = cc

-- where a call is refused nothing changes
refused : (t : Tree) (o : Option Status) → o ≢ None → (a : Answer) → (answer_unless t o a).tree ≡ t
refused t None n a = absurd (n refl)
refused t (Some s) n a = refl

module _ (w : World) (p : ℕ) (c : IsConfined w.tree p) where
  childless : (d : ℕ) (x y : Bool) (xs : List (Bool × Status))
      → first_met ((x, S.NotAligned) ∷ (y, S.NullPage) ∷ no_child w.tree p d ∷ xs) ≢ None
  childless d x y xs = rw (c.leaf d) (third x y S.NotAligned S.NullPage xs S.NotChild)

  keeps : (a : Five) (k : MemoryCall) → (k ≡ CreatePartition → first_met (create_refusals w.tree p a) ≢ None)
      → (answer k w p a).tree ≡ w.tree
  keeps a CreatePartition n =
      refused w.tree (first_met (create_refusals w.tree p a)) (n refl) (accept 0 (tree_with_newborn w.tree p a))
  keeps a DeletePartition n = refused w.tree (first_met (delete_refusals w.tree (running w) p a.x0))
      (childless a.x0 _ _
      ((some_run (running w) (below w.tree (child_name w.tree p a.x0)), S.Running) ∷ []))
      (accept 0 (tree_without_subtree w.tree (child_name w.tree p a.x0)))
  keeps a CountToMap n = unless_same w.tree (first_met (count_refusals w.tree p a.x0 a.x1))
      (accept (pages_needed (child_of w.tree p a.x0) (vpage a.x1)) w.tree) refl
  keeps a Prepare n =
      let k = pages_needed (child_of w.tree p a.x0) (vpage a.x1) in
      refused w.tree (first_met (count_refusals w.tree p a.x0 a.x1)) (childless a.x0 _ _ [])
      (prepare_with w.tree (child_name w.tree p a.x0) (vpage a.x1) k (page_chain w.tree p k [] a.x2))
  keeps a Collect n =
      let x = child_of w.tree p a.x0 in
      let gs = returned_pages x (table_for x (vpage a.x1)) in
      refused w.tree (first_met (collect_refusals w.tree p a.x0 a.x1)) (childless a.x0 _ _
      ((is_none (table_for x (vpage a.x1)), S.NoTable) ∷ (has_row_in x (dir (vpage a.x1)), S.NotEmpty) ∷ []))
      (accept (first_va gs) (tree_without_table w.tree (child_name w.tree p a.x0) (dir (vpage a.x1)) gs))
  keeps a AddVAddr n = refused w.tree (first_met (add_refusals w.tree p a.x0 a.x1 a.x2 a.x3)) (childless a.x1 _ _
      ((not (is_mapped w.tree p (vpage a.x0)), S.NotMapped) ∷ (not (free w.tree p (vpage a.x0)), S.NotFree)
      ∷ (exceeds a.x3 (rights_at w.tree p (vpage a.x0)), S.NoRight)
      ∷ (not (has_table (child_of w.tree p a.x1) (vpage a.x2)), S.NoTable)
      ∷ (is_some (row_at (child_of w.tree p a.x1).rows (vpage a.x2)), S.Taken) ∷ []))
      (accept 0 (tree_with_row w.tree (child_name w.tree p a.x1)
      (record { at = vpage a.x2; frame = page_of w.tree p a.x0; rights = a.x3 })))
  keeps a RemoveVAddr n = refused w.tree (first_met (remove_refusals w.tree p a.x0 a.x1)) (childless a.x0 _ _
      ((is_none (row_at (child_of w.tree p a.x0).rows (vpage a.x1)), S.Absent)
      ∷ (not (free w.tree (child_name w.tree p a.x0) (vpage a.x1)), S.LentOn) ∷ []))
      (accept 0 (tree_without_row w.tree (child_name w.tree p a.x0) (vpage a.x1)))
  keeps a MappedInChild n = unless_same w.tree (first_met (find_refusals w.tree p a.x0))
      (accept (holder_born (holder w.tree p (page_of w.tree p a.x0))) w.tree) refl

-- ---- yields

-- a save of which nothing is seen, of a word that is in the block
abbrev Unseen : (ℕ → ℕ → ℕ → ℕ) → Tree → Ctx → Reached → Type 0
Unseen look t c (Place g i) = (j : ℕ) → i ≤ j → j < i + 17
    → look g j (context_word c (j - i)) ≡ look g j (word_of (t.words g) j)
Unseen look t c (Faulted f) = Unit {0}

unseen_words : (look : ℕ → ℕ → ℕ → ℕ) (t : Tree) (c : Ctx) (g : ℕ) (q : Reached) → Unseen look t c q
    → AlikeWord look g ((saved_to t c q).words g) (t.words g)
unseen_words look t c g q l = at (t.words g) refl
  where
    at : (o : Option (ℕ → ℕ)) → t.words g ≡ o → AlikeWord look g (option_map (written_block c g q) o) o
    at None e = record { there = refl; words = λ j. refl }
    at (Some x) e = record {
      there = refl;
      words = λ j. landed_word look c g q x j (λ i f a b. rw (subst (Unseen look t c) f l j a b, e));
    }

-- a yield that isn't refused finds a handler
handled : (w : World) (p : ℕ) (a : Five) (q : Option Node) (c : Option Ctx) → handler w.tree (node_name q) a.x1 ≡ c
    → first_met (yield_refusals w p a q) ≡ None → c ≢ None
handled w p a q c e n z = absurd (go (not (a.x0 == 1) && not (is_place a.x0)) (is_none q)
    (nat_le 256 a.x1 || nat_le 257 a.x2) (not (node_name q == p) && has (running w) (node_name q))
    (cc))
  where
    go : (x y u v : Bool) → first_met ((x, S.NotAligned) ∷ (y, S.NotChild) ∷ (u, S.BadVector) ∷ (v, S.Running)
        ∷ (true, S.NoHandler) ∷ (nat_lt a.x2 256 && not (can_save w.tree p a.x2), S.BadSave) ∷ []) ≡ None → ⊥
    go true y u v f = cc
    go false true u v f = cc
    go false false true v f = cc
    go false false false true f = cc
    go false false false false f = cc

-- a yield stays inside, or goes to another, or its save is seen
abbrev Yielded : List ℕ → (ℕ → ℕ → ℕ → ℕ) → World → ℕ → Occupant → Five → Happened → Type 0
Yielded own look w cpu r a h = (StaysThere h.outcome × AlikeTrees look h.world.tree w.tree)
    ⊎ (GoesAway r.name h.outcome ⊎ SaveIsSeen look w.tree (with_zeros r.ctx) (yield_place w.tree r.name a.x2))

module _ (own : List ℕ) (look : ℕ → ℕ → ℕ → ℕ) (w : World) (cpu : ℕ) (r : Occupant) (k : runs_on w cpu ≡ Some r)
    (i : In r.name own) (c : IsConfined w.tree r.name) where
  -- it runs there
  runs : (P : Occupant → Type 0) → P r → ByOneOf own (runs_on w cpu) P
  runs P h = rw k (i, h)

  -- a yield to itself
  yields_itself : (n : ℕ) → Unseen look w.tree (with_zeros r.ctx) (yield_place w.tree r.name n)
      → AlikeTrees look (yielded_tree w.tree r n) w.tree
  yields_itself n l = record {
    nodes = λ i. record {
      frames = w.tree.frames;
      root = record w.tree.root { masked = root (w.tree.root.name == w.tree.root.name) i };
      others = stays w.tree.others i;
      words = w.tree.words;
    };
    words = λ g. unseen_words look w.tree (with_zeros r.ctx) g (yield_place w.tree r.name n) l;
  }
    where
      b : Bool
      b = cond (r.name == w.tree.root.name) false w.tree.root.masked

      root : (c : Bool) → cond c b w.tree.root.masked ≡ w.tree.root.masked
      root true = rw (ne_eqb r.name w.tree.root.name c.other)
      root false = refl

      stays : (xs : List Node) → map unmasked (map (masked_node w.tree.root.name b) xs) ≡ map unmasked xs
      stays [] = refl
      stays (x ∷ xs) = rw (stays xs)

  call_does : (number : ℕ) (a : Five) → IsUnseen own look w (E.Call cpu number a)
      ⊎ IsExit look w r.name (E.Call cpu number a)
  call_does number a =
      let f : what_happens w (E.Call cpu number a) ≡ call (call_named number) w cpu r a =
      rw k in
      elim (go (call_named number) refl) [
        | inl m ↦ inl (
          runs (λ r. Unit {0}) tt,
          rw f m.0,
          rw f m.1,
        )
        | inr (inl m) ↦ inr (inl (rw f m))
        | inr (inr (inl m)) ↦ inr (inr (inl (
          m.0,
          rw k m.1,
        )))
        | inr (inr (inr m)) ↦ inr (inr (inr m))
      ]
    where
      -- all words of a block look as they did, or one doesn't
      words_are : (f h : ℕ → ℕ) (n i : ℕ) → ((j : ℕ) → i ≤ j → j < i + n → f j ≡ h j)
          ⊎ ((j : ℕ) × (i ≤ j) × (j < i + n) × (f j ≢ h j))
      words_are f h zero i = inl (λ j l k. absurd (omega arith))
      words_are f h (suc n) i = elim (cases_eq (f i) (h i)) [
        | inr d ↦ inr (i, omega arith, omega arith, d)
        | inl e ↦ elim (words_are f h n (i + 1)) [
          | inr x ↦ inr (x.0, omega arith, omega arith, x.3)
          | inl g ↦ inl (λ j l k. elim (cases_eq i j) [
            | inl d ↦ rw (← d, e)
            | inr d ↦ g j (omega arith) (omega arith)
          ])
        ]
      ]

      save_is : (q : Reached) → Unseen look w.tree (with_zeros r.ctx) q ⊎ SaveIsSeen look w.tree (with_zeros r.ctx) q
      save_is (Faulted f) = inl tt
      save_is (Place g i) = words_are (λ j. look g j (context_word (with_zeros r.ctx) (j - i)))
          (λ j. look g j (word_of (w.tree.words g) j)) 17 i

      yields : (q : Option Node) → Yielded own look w cpu r a (yield_to w cpu r a q)
      yields q = by (first_met (yield_refusals w r.name a q)) (handler w.tree (node_name q) a.x1)
          (handled w r.name a q (handler w.tree (node_name q) a.x1) refl)
        where
          by : (o : Option Status) (x : Option Ctx) → (o ≡ None → x ≢ None)
              → Yielded own look w cpu r a (reply_unless w cpu r o (yield_happens w cpu r a (node_name q) x))
          by (Some z) x n = inl (tt, tree_alike_same look w.tree)
          by None None n = absurd (n refl refl)
          by None (Some x) n = elim (cases_eq (node_name q) r.name) [
            | inl e ↦ elim (save_is (yield_place w.tree r.name a.x2)) [
              | inl l ↦ inl (e, yields_itself a.x2 l)
              | inr z ↦ inr (inr z)
            ]
            | inr d ↦ inr (inl d)
          ]

      go : (c : CallName) → call_named number ≡ c
          → (StaysThere (call c w cpu r a).outcome × AlikeTrees look (call c w cpu r a).world.tree w.tree)
          ⊎ (GoesAway r.name (call c w cpu r a).outcome
          ⊎ (((call_named number ≡ Yields) × SaveIsSeen look w.tree (with_zeros r.ctx) (yield_place w.tree r.name a.x2))
          ⊎ ((call_named number ≡ OnMemory CreatePartition) × (first_met (create_refusals w.tree r.name a) ≡ None))))
      go (OnMemory m) e = by (first_met (create_refusals w.tree r.name a)) refl m e
        where
          stays : (m : MemoryCall) → (m ≡ CreatePartition → first_met (create_refusals w.tree r.name a) ≢ None)
              → StaysThere (call (OnMemory m) w cpu r a).outcome
              × AlikeTrees look (call (OnMemory m) w cpu r a).world.tree w.tree
          stays m n = (tt, same_trees look w.tree (answer m w r.name a).tree (keeps w r.name c a m n))

          by : (o : Option Status) → first_met (create_refusals w.tree r.name a) ≡ o → (m : MemoryCall)
              → call_named number ≡ OnMemory m → (StaysThere (call (OnMemory m) w cpu r a).outcome
              × AlikeTrees look (call (OnMemory m) w cpu r a).world.tree w.tree)
              ⊎ (GoesAway r.name (call (OnMemory m) w cpu r a).outcome
              ⊎ (((call_named number ≡ Yields)
              × SaveIsSeen look w.tree (with_zeros r.ctx) (yield_place w.tree r.name a.x2))
              ⊎ ((call_named number ≡ OnMemory CreatePartition)
              × (first_met (create_refusals w.tree r.name a) ≡ None))))
          by (Some s) q m e = inl (stays m (λ x z. absurd (some s (cc))))
            where
              some : (s : Status) → Some s ≡ None → ⊥
              some s z = cc
          by None q CreatePartition e = inr (inr (inr (e, q)))
          by None q DeletePartition e = inl (stays DeletePartition (λ x. cc))
          by None q CountToMap e = inl (stays CountToMap (λ x. cc))
          by None q Prepare e = inl (stays Prepare (λ x. cc))
          by None q Collect e = inl (stays Collect (λ x. cc))
          by None q AddVAddr e = inl (stays AddVAddr (λ x. cc))
          by None q RemoveVAddr e = inl (stays RemoveVAddr (λ x. cc))
          by None q MappedInChild e = inl (stays MappedInChild (λ x. cc))
      go Yields e = elim (yields (target_node w.tree r.name a.x0)) [
        | inl m ↦ inl m
        | inr (inl m) ↦ inr (inl m)
        | inr (inr m) ↦ inr (inr (inl (e, m)))
      ]
      go (Masks b) e = inl (tt, masked_alike look r.name b w.tree c.other)
      go Unknown e = inl (tt, tree_alike_same look w.tree)

  at_reach : (va : ℕ) (x : Access) (z : Size) → Answers (reach w.tree r.name va x z)
      ⊎ Faults (reach w.tree r.name va x z)
  at_reach va x z = go (reach w.tree r.name va x z)
    where
      go : (q : Reached) → Answers q ⊎ Faults q
      go (Place g j) = inl tt
      go (Faulted f) = inr tt

  at_store : (va : ℕ) (z : Size) (n : ℕ) → GoesTo look w.tree va z n (reach w.tree r.name va Store z)
      ⊎ IsSeen look w.tree va z n (reach w.tree r.name va Store z)
  at_store va z n = go (reach w.tree r.name va Store z) refl
    where
      go : (q : Reached) → reach w.tree r.name va Store z ≡ q → GoesTo look w.tree va z n q
          ⊎ IsSeen look w.tree va z n q
      go (Faulted f) e = inr tt
      go (Place g j) e = elim (cases_eq (look g j (written_over va z n (word_of (w.tree.words g) j)))
          (look g j (word_of (w.tree.words g) j))) [
            | inl s ↦ inl (s, c.there va g j z e)
            | inr d ↦ inr d
          ]

  does : (e : Event) → IsMadeOn cpu e → IsUnseen own look w e ⊎ IsExit look w r.name e
  does (E.Load d va z) m = elim (at_reach va Load z) [
    | inl x ↦ inl (rw m (runs (λ r. Answers (reach w.tree r.name va Load z)) x))
    | inr x ↦ inr x
  ]
  does (E.Store d va z x) m = elim (at_store va z x) [
    | inl y ↦ inl (rw m (runs (λ r. GoesTo look w.tree va z x (reach w.tree r.name va Store z)) y))
    | inr y ↦ inr y
  ]
  does (E.Fetch d) m = elim (at_reach r.ctx.pc Fetch Word) [
    | inl x ↦ inl (rw m (runs (λ r. Answers (reach w.tree r.name r.ctx.pc Fetch Word)) x))
    | inr x ↦ inr (rw m (subst (λ o. Faults (reach w.tree r.name (ctx_of o).pc Fetch Word)) (sym k) x))
  ]
  does (E.Trap d v a b) m = inr tt
  does (E.Call d number a) m =
      rw m (call_does number a)
  does (E.Raise j) m = absurd m
  does (E.Poll d) m = absurd m
  does (E.SetContext d x) m = inl (rw m (runs (λ r. Unit {0}) tt))

pub confined_stays_or_exits : ConfinedStaysOrExits
confined_stays_or_exits own look w cpu e r k i c m = does own look w cpu r k i c e m

pub masks_are_unseen : MasksAreUnseen
masks_are_unseen own look w cpu number a r b k i n e =
    let f = ap (λ o. on_running w cpu o (λ r. call (call_named number) w cpu r a)) k ∙ ap (λ c. call c w cpu r a) e in (
      rw k (i, tt),
      rw f tt,
      rw f (masked_alike look r.name b w.tree n),
    )

pub confined_alike : ConfinedAlike
confined_alike look t u p a c = of_bare u p (rw (← a.nodes)
    (record {
      leaf = λ d. rw (child_bare t p d, c.leaf d);
      other = c.other;
      there = λ va g i z e. sym (a.words g).there
          ∙ c.there va g i z (sym (reach_bare t p va Store z) ∙ e);
    }))
  where
    none : (o : Option Node) → option_map unmasked o ≡ None → o ≡ None
    none None e = refl
    none (Some x) e = cc

    of_bare : (u : Tree) (p : ℕ) → IsConfined (one_mask u) p → IsConfined u p
    of_bare u p c = record {
      leaf = λ d. none (child_at u p d) (cc (child_bare u p d, c.leaf d));
      other = c.other;
      there = λ va g i z e. c.there va g i z (reach_bare u p va Store z ∙ e);
    }

pub sound_confines : SoundConfines
sound_confines t p s n other leaf = record {
  leaf = leaf;
  other = other;
  there = λ va g i z e. reached_words t p va g i Store z s n e;
}
