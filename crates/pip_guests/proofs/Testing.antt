-- The test of an event says that it reads nothing that is left out, and that of a partition that it is confined.
use Rattle.std.proofs.Common.{◌≡◌, ℕ, zero, suc, ◌+◌, ◌<◌, ◌≤◌, ◌==◌, ◌&&◌, ◌||◌, ◌⊎◌, inl, inr, not, cond, Bool}
use Rattle.std.proofs.Common.{true}
use Rattle.std.proofs.Common.{false, List, [], ◌∷◌, length, refl, arith, eq-eqb, Option, Some}
use Rattle.std.proofs.Common.{None}
use Rattle.std.specs.Prelude.{◌-◌, find, nat_lt}
use Rattle.std.proofs.lemmas.Bool.{cases_eq, ltb-true}
use Rattle.pip_base.specs.declared.types.Access.TheVariants.{Load, Store, Fetch}
use Rattle.pip_base.specs.declared.types.Size.{Size}
use Rattle.pip_base.specs.declared.types.Size.TheVariants.{Word}
use Rattle.pip_guests.specs.Outside.{EntryMisses}
use Rattle.pip_guests.specs.Sights.{IsSight, Sight, SightsPass}
use Rattle.pip_guests.specs.Sights as S
use Rattle.pip_model.specs.Answers.{Five, child_of}
use Rattle.pip_model.specs.CountToMap.{pages_needed}
use Rattle.pip_model.specs.Events.{Event}
use Rattle.pip_model.specs.Events as E
use Rattle.pip_model.specs.Handlers.{block, save_place}
use Rattle.pip_model.specs.Happens.{call_named, event, fault_vector}
use Rattle.pip_model.specs.Lists.{In, has}
use Rattle.pip_model.specs.Prepare.{next_in_chain}
use Rattle.pip_model.specs.Reach.{Faulted, Place, Reached, reach}
use Rattle.pip_model.specs.Switching.{target_node}
use Rattle.pip_model.specs.Tree.{Node, Tree, chain, children, has_table, lists, vpage}
use Rattle.pip_model.specs.Worlds.{IsSoundWorld, World, runs_on}
use Rattle.pip_model.specs.declared.call_name.CallName.{CallName}
use Rattle.pip_model.specs.declared.call_name.CallName.TheVariants.{Masks, OnMemory, Unknown, Yields}
use Rattle.pip_model.specs.declared.call_name.MemoryCall.{MemoryCall}
use Rattle.pip_model.specs.declared.call_name.MemoryCall.TheVariants.{AddVAddr, Collect, CountToMap, CreatePartition}
use Rattle.pip_model.specs.declared.call_name.MemoryCall.TheVariants.{DeletePartition, MappedInChild, Prepare}
use Rattle.pip_model.specs.declared.call_name.MemoryCall.TheVariants.{RemoveVAddr}
use Rattle.pip_model.specs.declared.processors.Occupant.{Occupant}
use Rattle.pip_model.proofs.Events.Soundness.{runs_named}
use Rattle.pip_model.proofs.OnLists.Members.{has_in, in_has}
use Rattle.pip_guests.specs.Exits.{IsConfined}
use Rattle.pip_guests.specs.Outside.{AboveMiss, BlockMisses, ByRunner, CallMisses, ChainMisses, DeliveryMisses}
use Rattle.pip_guests.specs.Outside.{HandlerMisses, HandlersMiss, Lands, LinesMiss, LoadMisses, MemoryMisses}
use Rattle.pip_guests.specs.Outside.{ReadsOutside, RunnerSaved, SaveMisses, StoreMisses}
use Rattle.pip_guests.specs.Outside.{entry_place, block_place}
use Rattle.pip_guests.specs.Turns.{AllReadOutside}
use Rattle.pip_guests.proofs.Confined.{sound_confines}

-- ---- tests

pub both : (a b : Bool) → (a && b) ≡ true → (a ≡ true) × (b ≡ true)
both true b e = (refl, e)
both false b e = cc

pub one : (a b : Bool) → (a || b) ≡ true → (a ≡ true) ⊎ (b ≡ true)
one true b e = inl refl
one false b e = inr e

pub off : (a : Bool) → not a ≡ true → a ≡ false
off true e = cc
off false e = refl

pub not_both : (a : Bool) → a ≡ false → a ≡ true → ⊥
not_both a e f = cc

pub all_are : (f : ℕ → Bool) (n i : ℕ) → S.each_from f n i ≡ true → (j : ℕ) → i ≤ j → j < i + n → f j ≡ true
all_are f zero i e j l k = absurd (omega arith)
all_are f (suc n) i e j l k =
    let h = both (f i) (S.each_from f n (i + 1)) e in
    elim (cases_eq i j) [
      | inl d ↦ rw (← d, h.0)
      | inr d ↦ all_are f n (i + 1) h.1 j (omega arith) (omega arith)
    ]

needed_few : (x : Node) (v : ℕ) → pages_needed x v ≤ 4
needed_few x v = go (has_table x v)
  where
    go : (b : Bool) → cond b 0 (3 + lists (length x.tables + 1) - lists (length x.tables)) ≤ 4
    go true = omega arith
    go false = omega arith

module _ (own : List ℕ) (look : ℕ → ℕ → ℕ → ℕ) (s : Sight) (is : IsSight own look s) where
  entry_misses : (t : Tree) (p : ℕ) (q : Reached) → S.entry_passes s t p q ≡ true → EntryMisses own look t p q
  entry_misses t p (Place g i) e = is.entry t p g i e
  entry_misses t p (Faulted f) e = tt

  block_misses : (q : Reached) → S.block_passes s q ≡ true → BlockMisses look q
  block_misses (Place g i) e = λ j l k. is.seen g j (all_are (λ j. s.seen g j) 17 i e j l k)
  block_misses (Faulted f) e = tt

  lands : (q : Reached) → S.block_blind s q ≡ true → Lands look q
  lands (Place g i) e = λ j l k. is.blind g j (all_are (λ j. s.blind g j) 17 i e j l k)
  lands (Faulted f) e = tt

  handler_misses : (t : Tree) (p k : ℕ) → S.handler_passes own s t p k ≡ true → HandlerMisses own look t p k
  handler_misses t p k e =
      let h = both _ _ e in
      record {
        entry = entry_misses t p (entry_place t p k) h.0;
        block = λ n. elim (one _ _ h.1) [
          | inl x ↦ absurd (n (has_in p own x))
          | inr x ↦ block_misses (block_place t p (block t p k)) x
        ];
      }

  handlers_miss : (w : World) (k : ℕ) (qs : List Node) → S.handlers_pass own s w k qs ≡ true
      → HandlersMiss own look w k qs
  handlers_miss w k [] e = tt
  handlers_miss w k (q ∷ qs) e =
      let h = both _ _ e in (
        (λ f. elim (one _ _ h.0) [
          | inl x ↦ absurd (not_both _ f x)
          | inr x ↦ handler_misses w.tree q.name k x
        ]),
        handlers_miss w k qs h.1,
      )

  above_miss : (w : World) (k : ℕ) (qs : List Node) → S.above_pass own s w k qs ≡ true → AboveMiss own look w k qs
  above_miss w k [] e = tt
  above_miss w k (q ∷ qs) e = handlers_miss w k qs e

  save_misses : (t : Tree) (p k : ℕ) → S.save_passes own s t p k ≡ true → SaveMisses own look t p k
  save_misses t p k e =
      let h = both _ _ e in
      record {
        entry = entry_misses t p (entry_place t p k) h.0;
        lands = λ i. elim (one _ _ h.1) [
          | inl x ↦ absurd (not_both _ (off _ x) (in_has p own i))
          | inr x ↦ lands (save_place t p k) x
        ];
      }

  delivery_misses : (w : World) (p k : ℕ) → S.delivery_passes own s w p k ≡ true → DeliveryMisses own look w p k
  delivery_misses w p k e =
      let h = both _ _ e in
      record { handlers = above_miss w k (chain w.tree p) h.0; save = save_misses w.tree p 63 h.1 }

  load_misses : (w : World) (p : ℕ) (q : Reached) → S.load_passes own s w p q ≡ true → LoadMisses own look w p q
  load_misses w p (Place g i) e = is.seen g i e
  load_misses w p (Faulted f) e = delivery_misses w p (fault_vector f) e

  store_misses : (w : World) (p va : ℕ) (z : Size) (q : Reached) → S.store_passes own s w p z q ≡ true
      → StoreMisses own look w p va z q
  store_misses w p va z (Place g i) e = is.stores va z g i e
  store_misses w p va z (Faulted f) e = delivery_misses w p (fault_vector f) e

  -- all pages of a chain but the last
  chain_misses : (t : Tree) (p k n : ℕ) (seen : List ℕ) (a : ℕ) → n ≤ suc k → S.chain_passes s t p k a ≡ true
      → ChainMisses look t p n seen a
  chain_misses t p k zero seen a l e = tt
  chain_misses t p k (suc zero) seen a l e = tt
  chain_misses t p zero (suc (suc n)) seen a l e = absurd (omega arith)
  chain_misses t p (suc k) (suc (suc n)) seen a l e =
      let h = both _ _ e in
      (is.seen _ _ h.0, chain_misses t p k (suc n) (a ∷ seen) (next_in_chain t p a) (omega arith) h.1)

  memory_misses : (t : Tree) (p : ℕ) (a : Five) (c : MemoryCall) → S.memory_passes s t p a c ≡ true
      → MemoryMisses look t p a c
  memory_misses t p a CreatePartition e = tt
  memory_misses t p a DeletePartition e = tt
  memory_misses t p a CountToMap e = tt
  memory_misses t p a Prepare e = chain_misses t p 3 (pages_needed (child_of t p a.x0) (vpage a.x1)) [] a.x2
      (needed_few (child_of t p a.x0) (vpage a.x1)) e
  memory_misses t p a Collect e = tt
  memory_misses t p a AddVAddr e = tt
  memory_misses t p a RemoveVAddr e = tt
  memory_misses t p a MappedInChild e = tt

  target_misses : (t : Tree) (k : ℕ) (o : Option Node) → S.target_passes own s t k o ≡ true → (x : Node)
      → o ≡ Some x
      → HandlerMisses own look t x.name k
  target_misses t k None e x q = cc
  target_misses t k (Some y) e x q = let d : y ≡ x = cc in
      rw (← d) (handler_misses t y.name k e)

  call_misses : (w : World) (p : ℕ) (a : Five) (c : CallName) → S.call_passes own s w.tree p a c ≡ true
      → CallMisses own look w p a c
  call_misses w p a (OnMemory c) e = memory_misses w.tree p a c e
  call_misses w p a Yields e =
      let h = both _ _ e in
      record {
        target = target_misses w.tree a.x1 (target_node w.tree p a.x0) h.0;
        save = λ f. elim (one _ _ h.1) [
          | inl x ↦ absurd (not_both _ (off _ x) f)
          | inr x ↦ save_misses w.tree p a.x2 x
        ];
      }
  call_misses w p a (Masks b) e = tt
  call_misses w p a Unknown e = tt

  lines_miss : (t : Tree) (js : List ℕ) → S.lines_pass own s t js ≡ true → LinesMiss own look t js
  lines_miss t [] e = tt
  lines_miss t (j ∷ js) e =
      let h = both _ _ e in (handler_misses t t.root.name (32 + j) h.0, lines_miss t js h.1)

  runner_saved : (t : Tree) (o : Option Occupant) → S.if_runs o (λ r. S.save_passes own s t r.name 63) ≡ true
      → RunnerSaved own look t o
  runner_saved t None e = tt
  runner_saved t (Some r) e = save_misses t r.name 63 e

  by_runner : (o : Option Occupant) (P : Occupant → Type 0) (f : Occupant → Bool) → ((r : Occupant) → f r ≡ true → P r)
      → S.if_runs o f ≡ true → ByRunner o P
  by_runner None P f g e = tt
  by_runner (Some r) P f g e = g r e

  pub reads : (w : World) (e : Event) → S.event_passes own s w e ≡ true → ReadsOutside own look w e
  reads w (E.Load cpu va z) e = by_runner (runs_on w cpu) _
      (λ r. S.load_passes own s w r.name (reach w.tree r.name va Load z)) (λ r. load_misses w r.name _) e
  reads w (E.Store cpu va z x) e = by_runner (runs_on w cpu) _
      (λ r. S.store_passes own s w r.name z (reach w.tree r.name va Store z)) (λ r. store_misses w r.name va z _) e
  reads w (E.Fetch cpu) e = by_runner (runs_on w cpu) _
      (λ r. not (has own r.name) && S.load_passes own s w r.name (reach w.tree r.name r.ctx.pc Fetch Word))
      (λ r f. let h = both _ _ f in
      ((λ i. not_both _ (off _ h.0) (in_has r.name own i)), load_misses w r.name _ h.1)) e
  reads w (E.Trap cpu k a b) e = by_runner (runs_on w cpu) _ (λ r. S.delivery_passes own s w r.name k)
      (λ r. delivery_misses w r.name k) e
  reads w (E.Call cpu number a) e = by_runner (runs_on w cpu) _
      (λ r. S.call_passes own s w.tree r.name a (call_named number)) (λ r. call_misses w r.name a (call_named
      number)) e
  reads w (E.Raise j) e = tt
  reads w (E.Poll cpu) e =
      let h = both _ _ e in
      record { lines = lines_miss w.tree w.tree.root.pending h.0; save = runner_saved w.tree (runs_on w cpu) h.1 }
  reads w (E.SetContext cpu c) e = tt

  pub all_read : (es : List Event) (w : World) → S.events_pass own s w es ≡ true → AllReadOutside own look
      w es
  all_read [] w e = tt
  all_read (x ∷ es) w e = let h = both _ _ e in (reads w x h.0, all_read es (event w x).world h.1)

pub sights_pass : SightsPass
sights_pass own look s w e is k = reads own look s is w e k

none_found : {A : Type 0} (f : A → Bool) (xs : List A) → nat_lt (length xs) 1 ≡ true → find f xs ≡ None
none_found f [] e = refl
none_found f (x ∷ xs) e = let l = ltb-true (suc (length xs)) 1 e in absurd (omega arith)

-- a hostile partition that runs is confined
pub confined : (own : List ℕ) (w : World) (cpu : ℕ) (r : Occupant) → IsSoundWorld w → runs_on w cpu ≡ Some r
    → S.has_no_child own w.tree r ≡ true → In r.name own × IsConfined w.tree r.name
confined own w cpu r s k e =
    let a = both _ _ e in
    let b = both _ _ a.1 in (
      has_in r.name own a.0,
      sound_confines w.tree r.name s.tree (s.names_nodes r.name (runs_named w cpu r s k))
          (λ q. not_both _ (off _ b.0) (eq-eqb r.name w.tree.root.name q))
          (λ d. none_found (λ x. x.born == d) (children w.tree r.name) b.1),
    )
