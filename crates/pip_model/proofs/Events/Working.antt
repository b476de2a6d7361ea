-- No event changes the number of frames, and none takes more steps than one number by it.
use Rattle.std.proofs.Common.{◌≡◌, ℕ, ◌+◌, ◌*◌, ◌<◌, ◌≤◌, cond, inl, inr, Bool, true, false, List, [], ◌∷◌, ◌++◌, map}
use Rattle.std.proofs.Common.{length, refl, sym, ap, subst, arith, Option, Some, None}
use Rattle.std.specs.Prelude.{◌==◌, filter_map, flat_map}
use Rattle.std.specs.List.{AllByRecursion, list_any}
use Rattle.std.proofs.Math.Dec.{eqb}
use Rattle.std.proofs.lemmas.List.{length-map}
use Rattle.std.proofs.lemmas.List.Sums.{sum_by-le}
use Rattle.std.proofs.lemmas.Map.Steps.{length-le_from_distinct_below}
use Rattle.std.proofs.lemmas.Nat.{mul-le}
use Rattle.pip_base.specs.declared.outcome.Outcome.{Outcome}
use Rattle.pip_base.specs.declared.outcome.Outcome.TheVariants as O
use Rattle.pip_base.specs.declared.types.Ctx.{Ctx}
use Rattle.pip_base.specs.declared.types.Pair.{Pair}
use Rattle.pip_base.specs.declared.outcome.Status.{Status}
use Rattle.pip_model.specs.Acts.{events_made}
use Rattle.pip_model.specs.Answers.{Answer, Five, answer_unless}
use Rattle.pip_base.specs.declared.types.Access.TheVariants.{Fetch, Load, Store}
use Rattle.pip_base.specs.declared.types.Size.TheVariants.{Word}
use Rattle.pip_model.specs.Deliver.{deliver, deliver_to}
use Rattle.pip_model.specs.Effects.{at_next, word_effect}
use Rattle.pip_model.specs.Events as E
use Rattle.pip_model.specs.Events.{Event, IsEvent}
use Rattle.pip_model.specs.Handlers.{handler}
use Rattle.pip_model.specs.Happens.{answer, call, call_named, event, load_happens, on_running, wrote}
use Rattle.pip_model.specs.Poll.{lowest_line, may_take, none_taken, poll_line, take_line}
use Rattle.pip_model.specs.Prepare.{PageChain, prepare_with, tree_with_table}
use Rattle.pip_model.specs.InstrRead.{instr_of}
use Rattle.pip_model.specs.Lists.{Distinct, In, has}
use Rattle.pip_model.specs.Reach.{Reached, reach}
use Rattle.pip_model.specs.Sound.{IsContext, IsSound}
use Rattle.pip_model.specs.Switching.{reply_unless, yield_happens}
use Rattle.pip_model.specs.Tree.{Node, Table, Tree, ancestry, below, chain, child_at, children, config, find_node}
use Rattle.pip_model.specs.Tree.{nodes, row_pages}
use Rattle.pip_model.specs.Work.{call_work, climbing_work, deleting_work, ending_work, event_work, memory_work}
use Rattle.pip_model.specs.Turn.{acts_after_fetch, acts_after_poll, arguments, effect_acts, fetch_acts, load_acts}
use Rattle.pip_model.specs.Turn.{outcome_of, store_acts, turn, word_acts, world_of}
use Rattle.pip_model.specs.Work.{events_work, most_event_work, most_turn_work, runner_work, slots_work}
use Rattle.pip_model.specs.Worlds.{Happened, IsSoundWorld, World, done, running, runs_on, save_running, with_running}
use Rattle.pip_model.specs.declared.call_name.CallName.{CallName}
use Rattle.pip_model.specs.declared.call_name.CallName.TheVariants as C
use Rattle.pip_model.specs.declared.call_name.MemoryCall.{MemoryCall}
use Rattle.pip_model.specs.declared.call_name.MemoryCall.TheVariants as M
use Rattle.pip_model.specs.declared.effect.Effect.{Effect}
use Rattle.pip_model.specs.declared.effect.Effect.TheVariants as F
use Rattle.pip_model.specs.declared.processors.Occupant.{Occupant}
use Rattle.pip_model.specs.declared.processors.Taker.{Taker}
use Rattle.pip_model.proofs.OnLists.Members.{Distinct-filter, Distinct-left, In-append_cases, In-append_left}
use Rattle.pip_model.proofs.OnLists.Members.{In-filter_from}
use Rattle.pip_model.proofs.OnLists.Members.{In-flat_from, In-map, In-map_from, find_in}
use Rattle.pip_model.proofs.Trees.Ancestors.{one_config}
use Rattle.pip_model.proofs.Trees.Depth.{any_member, depth, depth_few, distinct_by_test, few_nodes}
use Rattle.pip_model.proofs.Trees.Lookup.{found_in, name_found, names_apart, node_is}
use Rattle.pip_model.proofs.Events.Soundness.{event-sound, runs_named}
use Rattle.pip_model.proofs.Trees.Numbers.{page_small}

unless : (t : Tree) (o : Option Status) (a : Answer) → a.tree.frames ≡ t.frames
    → (answer_unless t o a).tree.frames ≡ t.frames
unless t None a e = e
unless t (Some s) a e = refl

tables : (t : Tree) (c i : ℕ) (gs : List Pair) → (tree_with_table t c i gs).frames ≡ t.frames
tables t c i [] = refl
tables t c i (a ∷ []) = refl
tables t c i (a ∷ b ∷ []) = refl
tables t c i (a ∷ b ∷ d ∷ gs) = refl

-- a call on memory
answered : (c : MemoryCall) (w : World) (p : ℕ) (a : Five) → (answer c w p a).tree.frames ≡ w.tree.frames
answered M.CreatePartition w p a = unless w.tree _ _ refl
answered M.DeletePartition w p a = unless w.tree _ _ refl
answered M.CountToMap w p a = unless w.tree _ _ refl
answered M.Prepare w p a = unless w.tree _ _ (go _ _ _ _)
  where
    go : (c v k : ℕ) (chain : PageChain) → (prepare_with w.tree c v k chain).tree.frames ≡ w.tree.frames
    go c v k (PageChain.Refused s) = refl
    go c v k (PageChain.Pages gs) = tables w.tree c _ gs
answered M.Collect w p a = unless w.tree _ _ refl
answered M.AddVAddr w p a = unless w.tree _ _ refl
answered M.RemoveVAddr w p a = unless w.tree _ _ refl
answered M.MappedInChild w p a = unless w.tree _ _ refl

yielded : (w : World) (cpu : ℕ) (r : Occupant) (a : Five) (q : ℕ) (o : Option Status) (h : Option Ctx)
    → (reply_unless w cpu r o (yield_happens w cpu r a q h)).world.tree.frames ≡ w.tree.frames
yielded w cpu r a q (Some s) h = refl
yielded w cpu r a q None None = refl
yielded w cpu r a q None (Some c) = refl

called : (c : CallName) (w : World) (cpu : ℕ) (r : Occupant) (a : Five) → (call c w cpu r a).world.tree.frames
    ≡ w.tree.frames
called (C.OnMemory c) w cpu r a = answered c w r.name a
called C.Yields w cpu r a = yielded w cpu r a _ _ _
called (C.Masks b) w cpu r a = refl
called C.Unknown w cpu r a = refl

delivered : (w : World) (cpu : ℕ) (r : Occupant) (k a b : ℕ) (o : Option Taker)
    → (deliver_to w cpu r k a b o).world.tree.frames ≡ w.tree.frames
delivered w cpu r k a b None = refl
delivered w cpu r k a b (Some y) = refl

taken_none : (w : World) (r : Option Occupant) → (none_taken w r).world.tree.frames ≡ w.tree.frames
taken_none w None = refl
taken_none w (Some r) = refl

saved : (t : Tree) (r : Option Occupant) → (save_running t r).frames ≡ t.frames
saved t None = refl
saved t (Some r) = refl

polled : (w : World) (cpu : ℕ) (r : Option Occupant) (j : Option ℕ)
    → (poll_line w cpu r j).world.tree.frames ≡ w.tree.frames
polled w cpu r None = taken_none w r
polled w cpu r (Some j) = go (handler w.tree w.tree.root.name (32 + j))
  where
    go : (o : Option Ctx) → (take_line w cpu r j o).world.tree.frames ≡ w.tree.frames
    go None = taken_none w r
    go (Some c) = saved w.tree r

on : (w : World) (cpu : ℕ) (o : Option Occupant) (f : Occupant → Happened)
    → ((r : Occupant) → (f r).world.tree.frames ≡ w.tree.frames) → (on_running w cpu o f).world.tree.frames ≡
    w.tree.frames
on w cpu None f h = refl
on w cpu (Some r) f h = h r

loaded : (w : World) (cpu : ℕ) (r : Occupant) (va : ℕ) (access : _) (size : _) (q : Reached)
    → (load_happens w cpu r va access size q).world.tree.frames ≡ w.tree.frames
loaded w cpu r va access size (Reached.Place g i) = refl
loaded w cpu r va access size (Reached.Faulted f) = delivered w cpu r _ _ _ _

stored : (w : World) (cpu : ℕ) (r : Occupant) (va : ℕ) (size : _) (x : ℕ) (q : Reached)
    → (wrote w cpu r va size x q).world.tree.frames ≡ w.tree.frames
stored w cpu r va size x (Reached.Place g i) = refl
stored w cpu r va size x (Reached.Faulted f) = delivered w cpu r _ _ _ _

-- no event changes how many frames there are
pub frames_stay : (w : World) (e : Event) → (event w e).world.tree.frames ≡ w.tree.frames
frames_stay w (E.Load cpu va size) = on w cpu (runs_on w cpu)
    (λ r. load_happens w cpu r va Load size (reach w.tree r.name va Load size)) (λ r. loaded w cpu r va Load size _)
frames_stay w (E.Store cpu va size x) = on w cpu (runs_on w cpu)
    (λ r. wrote w cpu r va size x (reach w.tree r.name va Store size)) (λ r. stored w cpu r va size x _)
frames_stay w (E.Fetch cpu) = on w cpu (runs_on w cpu)
    (λ r. load_happens w cpu r r.ctx.pc Fetch Word (reach w.tree r.name r.ctx.pc Fetch Word))
    (λ r. loaded w cpu r r.ctx.pc Fetch Word _)
frames_stay w (E.Trap cpu k a b) = on w cpu (runs_on w cpu) (λ r. deliver w cpu r k a b)
    (λ r. delivered w cpu r k a b _)
frames_stay w (E.Call cpu number a) = on w cpu (runs_on w cpu) (λ r. call (call_named number) w cpu r a)
    (λ r. called (call_named number) w cpu r a)
frames_stay w (E.Raise j) = refl
frames_stay w (E.Poll cpu) = go (may_take w cpu (runs_on w cpu))
  where
    go : (b : Bool) → (cond b (poll_line w cpu (runs_on w cpu) (lowest_line w w.tree.root.pending))
        (none_taken w (runs_on w cpu))).world.tree.frames ≡ w.tree.frames
    go true = polled w cpu (runs_on w cpu) (lowest_line w w.tree.root.pending)
    go false = taken_none w (runs_on w cpu)
frames_stay w (E.SetContext cpu c) = on w cpu (runs_on w cpu)
    (λ r. done (with_running w cpu (Some (record r { ctx = c })))) (λ r. refl)

-- ---- by the number of frames

-- no chain has more partitions than there are frames
pub chain_few : (t : Tree) → IsSound t → (p : ℕ) → length (chain t p) ≤ t.frames
unfolding depth
chain_few t s p = let short = depth_few t p in let few = few_nodes t s in omega (arith, short, few)

-- no partition has more tables than a directory has entries
few_tables : (t : Tree) → IsSound t → (x : Node) → In x (nodes t) → length x.tables ≤ 1024
few_tables t s x i =
    subst (λ k. k ≤ 1024) (length-map x.tables (λ b. b.index))
    (length-le_from_distinct_below (map (λ (b : Table). b.index) x.tables) 1024
    (distinct_by_test (map (λ (b : Table). b.index) x.tables) (s.tables x i).differ) small)
  where
    small : (q : ℕ) → list_any (eqb q) (map (λ (b : Table). b.index) x.tables) ≡ true → q < 1024
    small q h =
        let (b, j, e) = In-map_from (λ (b : Table). b.index) q x.tables
        (any_member q (map (λ (b : Table). b.index) x.tables) h) in
        subst (λ k. k < 1024) (sym e) ((s.tables x i).small b j)

distinct-append : (xs ys : List ℕ) → Distinct xs → Distinct ys → ((g : ℕ) → In g xs → In g ys → ⊥) → Distinct (xs ++ ys)
distinct-append [] ys d e h = e
distinct-append (x ∷ xs) ys d e h = (
  λ i. elim (In-append_cases x xs ys i) [ inl j ↦ d.0 j | inr j ↦ h x (inl refl) j ],
  distinct-append xs ys d.1 e (λ g i j. h g (inr i) j),
)

-- no page is configuration twice
config_once : (t : Tree) → IsSound t → (xs : List Node) → ((x : Node) → In x xs → In x (nodes t))
    → Distinct (map (λ x. x.name) xs) → Distinct (flat_map config xs)
config_once t s [] into d = tt
config_once t s (x ∷ xs) into d =
    distinct-append (config x) (flat_map config xs) (Distinct-left (config x) (row_pages x) (s.pages_apart x (into x
    (inl refl))).pages)
    (config_once t s xs (λ y i. into y (inr i)) d.1) (λ g i j.
    let (y, k, h) = In-flat_from config g xs j in
    let same = one_config t g s x y (into x (inl refl)) (into y (inr k)) i h in
    d.0 (subst (λ z. In z.name (map (λ x. x.name) xs)) (sym same) (In-map (λ x. x.name) y xs k)))

-- so no subtree has more pages of configuration than there are frames
pub config_few : (t : Tree) → IsSound t → (c : ℕ) → length (flat_map config (below t c)) ≤ t.frames
config_few t s c =
    length-le_from_distinct_below (flat_map config (below t c)) t.frames
    (distinct_by_test (flat_map config (below t c)) (config_once t s (below t c) inside
    (Distinct-filter (λ x. x.name) (λ x. has (ancestry t x.name) c) (nodes t) (names_apart t s)))) small
  where
    inside : (x : Node) → In x (below t c) → In x (nodes t)
    inside x i = (In-filter_from (λ z. has (ancestry t z.name) c) x (nodes t) i).0

    small : (q : ℕ) → list_any (eqb q) (flat_map config (below t c)) ≡ true → q < t.frames
    small q h =
        let (x, i, k) = In-flat_from config q (below t c) (any_member q (flat_map config (below t c)) h) in
        page_small t q s x (inside x i) (In-append_left q (config x) (row_pages x) k)

-- p is a partition
module _ (t : Tree) (s : IsSound t) (p : ℕ) (x : Node) (found : find_node t p ≡ Some x) where
  ending_few : (c : ℕ) → ending_work t p c ≤ 104483 + (7 * t.frames + 67) * t.frames
  ending_few c =
      let tables = few_tables t s x (found_in t p x found) in
      let is = ap (λ (z : Node). length z.tables) (node_is t p x found) in
      let pages = mul-le (7 * length (chain t p) + 67) (length (flat_map config (below t c))) (7 * t.frames + 67)
      t.frames
      (let short = chain_few t s p in omega (arith, short)) (config_few t s c) in
      omega (arith, tables, is, pages)

  deleting_few : (o : Option Node) → deleting_work t p o ≤ 104483 + (7 * t.frames + 67) * t.frames
  deleting_few None = omega arith
  deleting_few (Some c) = ending_few c.name

  slots_few : (d : ℕ) (o : Option Node) → child_at t p d ≡ o → slots_work o ≤ 1024
  slots_few d None is = omega arith
  slots_few d (Some c) is =
      few_tables t s c (inr (In-filter_from (λ z. z.up == p) c t.others (find_in (λ z. z.born == d) c (children t p)
      is).0).0)

  climbing_few : (rs : List ℕ) → length rs ≤ 4 → climbing_work t rs ≤ 4 * t.frames
  climbing_few rs four =
      let each = sum_by-le (λ q. length (chain t q)) t.frames rs (λ k d low. chain_few t s _) in
      let all = mul-le (length rs) t.frames 4 t.frames four (omega arith) in
      omega (arith, each, all)

  memory_most : (c : MemoryCall) (rs : List ℕ) → length rs ≤ 4 → (a : Five)
      → memory_work c t rs p a ≤ most_event_work t.frames
  memory_most M.CreatePartition rs four a = let short = chain_few t s p in omega (arith, short)
  memory_most M.DeletePartition rs four a =
      let climbs = climbing_few rs four in let ends = deleting_few (child_at t p a.x0) in omega (arith, climbs, ends)
  memory_most M.CountToMap rs four a = omega arith
  memory_most M.Prepare rs four a = let short = chain_few t s p in omega (arith, short)
  memory_most M.Collect rs four a =
      let short = chain_few t s p in let slots = slots_few a.x0 (child_at t p a.x0) refl in omega (arith, short, slots)
  memory_most M.AddVAddr rs four a = omega arith
  memory_most M.RemoveVAddr rs four a = omega arith
  memory_most M.MappedInChild rs four a = omega arith

  call_most : (c : CallName) (rs : List ℕ) → length rs ≤ 4 → (a : Five) → call_work c t rs p a ≤ most_event_work
      t.frames
  call_most (C.OnMemory c) rs four a = memory_most c rs four a
  call_most C.Yields rs four a = omega arith
  call_most C.Unknown rs four a = omega arith
  call_most (C.Masks b) rs four a = omega arith

-- no more names run than there are processors
names_few : (cs : List (Option Occupant)) → length (map (λ r. r.name) (filter_map (λ o. o) cs)) ≤ length cs
names_few [] = omega arith
names_few (None ∷ cs) = let h = names_few cs in omega (arith, h)
names_few (Some r ∷ cs) = let h = names_few cs in omega (arith, h)

module _ (w : World) (s : IsSoundWorld w) where
  -- what any partition of the tree may take, what runs may
  runner_most : (cpu n : ℕ) (f : ℕ → ℕ) → ((p : ℕ) (x : Node) → find_node w.tree p ≡ Some x → f p ≤ n)
      → runner_work (runs_on w cpu) f ≤ n
  runner_most cpu n f h = go (runs_on w cpu) refl
    where
      go : (o : Option Occupant) → runs_on w cpu ≡ o → runner_work o f ≤ n
      go None e = omega arith
      go (Some r) e =
          let (x, found) = name_found w.tree s.tree r.name (s.names_nodes r.name (runs_named w cpu r s e)) in
          h r.name x found

  delivered_most : (cpu k : ℕ) → k ≤ 80
      → runner_work (runs_on w cpu) (λ p. 8 * length (chain w.tree p) + k) ≤ 8 * w.tree.frames + k
  delivered_most cpu k low = runner_most cpu _ _ (λ p x found. let short = chain_few w.tree s.tree p in omega (
    arith,
    short,
  ))

  -- no event takes more than deletePartition may
  pub event_most : (e : Event) → event_work w e ≤ most_event_work w.tree.frames
  event_most (E.Load cpu va size) = let h = delivered_most cpu 80 (omega arith) in omega (arith, h)
  event_most (E.Store cpu va size x) = let h = delivered_most cpu 80 (omega arith) in omega (arith, h)
  event_most (E.Fetch cpu) = let h = delivered_most cpu 80 (omega arith) in omega (arith, h)
  event_most (E.Trap cpu k a b) = let h = delivered_most cpu 76 (omega arith) in omega (arith, h)
  event_most (E.Call cpu number a) = runner_most cpu _ _ (λ p x found. call_most w.tree s.tree p x found
      (call_named number) (running w) (let few = names_few w.cpus in let four = s.at_most_four in omega (
        arith,
        few,
        four,
      ))
      a)
  event_most (E.Raise j) = omega arith
  event_most (E.Poll cpu) = omega arith
  event_most (E.SetContext cpu c) = omega arith

-- ---- one after another

-- a run takes no more than that for each of its events
pub events_most : (w : World) (es : List Event) → IsSoundWorld w → AllByRecursion IsEvent es
    → events_work w es ≤ length es * most_event_work w.tree.frames
events_most w [] s all = omega arith
events_most w (e ∷ es) s all =
    let one = event_most w s e in
    let rest = subst (λ n. events_work (event w e).world es ≤ length es * most_event_work n) (frames_stay w e)
    (events_most (event w e).world es (event-sound w e s all.0) all.1) in
    omega (arith, one, rest)

-- ---- a turn

-- where no event is left, no step is
load_quiet : (w : World) (t cpu : ℕ) (x : Ctx) (a : ℕ) (o : Outcome)
    → events_work w (events_made (load_acts t cpu x a o)) ≡ 0
load_quiet w t cpu x a (O.Word v) = omega arith
load_quiet w t cpu x a O.Done = refl
load_quiet w t cpu x a (O.Reply s v) = refl
load_quiet w t cpu x a (O.Switched f to k) = refl
load_quiet w t cpu x a (O.Parked f k) = refl
load_quiet w t cpu x a O.Idle = refl

store_quiet : (w : World) (t cpu : ℕ) (x : Ctx) (o : Outcome)
    → events_work w (events_made (store_acts t cpu x o)) ≡ 0
store_quiet w t cpu x (O.Word v) = refl
store_quiet w t cpu x O.Done = omega arith
store_quiet w t cpu x (O.Reply s v) = refl
store_quiet w t cpu x (O.Switched f to k) = refl
store_quiet w t cpu x (O.Parked f k) = refl
store_quiet w t cpu x O.Idle = refl

next_context : (x : Ctx) → IsContext x → IsContext (at_next x)
next_context x k = record { pc = omega arith; count = k.count; regs = k.regs }

module _ (t cpu : ℕ) where
  -- an event after pc went on
  next_most : (w : World) → IsSoundWorld w → (x : Ctx) → IsContext x → (e : Event)
      → event_work (world_of w (E.SetContext cpu (at_next x))) e ≤ most_event_work w.tree.frames
  next_most w s x k e =
      let c = E.SetContext cpu (at_next x) in
      subst (λ n. event_work (world_of w c) e ≤ most_event_work n) (frames_stay w c)
      (event_most (world_of w c) (event-sound w c s (next_context x k)) e)

  -- an effect makes one event that reads, at most
  effect_most : (w : World) → IsSoundWorld w → (x : Ctx) → IsContext x → (f : Effect)
      → events_work w (events_made (effect_acts w t cpu x f)) ≤ most_event_work w.tree.frames
  effect_most w s x k (F.Sets a v) = omega arith
  effect_most w s x k (F.Goes pc) = omega arith
  effect_most w s x k (F.Links a pc) = omega arith
  effect_most w s x k (F.Loads a va size) =
      let e = E.Load cpu va size in
      let one = event_most w s e in
      let quiet = load_quiet (world_of w e) t cpu x a (outcome_of w e) in
      omega (arith, one, quiet)
  effect_most w s x k (F.Stores va v size) =
      let e = E.Store cpu va size v in
      let one = event_most w s e in
      let quiet = store_quiet (world_of w e) t cpu x (outcome_of w e) in
      omega (arith, one, quiet)
  effect_most w s x k (F.Traps n a b) = let one = event_most w s (E.Trap cpu n a b) in omega (arith, one)
  effect_most w s x k (F.Interrupts n) = let one = next_most w s x k (E.Trap cpu n 0 0) in omega (arith, one)
  effect_most w s x k (F.Calls n) = let one = next_most w s x k (E.Call cpu n (arguments x)) in omega (arith, one)
  effect_most w s x k (F.Shows v) = omega arith

  word_most : (w : World) → IsSoundWorld w → (v : ℕ) (o : Option Occupant) → runs_on w cpu ≡ o
      → events_work w (events_made (word_acts w t cpu v o)) ≤ most_event_work w.tree.frames
  word_most w s v None e = omega arith
  word_most w s v (Some r) e = effect_most w s r.ctx (s.contexts cpu r e) (word_effect r.ctx v (instr_of v))

  fetched_most : (w : World) → IsSoundWorld w → (o : Outcome)
      → events_work w (events_made (acts_after_fetch w t cpu o)) ≤ most_event_work w.tree.frames
  fetched_most w s (O.Word v) = word_most w s v (runs_on w cpu) refl
  fetched_most w s O.Done = omega arith
  fetched_most w s (O.Reply q v) = omega arith
  fetched_most w s (O.Switched f to k) = omega arith
  fetched_most w s (O.Parked f k) = omega arith
  fetched_most w s O.Idle = omega arith

  fetch_most : (w : World) → IsSoundWorld w
      → events_work w (events_made (fetch_acts w t cpu)) ≤ 8 * w.tree.frames + 80 + most_event_work w.tree.frames
  fetch_most w s =
      let one = delivered_most w s cpu 80 (omega arith) in
      let rest = subst (λ n. events_work (world_of w (E.Fetch cpu)) (events_made (acts_after_fetch (world_of w
      (E.Fetch cpu)) t cpu (outcome_of w (E.Fetch cpu)))) ≤ most_event_work n) (frames_stay w (E.Fetch cpu))
      (fetched_most (world_of w (E.Fetch cpu)) (event-sound w (E.Fetch cpu) s tt) (outcome_of w (E.Fetch cpu))) in
      omega (arith, one, rest)

  polled_most : (w : World) → IsSoundWorld w → (o : Outcome) → events_work w (events_made (acts_after_poll w t cpu o))
      ≤ 8 * w.tree.frames + 80 + most_event_work w.tree.frames
  polled_most w s (O.Word v) = fetch_most w s
  polled_most w s O.Done = fetch_most w s
  polled_most w s (O.Reply q v) = fetch_most w s
  polled_most w s (O.Switched f to k) = omega arith
  polled_most w s (O.Parked f k) = fetch_most w s
  polled_most w s O.Idle = omega arith

  -- a turn takes a poll, a fetch, and one event more at most
  pub turn_most : (w : World) → IsSoundWorld w
      → events_work w (events_made (turn w cpu t)) ≤ most_turn_work w.tree.frames
  turn_most w s =
      let rest = subst (λ n. events_work (world_of w (E.Poll cpu)) (events_made (acts_after_poll (world_of w (E.Poll
      cpu)) t
      cpu (outcome_of w (E.Poll cpu)))) ≤ 8 * n + 80 + most_event_work n) (frames_stay w (E.Poll cpu))
      (polled_most (world_of w (E.Poll cpu)) (event-sound w (E.Poll cpu) s tt) (outcome_of w (E.Poll cpu))) in
      omega (arith, rest)
