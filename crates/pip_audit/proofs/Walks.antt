-- The walk over the nodes by what an auditor holds.
use Rattle.std.proofs.Common.{◌≡◌, ◌≢◌, ℕ, zero, suc, ◌+◌, ◌-◌, ◌^◌, ◌<◌, ◌≤◌, ◌⊎◌, inl, inr, List, []}
use Rattle.std.proofs.Common.{◌∷◌, ◌++◌, length, refl, sym, ap, ◌∙◌, arith, Some, None, true, false}
use Rattle.std.proofs.Common.{eq-eqb, ne_eqb}
use Rattle.std.specs.Prelude.{is_some, slice_index, slice_index_or, slice_set}
use Rattle.std.proofs.lemmas.Bool.{cases_eq}
use Rattle.std.proofs.lemmas.List.{append-nil, get_or-set_other, get_or-set_same, length-set}
use Rattle.pip_base.specs.Memory.{Memory}
use Rattle.pip_model.specs.declared.reading.Stop.{Stop}
use Rattle.pip_model.specs.Lists.{In, has}
use Rattle.pip_model.specs.ReadOff.{Complete, Halts, Stopped, Visit, node_read, node_stop, tree_of}
use Rattle.pip_model.specs.ReadOff.{visits, walk}
use Rattle.pip_model.specs.Tree.{Node, names_of}
use Rattle.pip_model.specs.Walking.{Standing, ahead_of, visits_from}
use Rattle.pip_model.proofs.Audit.Walking.{visits_end, visits_step, visits_whole, walk_on}
use Rattle.pip_audit.specs.declared.family.Family.{Family}
use Rattle.pip_audit.specs.Families.{HasChildren, HasFamilyRoom}
use Rattle.pip_audit.specs.declared.frame_set.FrameSet.{FrameSet}
use Rattle.pip_audit.specs.declared.frame_set.Sets.{Sets}
use Rattle.pip_audit.specs.FrameSets.{AreSets}
use Rattle.pip_audit.specs.declared.frame_words.FrameWords.{FrameWords}
use Rattle.pip_audit.specs.declared.frame_words.Words.{Words}
use Rattle.pip_audit.specs.FrameWords.{AreFrameWords}
use Rattle.pip_audit.specs.declared.auditor.Auditor.{Auditor}
use Rattle.pip_audit.specs.declared.walk.Child.{Child}
use Rattle.pip_audit.specs.Reading.{AreNames, AreOrdered, AreStanding, HasRead, InWalk, IsEntered, IsFirstVisit, IsFor}
use Rattle.pip_audit.specs.Reading.{IsOn, IsRead, top_from, top_page, visit_seen}
use Rattle.pip_audit.specs.declared.tables.Tables.{Tables}
use Rattle.pip_audit.specs.Blocks.{AreKnown}
use Rattle.pip_audit.specs.Tables.{HasTableRoom, tables_in}

-- ---- lists of which a part is kept

pub names_count : (names : List ℕ) (count : ℕ) (others : List Node) → AreNames names count others
    → count ≡ suc (length others)
names_count names count [] h = h.0
names_count names count (x ∷ xs) h = h.1 ∙ ap suc (names_count names h.0 xs h.3)

pub names_kept : (xs ys : List ℕ) (count : ℕ) (others : List Node)
    → ((i : ℕ) → i < count → slice_index ys i ≡ slice_index xs i) → AreNames xs count others → AreNames ys count others
names_kept xs ys count [] same h = let one = h.0 in (h.0, same 0 (omega (arith, one)) ∙ h.1)
names_kept xs ys count (x ∷ others) same h =
    let more = h.1 in (
      h.0,
      h.1,
      same h.0 (omega (arith, more)) ∙ h.2,
      names_kept xs ys h.0 others (λ i l. same i (omega (arith, l, more))) h.3,
    )

pub standing_kept : (ps qs fs gs : List ℕ) (depth : ℕ) (ss : List Standing) → ((i : ℕ) → i < depth
    → slice_index qs i ≡ slice_index ps i) → ((i : ℕ) → i < depth → slice_index gs i ≡ slice_index fs i)
    → AreStanding ps fs depth ss → AreStanding qs gs depth ss
standing_kept ps qs fs gs depth [] same like h = h
standing_kept ps qs fs gs depth (s ∷ ss) same like h =
    let more = h.1 in (
      h.0,
      h.1,
      same h.0 (omega (arith, more)) ∙ h.2,
      like h.0 (omega (arith, more)) ∙ h.3,
      standing_kept ps qs fs gs h.0 ss
          (λ i l. same i (omega (arith, l, more))) (λ i l. like i (omega (arith, l, more))) h.4,
    )

set_here : (xs ys : List ℕ) (i v : ℕ) → ys ≡ slice_set xs i v → i < length xs → slice_index ys i ≡ v
set_here xs ys i v e h = rw e (get_or-set_same xs i v 0 h)

set_below : (xs ys : List ℕ) (i v j : ℕ) → ys ≡ slice_set xs i v → j < i → slice_index ys j ≡ slice_index xs j
set_below xs ys i v j e h = rw e (get_or-set_other xs i j v 0 (omega arith))

-- ---- where the reading stops

pub halts : (m : Memory) (s : Stop) → node_stop m 1 ≡ None
    → walk m (node_read m 1) (length m) (visits m (node_read m 1)) [] ≡ Stopped s → tree_of m ≡ Halts s
unfolding tree_of
halts m s root e = rw (root, e)

pub root_halts : (m : Memory) (s : Stop) → node_stop m 1 ≡ Some s → tree_of m ≡ Halts s
unfolding tree_of
root_halts m s e = rw e

walk_full : (m : Memory) (root : Node) (left : ℕ) (v : Visit) (vs : List Visit) (others : List Node) → left ≡ 0
    → walk m root left (v ∷ vs) others ≡ Stopped v.told
unfolding walk
walk_full m root left v vs others e = rw e

walk_seen : (m : Memory) (root : Node) (left : ℕ) (v : Visit) (vs : List Visit) (others : List Node)
    → has (names_of (root ∷ others)) v.page ≡ true → walk m root left (v ∷ vs) others ≡ Stopped v.told
unfolding walk
walk_seen m root zero v vs others e = refl
walk_seen m root (suc n) v vs others e = rw e

walk_stops : (m : Memory) (root : Node) (left n : ℕ) (v : Visit) (vs : List Visit) (others : List Node) (s : Stop)
    → left ≡ suc n → has (names_of (root ∷ others)) v.page ≡ false → node_stop m v.page ≡ Some s
    → walk m root left (v ∷ vs) others ≡ Stopped s
unfolding walk
walk_stops m root left n v vs others s is off e = rw (is, off, e)

pub walk_whole : (m : Memory) (root : Node) (n : ℕ) (others : List Node) → walk m root n [] others ≡ Complete others
unfolding walk
walk_whole m root n others = refl

-- ---- the top of the stack

-- what stands above the others
pub record IsTop (m : Memory) (a : Auditor) (w : InWalk m a) : Type 0 where
  pub rest : ℕ
  pub depth : a.depth ≡ suc rest
  pub below : List Standing
  pub stack : w.stack ≡ record { page = top_page a; from = top_from a } ∷ below
  pub standing : AreStanding a.standing.items a.from.items rest below
  pub page : top_page a < length m
  pub passes : node_stop m (top_page a) ≡ None
  pub from : top_from a ≤ 2 ^ 20

pub top : (m : Memory) (a : Auditor) (w : InWalk m a) → 0 < a.depth → IsTop m a w
top m a w deep = go w.stack refl w.standing
  where
    go : (stack : List Standing) → w.stack ≡ stack → AreStanding a.standing.items a.from.items a.depth stack
        → IsTop m a w
    go [] e h = absurd (omega arith)
    go (s ∷ ss) e h =
        let last : a.depth - 1 ≡ h.0 = omega arith in
        let page : top_page a ≡ s.page = rw last h.2 in
        let from : top_from a ≡ s.from = rw last h.3 in
        let is = w.pages s (rw e (inl refl)) in
        record {
          rest = h.0;
          depth = h.1;
          below = ss;
          stack = rw (page, from) e;
          standing = h.4;
          page = rw page is.0;
          passes = rw page is.1;
          from = rw from is.2;
        }

-- the visit that is next
abbrev pub IsNext : Memory → Auditor → Child → Type 0
IsNext m a v = IsFirstVisit m (tables_in m (top_page a)) (top_from a) (Some v)

next_step : (m : Memory) (a : Auditor) (v : Child) → IsNext m a v → visits_from m (record {
  page = top_page a;
  from = top_from a;
}) ≡ visit_seen v ∷ visits_from m (record { page = top_page a; from = v.at + 1 })
next_step m a v n = visits_step m (top_page a) (top_from a) v.at (visit_seen v) n.0 n.1 n.4 n.3

next_ahead : (m : Memory) (a : Auditor) (w : InWalk m a) (v : Child) (t : IsTop m a w) → IsNext m a v → ahead_of m
    w.stack ≡ visit_seen v ∷ (visits_from m (record { page = top_page a; from = v.at + 1 }) ++ ahead_of m t.below)
next_ahead m a w v t n = rw (t.stack, next_step m a v n)

next_goes : (m : Memory) (a : Auditor) (w : InWalk m a) (v : Child) (t : IsTop m a w) (s : Stop) → IsNext m a v
    → walk m (node_read m 1) w.left (visit_seen v ∷ (visits_from m (record { page = top_page a; from = v.at + 1 })
    ++ ahead_of m t.below)) w.others ≡ Stopped s → tree_of m ≡ Halts s
next_goes m a w v t s n e = halts m s w.has_read.root (rw (w.goes, next_ahead m a w v t n) e)

-- ---- a visit

-- that many nodes were read as there are frames
pub full_halts : (m : Memory) (a : Auditor) (w : InWalk m a) (v : Child) → 0 < a.depth → IsNext m a v
    → a.count ≡ length m + 1 → tree_of m ≡ Halts v.told
full_halts m a w v deep n full =
    let t = top m a w deep in
    let count = names_count a.names.items a.count w.others w.has_read.names in
    next_goes m a w v t v.told n (walk_full m (node_read m 1) w.left (visit_seen v) _ w.others (omega arith))

-- the page was read before
pub seen_halts : (m : Memory) (a : Auditor) (w : InWalk m a) (v : Child) → 0 < a.depth → IsNext m a v
    → is_some (slice_index_or a.order.items v.page None) ≡ true → tree_of m ≡ Halts v.told
seen_halts m a w v deep n seen =
    let t = top m a w deep in
    next_goes m a w v t v.told n
    (walk_seen m (node_read m 1) w.left (visit_seen v) _ w.others (rw (← w.has_read.order.read v.page n.2) seen))

left_more : (m : Memory) (a : Auditor) (w : InWalk m a) → a.count ≢ length m + 1 → w.left ≡ suc (w.left - 1)
left_more m a w ne = omega (arith, names_count a.names.items a.count w.others w.has_read.names)

-- it can't be read
pub node_halts : (m : Memory) (a : Auditor) (w : InWalk m a) (v : Child) (s : Stop) → 0 < a.depth → IsNext m a v
    → a.count ≢ length m + 1 → slice_index_or a.order.items v.page None ≡ None → node_stop m v.page ≡ Some s
    → tree_of m ≡ Halts s
node_halts m a w v s deep n ne new stop =
    let t = top m a w deep in
    next_goes m a w v t s n
    (walk_stops m (node_read m 1) w.left (w.left - 1) (visit_seen v) _ w.others s (left_more m a w ne)
    (rw (← w.has_read.order.read v.page n.2, new)) stop)

-- one of an auditor's sets was changed
module _ (n : ℕ) (s : Sets) (t : FrameSet) (r : AreSets n s) where
  pub read_set : length t.has.items ≡ length s.read.has.items → AreSets n (record s { read = t })
  read_set l = assumption (l ∙ r.read)

  pub hidden_set : length t.has.items ≡ length s.hidden.has.items → AreSets n (record s { hidden = t })
  hidden_set l = assumption (l ∙ r.hidden)

-- some of its words were
module _ (n : ℕ) (s : Words) (t : FrameWords) (r : AreFrameWords n s) where
  pub quiet_words : length t.words.items ≡ length s.quiet.words.items → AreFrameWords n (record s { quiet = t })
  quiet_words l = assumption (l ∙ r.quiet)

  pub given_words : length t.words.items ≡ length s.given.words.items → AreFrameWords n (record s { given = t })
  given_words l = assumption (l ∙ r.given)

  pub above_words : length t.words.items ≡ length s.above.words.items → AreFrameWords n (record s { above = t })
  above_words l = assumption (l ∙ r.above)

pub room_on : (n page at : ℕ) (a o b : Auditor) → IsFor n a → IsOn a at o → IsEntered page o b → IsFor n b
room_on n page at a o b r u e = record {
  names = simp (e.names, u.names, length-set) r.names;
  order = simp (e.order, u.order, length-set) r.order;
  standing = simp (e.standing, u.standing, length-set) r.standing;
  from = simp (e.from, u.from, length-set) r.from;
  node = rw (e.node, u.node) r.node;
  child = rw (e.child, u.child) r.child;
  sets = rw (e.sets, u.sets) r.sets;
  words = rw (e.words, u.words) r.words;
  family = rw (e.family, u.family) r.family;
}

name_is : (m : Memory) (f : ℕ) → (node_read m f).name ≡ f
unfolding node_read
name_is m f = refl

-- the places of the names, with one more
module _ (m : Memory) (a o b : Auditor) (others : List Node) (page at : ℕ) (u : IsOn a at o) (e : IsEntered page o b)
    (room : IsFor (length m) a) (inside : page < length m) (left : a.count < length a.names.items)
    (new : slice_index_or a.order.items page None ≡ None) where
  order_at : (f : ℕ) → f ≢ page → slice_index_or b.order.items f None ≡ slice_index_or a.order.items f None
  order_at f ne = rw (e.order, get_or-set_other o.order.items page f (Some o.count) None ne, u.order)

  order_here : slice_index_or b.order.items page None ≡ Some a.count
  order_here =
      let long : length o.order.items ≡ length m = rw u.order room.order in
      rw (e.order, get_or-set_same o.order.items page (Some o.count) None (rw long inside), u.count)

  names_old : (i : ℕ) → i < a.count → slice_index b.names.items i ≡ slice_index a.names.items i
  names_old i h =
      rw (set_below o.names.items b.names.items o.count page i e.names (omega arith), u.names)

  pub name_new : slice_index b.names.items a.count ≡ page
  name_new =
      rw (← u.count) (set_here o.names.items b.names.items o.count page e.names (rw (u.count, u.names) left))

  pub ordered_more : AreOrdered m a others → AreOrdered m b (node_read m page ∷ others)
  ordered_more h = record {
    read = λ f l. elim (cases_eq f page) [
      | inl q ↦ rw (q, order_here, name_is m page, eq-eqb page page refl) (grind arith)
      | inr ne ↦ rw (order_at f ne, name_is m page, ne_eqb page f (λ q. ne (sym q))) (h.read f l)
    ];
    place = λ f k l is. elim (cases_eq f page) [
      | inl q ↦ let z : k ≡ a.count = cc order_here in (omega arith, rw (z, q) name_new)
      | inr ne ↦ let (less, at) = h.place f k l (rw (order_at f ne) at is) in (omega arith, rw (names_old k less) at)
    ];
    back = λ k l. elim (cases_eq k a.count) [
      | inl q ↦ rw (q, name_new) order_here
      | inr ne ↦
          let less : k < a.count = omega arith in
          let was = h.back k less in
          rw (names_old k less, order_at (slice_index a.names.items k) (λ q. absurd (cc new))) was
    ];
  }

  pub names_more : AreNames a.names.items a.count others → AreNames b.names.items b.count (node_read m page ∷ others)
  names_more h = (
    a.count,
    omega arith,
    rw (name_is m page) name_new,
    names_kept a.names.items b.names.items a.count others names_old h,
  )

pub entered : (m : Memory) (a o b : Auditor) (w : InWalk m a) (v : Child) → 0 < a.depth → IsNext m a v
    → a.count ≢ length m + 1 → slice_index_or a.order.items v.page None ≡ None → node_stop m v.page ≡ None
    → IsOn a v.at o → IsEntered v.page o b → InWalk m b
entered m a o b w v deep n ne new passes u e =
    let t = top m a w deep in
    let page = v.page in
    let room = w.has_read.room in
    let count = names_count a.names.items a.count w.others w.has_read.names in
    let left : a.count < length a.names.items = omega arith in
    let more = left_more m a w ne in
    let below' : a.depth < length a.standing.items = omega arith in
    let from' : a.depth < length a.from.items = omega arith in
    let last : a.depth - 1 ≡ t.rest = omega arith in
    let pages_old : (i : ℕ) → i < a.depth → slice_index b.standing.items i ≡ slice_index a.standing.items i = λ i l.
    rw (set_below o.standing.items b.standing.items o.depth page i e.standing (omega arith), u.standing) in
    let from_mid : (i : ℕ) → i < a.depth → slice_index b.from.items i ≡ slice_index o.from.items i = λ i l.
    set_below o.from.items b.from.items o.depth 0 i e.from (omega arith) in
    let from_old : (i : ℕ) → i < t.rest → slice_index b.from.items i ≡ slice_index a.from.items i = λ i l.
    rw (from_mid i (omega arith))
    (set_below a.from.items o.from.items (a.depth - 1) (v.at + 1) i u.from (omega arith)) in
    let seen = w.has_read.order.read v.page n.2 in
    record {
      others = node_read m page ∷ w.others;
      stack = record { page = page; from = 0 } ∷ record { page = top_page a; from = v.at + 1 } ∷ t.below;
      left = w.left - 1;
      has_read = record {
        room = room_on (length m) page v.at a o b room u e;
        root = w.has_read.root;
        names = names_more m a o b w.others page v.at u e room n.2 left new w.has_read.names;
        nodes = λ x i. one_more x i;
        order = ordered_more m a o b w.others page v.at u e room n.2 left new w.has_read.order;
        fits = simp (e.names, u.names, length-set) (omega arith);
      };
      standing = (
        a.depth,
        omega arith,
        rw (← u.depth) (set_here o.standing.items b.standing.items o.depth page e.standing
            (rw (u.depth, u.standing) below')),
        rw (← u.depth) (set_here o.from.items b.from.items o.depth 0 e.from (rw (u.depth, u.from, length-set) from')),
        (
          t.rest,
          t.depth,
          rw (pages_old t.rest (omega arith), ← last),
          rw (from_mid t.rest (omega arith), ← last)
              (set_here a.from.items o.from.items (a.depth - 1) (v.at + 1) u.from (omega arith)),
          standing_kept a.standing.items b.standing.items a.from.items b.from.items t.rest t.below
              (λ i l. pages_old i (omega arith)) from_old t.standing,
        ),
      );
      pages = λ s i. stacked s i;
      few = omega arith;
      deep = omega arith;
      goes = w.goes ∙ ap (λ ss. walk m (node_read m 1) w.left (ahead_of m ss) w.others) t.stack
          ∙ ap (λ k. walk m (node_read m 1) k
          (ahead_of m (record { page = top_page a; from = top_from a } ∷ t.below)) w.others) more
          ∙ walk_on m (node_read m 1) (w.left - 1) (top_page a) (top_from a) v.at t.below w.others (visit_seen v)
          (next_step m a v n) (rw (← seen, new)) passes;
    }
  where
    one_more : (x : Node) → (x ≡ node_read m v.page) ⊎ In x w.others
        → (x.name < length m) × (node_stop m x.name ≡ None) × (x ≡ node_read m x.name)
    one_more x (inl q) = let name : x.name ≡ v.page = rw q (name_is m v.page) in (rw name n.2, rw name passes, cc)
    one_more x (inr i) = w.has_read.nodes x i

    stacked : (s : Standing) → (s ≡ record { page = v.page; from = 0 })
        ⊎ (s ≡ record { page = top_page a; from = v.at + 1 }) ⊎ In s (top m a w deep).below
        → (s.page < length m) × (node_stop m s.page ≡ None) × (s.from ≤ 2 ^ 20)
    stacked s (inl q) = rw q (n.2, passes, omega arith)
    stacked s (inr (inl q)) = let t = top m a w deep in rw q (t.page, t.passes, omega (arith, n.1))
    stacked s (inr (inr i)) = w.pages s (rw (top m a w deep).stack (inr i))

-- ---- the other steps

has_read_with : (m : Memory) (a b : Auditor) (others : List Node) → HasRead m a others → IsFor (length m) b
    → b.names.items ≡ a.names.items → b.count ≡ a.count → b.order.items ≡ a.order.items → HasRead m b others
has_read_with m a b others h room names count order = record {
  room = room;
  root = h.root;
  names = rw (names, count) h.names;
  nodes = h.nodes;
  order = record {
    read = λ f l. rw order (h.order.read f l);
    place = λ f k l e. rw (count, names) (h.order.place f k l (rw order at e));
    back = λ k l. rw (order, names) (h.order.back k (rw count at l));
  };
  fits = rw (count, names) h.fits;
}

-- what the walk is in stays where only other fields change
still : (m : Memory) (a b : Auditor) (w : InWalk m a) → HasRead m b w.others → b.standing ≡ a.standing
    → b.from ≡ a.from → b.depth ≡ a.depth → b.count ≡ a.count → InWalk m b
still m a b w has_read standing from depth count = record {
  others = w.others;
  stack = w.stack;
  left = w.left;
  has_read = has_read;
  standing = rw (standing, from, depth) w.standing;
  pages = w.pages;
  few = w.few;
  deep = rw (depth, count) w.deep;
  goes = w.goes;
}

-- other tables were loaded
pub with_node : (n : ℕ) (a : Auditor) (t : Tables) → IsFor n a → HasTableRoom n t → IsFor n (record a { node = t })
with_node n a t r h = assumption

pub walks_on : (m : Memory) (a : Auditor) (t : Tables) → InWalk m a → HasTableRoom (length m) t
    → InWalk m (record a { node = t })
walks_on m a t w h =
    let has_read = has_read_with m a (record a { node = t }) w.others w.has_read
    (with_node (length m) a t w.has_read.room h) refl refl refl in
    still m a (record a { node = t }) w has_read refl refl refl refl

-- the tables of a child were loaded, and sets and blocks were changed
pub room_marked : (n : ℕ) (a b : Auditor) → IsFor n a → HasTableRoom n b.child → AreSets n b.sets
    → b ≡ record a { child = b.child; sets = b.sets; blocks = b.blocks } → IsFor n b
room_marked n a b r h l e = rw e assumption

pub walks_marked : (m : Memory) (a b : Auditor) → InWalk m a → HasTableRoom (length m) b.child → AreSets (length m)
    b.sets
    → b ≡ record a { child = b.child; sets = b.sets; blocks = b.blocks } → InWalk m b
walks_marked m a b w h l e =
    let c = record a { child = b.child; sets = b.sets; blocks = b.blocks } in
    rw e (still m a c w (has_read_with m a c w.others w.has_read
    (room_marked (length m) a c w.has_read.room h l refl) refl refl refl) refl refl refl refl)

-- words are held, and blocks are known
room_learned : (n : ℕ) (a b : Auditor) → IsFor n a → AreFrameWords n b.words
    → b ≡ record a { words = b.words; blocks = b.blocks } → IsFor n b
room_learned n a b r l e = rw e assumption

pub walks_worded : (m : Memory) (a b : Auditor) → InWalk m a → AreFrameWords (length m) b.words
    → b ≡ record a { words = b.words; blocks = b.blocks } → InWalk m b
walks_worded m a b w l e =
    let c = record a { words = b.words; blocks = b.blocks } in
    rw e (still m a c w (has_read_with m a c w.others w.has_read
    (room_learned (length m) a c w.has_read.room l refl) refl refl refl) refl refl refl refl)

-- all rows of a node were gone through
pub popped : (m : Memory) (a : Auditor) (t : Tables) (w : InWalk m a) → HasTableRoom (length m) t → 0 < a.depth
    → IsFirstVisit m (tables_in m (top_page a)) (top_from a) None
    → InWalk m (record a { node = t; depth = a.depth - 1 })
popped m a t w h deep none =
    let p = top m a w deep in
    let last : a.depth - 1 ≡ p.rest = omega arith in
    let b = record a { node = t; depth = a.depth - 1 } in
    let o = with_node (length m) a t w.has_read.room h in
    let room : IsFor (length m) b = assumption in
    record {
      others = w.others;
      stack = p.below;
      left = w.left;
      has_read = has_read_with m a b w.others w.has_read room refl refl refl;
      standing = rw last p.standing;
      pages = λ s i. w.pages s (rw p.stack (inr i));
      few = w.few;
      deep = omega arith;
      goes = w.goes ∙ ap (λ ss. walk m (node_read m 1) w.left (ahead_of m ss) w.others) p.stack
          ∙ rw (visits_end m (top_page a) (top_from a) none);
    }

-- children are found
pub walks_found : (m : Memory) (a : Auditor) (s : Family) → InWalk m a → HasFamilyRoom (length m) s
    → InWalk m (record a { family = s })
walks_found m a s w h =
    let q = w.has_read.room in
    let room : IsFor (length m) (record a { family = s }) = assumption in
    let has_read = has_read_with m a (record a { family = s }) w.others w.has_read room refl refl refl in
    still m a (record a { family = s }) w has_read refl refl refl refl

-- nothing is left
pub ended : (m : Memory) (a : Auditor) (w : InWalk m a) → AreKnown m a.blocks → a.depth ≡ 0
    → HasChildren m a.names.items a.count a.family 1 → IsRead m a
ended m a w known z found = go w.stack refl w.standing
  where
    go : (stack : List Standing) → w.stack ≡ stack → AreStanding a.standing.items a.from.items a.depth stack
        → IsRead m a
    go [] e h = record {
      others = w.others;
      has_read = w.has_read;
      whole = rw (w.goes, e) (walk_whole m (node_read m 1) w.left w.others);
      known = known;
      children = found;
    }
    go (s ∷ ss) e h = absurd (omega arith)

-- the root was read
pub started : (m : Memory) (a b : Auditor) → 16 ≤ length m → IsFor (length m) a → node_stop m 1 ≡ None → a.count ≡ 0
    → a.depth ≡ 0 → ((f : ℕ) → slice_index_or a.order.items f None ≡ None) → IsEntered 1 a b → InWalk m b
started m a b least r root nought none new e =
    let order_here : slice_index_or b.order.items 1 None ≡ Some a.count =
    rw (e.order, get_or-set_same a.order.items 1 (Some a.count) None (rw r.order (omega arith))) in
    let order_at : (f : ℕ) → f ≢ 1 → slice_index_or b.order.items f None ≡ None =
    λ f ne. rw (e.order, get_or-set_other a.order.items 1 f (Some a.count) None ne) (new f) in
    let name : slice_index b.names.items 0 ≡ 1 =
    rw nought at (set_here a.names.items b.names.items a.count 1 e.names (omega arith)) in
    record {
      others = [];
      stack = record { page = 1; from = 0 } ∷ [];
      left = length m;
      has_read = record {
        room = record {
          names = simp (e.names, length-set) r.names;
          order = simp (e.order, length-set) r.order;
          standing = simp (e.standing, length-set) r.standing;
          from = simp (e.from, length-set) r.from;
          node = rw e.node r.node;
          child = rw e.child r.child;
          sets = rw e.sets r.sets;
          words = rw e.words r.words;
          family = rw e.family r.family;
        };
        root = root;
        names = (omega arith, name);
        nodes = λ x i. absurd i;
        order = record {
          read = λ f l. elim (cases_eq f 1) [
            | inl q ↦ rw (q, order_here, name_is m 1)
            | inr ne ↦ rw (order_at f ne, name_is m 1, ne_eqb 1 f (λ q. ne (sym q)))
          ];
          place = λ f k l is. elim (cases_eq f 1) [
            | inl q ↦ let z : k ≡ 0 = cc (order_here, nought) in (omega arith, rw (z, q) name)
            | inr ne ↦ absurd (cc (order_at f ne))
          ];
          back = λ k l. let z : k ≡ 0 = omega arith in rw (z, name, order_here, nought);
        };
        fits = simp (e.names, length-set) (omega arith);
      };
      standing = (
        0,
        omega arith,
        rw none at (set_here a.standing.items b.standing.items a.depth 1 e.standing (omega arith)),
        rw none at (set_here a.from.items b.from.items a.depth 0 e.from (omega arith)),
        refl,
      );
      pages = λ s i. stacked s i;
      few = omega arith;
      deep = omega arith;
      goes = ap (λ vs. walk m (node_read m 1) (length m) vs []) (visits_whole m 1
          ∙ sym (append-nil (visits_from m (record { page = 1; from = 0 }))));
    }
  where
    stacked : (s : Standing) → (s ≡ record { page = 1; from = 0 }) ⊎ ⊥
        → (s.page < length m) × (node_stop m s.page ≡ None) × (s.from ≤ 2 ^ 20)
    stacked s (inl q) = rw q (omega arith, root, omega arith)
    stacked s (inr i) = absurd i

-- the top stands inside
pub top_fits : (m : Memory) (a : Auditor) (w : InWalk m a) → 0 < a.depth
    → (a.depth - 1 < length a.standing.items) × (a.depth - 1 < length a.from.items)
top_fits m a w deep =
    let count = names_count a.names.items a.count w.others w.has_read.names in (omega arith, omega arith)

-- what was read is forgotten
pub forgot : (n : ℕ) (a b : Auditor) → b ≡ record a {
  count = b.count;
  depth = b.depth;
  order = b.order;
  sets = record a.sets { read = b.sets.read };
  words = record a.words { quiet = b.words.quiet };
  blocks = b.blocks;
} → length b.order.items ≡ length a.order.items → length b.sets.read.has.items ≡ length a.sets.read.has.items
    → length b.words.quiet.words.items ≡ length a.words.quiet.words.items → IsFor n a → IsFor n b
forgot n a b e order read words r = rw e (assumption (
  order ∙ r.order,
  read_set n a.sets b.sets.read r.sets read,
  quiet_words n a.words b.words.quiet r.words words,
))

-- and when the tables of a child are loaded and sets are changed
pub stays_marked : (m : Memory) (a b : Auditor) → IsRead m a → HasTableRoom (length m) b.child → AreSets (length m)
    b.sets
    → b ≡ record a { child = b.child; sets = b.sets } → IsRead m b
stays_marked m a b r h l e =
    let c = record a { child = b.child; sets = b.sets } in
    let q = r.has_read.room in
    let room : IsFor (length m) c = assumption in
    let has_read = has_read_with m a c r.others r.has_read room refl refl refl in
    rw e (record { others = r.others; has_read = has_read; whole = r.whole; known = r.known; children = r.children })

pub stays_changed : (m : Memory) (a : Auditor) (s : Sets) → IsRead m a → AreSets (length m) s
    → IsRead m (record a { sets = s })
stays_changed m a s r h = stays_marked m a (record a { sets = s }) r r.has_read.room.child h refl

-- and when words are held
pub stays_worded : (m : Memory) (a : Auditor) (w : Words) → IsRead m a → AreFrameWords (length m) w
    → IsRead m (record a { words = w })
stays_worded m a w r h =
    let q = r.has_read.room in
    let room : IsFor (length m) (record a { words = w }) = assumption in
    record {
      others = r.others;
      has_read = has_read_with m a (record a { words = w }) r.others r.has_read room refl refl refl;
      whole = r.whole;
      known = r.known;
      children = r.children;
    }
