-- One page marked: opened or hidden up the chain, and named in the partition's first shadow.
use Rattle.std.proofs.Common.{◌≡◌, ◌≢◌, ℕ, ◌+◌, ◌<◌, ◌==◌, ◌||◌, cond, inl, inr, Bool, true, false, List, [], ◌∷◌, ◌++◌}
use Rattle.std.proofs.Common.{append_assoc, get_or, length, take, refl, sym, ap, ◌∙◌, subst, eq-eqb, ne_eqb, Option}
use Rattle.std.proofs.Common.{Some, None}
use Rattle.pip_model.specs.Answers.{pair_frames}
use Rattle.std.specs.Prelude.{option_map}
use Rattle.std.proofs.lemmas.Bool.{cases_eq}
use Rattle.std.proofs.lemmas.List.{take_more}
use Rattle.std.proofs.lemmas.List.Folds.{list_any-append}
use Rattle.pip_base.specs.declared.types.Pair.{Pair}
use Rattle.pip_base.specs.Memory.{Memory}
use Rattle.pip_model.specs.FullRows.{FullRow, cells_of, full_rows}
use Rattle.pip_model.specs.declared.level.Level.{Level}
use Rattle.pip_model.specs.Lists.{In, has}
use Rattle.pip_model.specs.Midway.{Like, Midway, MidwayOnChain, here, put_rows, put_user, user_at}
use Rattle.pip_model.specs.NodeIn.{NodeIn, OthersStay, Space, put_row}
use Rattle.pip_model.specs.Sound.{IsSound}
use Rattle.pip_model.specs.Tree.{Node, Tree, find_node, held_pages}
use Rattle.pip_model.proofs.Frames.Laid.{filled}
use Rattle.pip_model.proofs.Frames.Lays.{PagesStay-trans, pages_stay, pages_stay_chain}
use Rattle.pip_model.proofs.Trees.Lookup.{cases_option, found_in, found_name}
use Rattle.pip_model.proofs.Frames.Midway.{like_back, like_put, midway_chain, midway_hidden, midway_put, one_like}
use Rattle.pip_model.proofs.Frames.Midway.{user_at_other, user_at_same}
use Rattle.pip_model.proofs.OnLists.Members.{map_append}
use Rattle.pip_model.proofs.Nodes.Writes.{Space-same}
use Rattle.pip_model.proofs.Frames.ReadBack.{full-at}
use Rattle.pip_model.proofs.Trees.RowLookup.{held_row}
use Rattle.pip_space.specs.Nodes.{InEachNode, InEachRow}
use Rattle.pip_space.specs.Rows.{HasRow}
use Rattle.pip_kern.specs.Hiding.{CanSetUser, UserSet}
use Rattle.pip_kern.proofs.UserBits.{can_set_user}
use Rattle.pip_kern.specs.Marking.{CanMark, HasMarked, row_marked, rows_marked}

-- ---- rows said in another way

-- the middle of a call by rows that are the same in each node
pub midway_same : (t : Tree) (m : Memory) (rows more : ℕ → ℕ → Option FullRow) → Midway m t rows
    → ((a : ℕ) (x : Node) (v : ℕ) → find_node t a ≡ Some x → rows a v ≡ more a v) → Midway m t more
midway_same t m rows more k same = record {
  shape = k.shape;
  count = k.count;
  each = λ a x e. Space-same m x (rows a) (more a) (λ v. same a x v e) (k.each a x e);
  like = λ a x v e. rw (← same a x v e) (k.like a x v e);
}

-- ---- before the first page

marked_none_yet : (user : Bool) (word : ℕ → ℕ) (own : Bool) (o : Option FullRow)
    → o ≡ option_map (row_marked user word [] own) o
marked_none_yet user word own None = refl
marked_none_yet user word own (Some r) = refl

-- no page is marked yet
pub marking_start : (t : Tree) (m : Memory) (rows : ℕ → ℕ → Option FullRow) (p : ℕ) (user : Bool) (word : ℕ → ℕ)
    → Midway m t rows → Midway m t (rows_marked rows p user word [])
marking_start t m rows p user word k =
    midway_same t m rows (rows_marked rows p user word []) k (λ a x v e. marked_none_yet user word (p == a) (rows a v))

-- ---- one row

or_false : (b : Bool) → (b || false) ≡ b
or_false true = refl
or_false false = refl

or_true : (b : Bool) → (b || true) ≡ true
or_true true = refl
or_true false = refl

-- one more page is among those marked
has_more : (gs : List ℕ) (g f : ℕ) → has (gs ++ g ∷ []) f ≡ (has gs f || (g == f))
has_more gs g f = rw (list_any-append (λ k. k == f) gs (g ∷ []), or_false (g == f))

module _ (user : Bool) (word : ℕ → ℕ) where
  -- the page of a row stays
  pub marked_frame : (gs : List ℕ) (own : Bool) (r : FullRow) → (row_marked user word gs own r).frame ≡ r.frame
  marked_frame gs own r = go (has gs r.frame)
    where
      go : (on : Bool) → (cond on (record r { user = user; given = cond own (word r.frame) r.given }) r).frame ≡ r.frame
      go true = refl
      go false = refl

  -- the row of another page isn't changed by it
  marked_other : (gs : List ℕ) (g : ℕ) (own : Bool) (r : FullRow) → r.frame ≢ g
      → row_marked user word gs own r ≡ row_marked user word (gs ++ g ∷ []) own r
  marked_other gs g own r ne =
      let same : has gs r.frame ≡ has (gs ++ g ∷ []) r.frame = sym (has_more gs g r.frame
      ∙ (ap (λ b. has gs r.frame || b) (ne_eqb g r.frame (λ e. ne (sym e))) ∙ or_false (has gs r.frame))) in
      rw same

  -- the row of this page is marked
  marked_here : (gs : List ℕ) (g : ℕ) (own : Bool) (r : FullRow) → r.frame ≡ g
      → record r { user = user; given = cond own (word g) r.given } ≡ row_marked user word (gs ++ g ∷ []) own r
  marked_here gs g own r e =
      let on : has (gs ++ g ∷ []) r.frame ≡ true = has_more gs g r.frame
      ∙ (ap (λ b. has gs r.frame || b) (eq-eqb g r.frame (sym e)) ∙ or_true (has gs r.frame)) in
      cc

  -- a row of somebody else, and one of its own
  set_other : (gs : List ℕ) (r : FullRow)
      → record (row_marked user word gs false r) { user = user } ≡ record r { user = user }
  set_other gs r = go (has gs r.frame)
    where
      go : (on : Bool)
          → record (cond on (record r { user = user; given = r.given }) r) { user = user } ≡ record r { user = user }
      go true = refl
      go false = refl

  set_own : (gs : List ℕ) (w : ℕ) (r : FullRow)
      → record (row_marked user word gs true r) { user = user; given = w } ≡ record r { user = user; given = w }
  set_own gs w r = go (has gs r.frame)
    where
      go : (on : Bool) → record (cond on (record r { user = user; given = word r.frame }) r) { user = user; given = w }
          ≡ record r { user = user; given = w }
      go true = refl
      go false = refl

  -- a row that was marked comes of a row
  pub marked_from : (gs : List ℕ) (own : Bool) (o : Option FullRow) (r : FullRow)
      → option_map (row_marked user word gs own) o ≡ Some r
      → (q : FullRow) × (o ≡ Some q) × (r ≡ row_marked user word gs own q)
  marked_from gs own None r e = cc
  marked_from gs own (Some q) r e = let same : r ≡ row_marked user word gs own q = cc in (q, refl, same)

-- ---- the parts of a marked row, seen from outside

pub marked-parts : (user on : Bool) (r : FullRow) (w : ℕ) → cond on (record r { user = user; given = w }) r
    ≡ record r { user = cond on user r.user; given = cond on w r.given }
marked-parts user true r w = refl
marked-parts user false r w = refl

-- its word is another one in the partition's own rows alone
pub marked-word : (own on : Bool) (a w : ℕ) → cond on (cond own a w) w ≡ cond own (cond on a w) w
marked-word true true a w = refl
marked-word true false a w = refl
marked-word false true a w = refl
marked-word false false a w = refl

-- ---- all rows

module _ (t : Tree) (p v g : ℕ) (can : CanMark t p v g) (base : ℕ → ℕ → Option FullRow)
    (user : Bool) (word : ℕ → ℕ) (gs : List ℕ) (m : Memory) (k : Midway m t (rows_marked base p user word gs)) where
  abbrev x : Node
  x = can.taker

  abbrev rows : ℕ → ℕ → Option FullRow
  rows = rows_marked base p user word gs

  own : (p == p) ≡ true
  own = eq-eqb p p refl

  full_row : full_rows t x v ≡ Some (filled t x can.row)
  full_row = full-at t x v (Some can.row) can.at

  -- the taker's row as it is now
  row_now : (r : FullRow) × (rows p v ≡ Some r) × (r.frame ≡ g)
  unfolding full_row
  row_now =
      let z = like_back (rows p v) (filled t x can.row) (rw (← full_row) (k.like p x v can.found)) in
      (z.0, z.1, z.2 ∙ can.page)

  abbrev now : FullRow
  now = row_now.0

  holds_it : In g (held_pages x)
  holds_it = subst (λ f. In f (held_pages x)) can.page (held_row x v can.row can.at)

  -- it can be opened or hidden
  pub can_set : CanSetUser m p v
  can_set = can_set_user m t rows p v x now can.sound k can.found row_now.1

  -- as the code says it
  pub set_said : (n : Memory) → ((rows : ℕ → ℕ → Option FullRow) (z : Node) (r : FullRow) → IsSound t
      → MidwayOnChain m t p rows → find_node t p ≡ Some z → rows p v ≡ Some r → UserSet t rows p r.frame user m n)
      → UserSet t rows p g user m n
  set_said n says = rw (← row_now.2) (says rows x now can.sound (midway_chain m t p rows k) can.found row_now.1)

  -- and anything else that it says
  pub said : (S : Type 0) → ((rows : ℕ → ℕ → Option FullRow) (z : Node) (r : FullRow) → IsSound t
      → MidwayOnChain m t p rows → find_node t p ≡ Some z → rows p v ≡ Some r → S) → S
  said S says = says rows x now can.sound (midway_chain m t p rows k) can.found row_now.1

  set_stays : (o : Option FullRow) → ((r : FullRow) → o ≡ Some r → r.frame ≡ g → r.user ≡ user) → o ≡ user_at g user o
  set_stays None is = refl
  set_stays (Some r) is = elim (cases_eq r.frame g) [
    | inl e ↦ ap (λ b. Some (record r { user = b })) (is r refl e) ∙ sym (user_at_same g user r e)
    | inr ne ↦ sym (user_at_other g user r ne)
  ]

  -- nothing has to be written where each row of the page says so already
  pub set_already : ((a : ℕ) (y : Node) (u : ℕ) (r : FullRow) → find_node t a ≡ Some y → rows a u ≡ Some r → r.frame ≡ g
      → r.user ≡ user) → UserSet t rows p g user m m
  set_already is = record {
    each = λ a y e chain. Space-same m y (rows a) (put_user (rows a) g user)
        (λ u. set_stays (rows a u) (λ r. is a y u r e)) (k.each a y e);
    rest = record { count = refl; words = λ f i off. refl };
  }

  module _ (n : Memory) (set : UserSet t rows p g user m n) where
    abbrev set_rows : ℕ → ℕ → Option FullRow
    set_rows a = put_user (rows a) g user

    midway_set : Midway n t set_rows
    unfolding holds_it
    midway_set = midway_hidden t can.sound m n rows k p g user x can.found holds_it can.unheld
        (set.each p x can.found here).node.shape set.each set.rest

    set_now : set_rows p v ≡ Some (record now { user = user })
    set_now = rw (row_now.1, user_at_same g user now row_now.2)

    -- then it can be named
    pub can_name : HasRow n p v
    unfolding midway_set set_now
    can_name = record {
      node = x;
      rows = set_rows p;
      row = record now { user = user };
      is_in = midway_set.each p x can.found;
      name = found_name t p x can.found;
      at = set_now;
    }

    abbrev named_rows : ℕ → Option FullRow
    named_rows = put_row (set_rows p) v (Some (record now { user = user; given = word g }))

    abbrev after : ℕ → ℕ → Option FullRow
    after = put_rows set_rows p named_rows

    own_row : (u : ℕ) → named_rows u ≡ option_map (row_marked user word (gs ++ g ∷ []) true) (base p u)
    unfolding own
    own_row u = elim (cases_eq u v) [
      | inl e ↦
          let from = marked_from user word gs (p == p) (base p v) now row_now.1 in
          let frame : from.0.frame ≡ g =
          rw (← marked_frame user word gs (p == p) from.0, ← from.2, row_now.2) in
          let same : now ≡ row_marked user word gs true from.0 =
          simp (from.2, own) in
          rw (eq-eqb u v e) (ap (λ (z : FullRow). Some (record z { user = user; given = word g })) same
          ∙ (ap Some (set_own user word gs (word g) from.0 ∙ marked_here user word gs g true from.0 frame)
          ∙ sym (ap (λ z. option_map (row_marked user word (gs ++ g ∷ []) true) (base p z)) e
          ∙ ap (option_map (row_marked user word (gs ++ g ∷ []) true)) from.1)))
      | inr ne ↦ rw (ne_eqb u v ne) (elim (cases_option (base p u)) [
        | inl none ↦ rw (none, ← none)
        | inr r ↦
            let there : rows p u ≡ Some (row_marked user word gs (p == p) r.0) =
            rw r.1 in
            let apart : r.0.frame ≢ g = λ page. ne (one_like t can.sound p x can.found (rows p)
            (λ w. k.like p x w can.found) u v (row_marked user word gs (p == p) r.0) now there row_now.1
            (cc (marked_frame user word gs (p == p) r.0, row_now.2))) in
            ap (λ o. user_at g user (option_map (row_marked user word gs (p == p)) o)) r.1
            ∙ (ap (λ b. user_at g user (Some (row_marked user word gs b r.0))) own
            ∙ (user_at_other g user (row_marked user word gs true r.0)
            (λ e. apart (sym (marked_frame user word gs true r.0) ∙ e))
            ∙ (ap Some (marked_other user word gs g true r.0 apart)
            ∙ sym (ap (option_map (row_marked user word (gs ++ g ∷ []) true)) r.1))))
      ])
    ]

    other_row : (o : Option FullRow) → user_at g user (option_map (row_marked user word gs false) o)
        ≡ option_map (row_marked user word (gs ++ g ∷ []) false) o
    other_row None = refl
    other_row (Some r) = elim (cases_eq r.frame g) [
      | inl e ↦ user_at_same g user (row_marked user word gs false r) (marked_frame user word gs false r ∙ e)
          ∙ ap Some (set_other user word gs r ∙ marked_here user word gs g false r e)
      | inr ne ↦ user_at_other g user (row_marked user word gs false r)
          (λ e. ne (sym (marked_frame user word gs false r) ∙ e)) ∙ ap Some (marked_other user word gs g false r ne)
    ]

    -- the rows of each node are those with one page more marked
    all_rows : (a u : ℕ) → after a u ≡ rows_marked base p user word (gs ++ g ∷ []) a u
    unfolding own own_row other_row
    all_rows a u = elim (cases_eq a p) [
      | inl e ↦
          rw (eq-eqb a p e, own_row u, ← own, ← e)
      | inr ne ↦
          let off : (p == a) ≡ false = ne_eqb p a (λ e. ne (sym e)) in
          rw (ne_eqb a p ne, off, other_row (base a u), ← off)
    ]

    -- both writes make the middle of a call with one page more marked
    pub page_marked : (l : Memory)
        → ((z : Node) (rows : ℕ → Option FullRow) (r : FullRow) → Space n z rows → z.name ≡ p → rows v ≡ Some r
        → Space l z (put_row rows v (Some (record r { given = word g }))))
        → ((z : Node) (cells : Level → ℕ → ℕ) → NodeIn n z cells → z.name ≡ p → OthersStay z n l)
        → HasMarked t base p user word (gs ++ g ∷ []) m l
    unfolding midway_set set_now all_rows
    page_marked l freed others =
        let name = found_name t p x can.found in
        let space = midway_set.each p x can.found in
        let stay = others x (cells_of (set_rows p)) space.node name in
        record {
          midway = midway_same t l after (rows_marked base p user word (gs ++ g ∷ []))
              (midway_put t can.sound n l set_rows midway_set p x named_rows can.found
              (freed x (set_rows p) (record now { user = user }) space name set_now) stay
              (like_put (set_rows p) (full_rows t x) (λ u. midway_set.like p x u can.found) v
              (record now { user = user }) (record now { user = user; given = word g }) set_now refl refl refl))
              (λ a z u e. all_rows a u);
          stay = PagesStay-trans t m n l (pages_stay_chain t can.sound m n p set.rest)
              (pages_stay t can.sound n l x (found_in t p x can.found) stay);
        }

-- ---- pages one after another

-- the frames of one page more
pub frames_more : (ps : List Pair) (i : ℕ) (p : Pair) → i < length ps → p ≡ get_or ps i p
    → pair_frames (take (i + 1) ps) ≡ pair_frames (take i ps) ++ p.frame ∷ []
frames_more ps i p low at =
    rw (take_more ps i p low, map_append (λ q. q.frame) (take i ps) (get_or ps i p ∷ []), ← at)

-- one page more is marked
pub one_more : (t : Tree) (rows : ℕ → ℕ → Option FullRow) (p : ℕ) (user : Bool) (word : ℕ → ℕ) (gs : List ℕ)
    (ps : List Pair) (i : ℕ) (q : Pair) (m n l : Memory) → i < length ps → q ≡ get_or ps i q
    → HasMarked t rows p user word (gs ++ pair_frames (take i ps)) m n
    → HasMarked t rows p user word ((gs ++ pair_frames (take i ps)) ++ q.frame ∷ []) n l
    → HasMarked t rows p user word (gs ++ pair_frames (take (i + 1) ps)) m l
one_more t rows p user word gs ps i q m n l low at old new =
    let list : (gs ++ pair_frames (take i ps)) ++ q.frame ∷ [] ≡ gs ++ pair_frames (take (i + 1) ps) =
    rw (append_assoc gs (pair_frames (take i ps)) (q.frame ∷ []), ← frames_more ps i q low at) in
    record {
      midway = rw (← list) new.midway;
      stay = PagesStay-trans t m n l old.stay new.stay;
    }

-- ---- as the code asks

-- the page of the caller at the vpage is named so in its first shadow, from the first memory to the second
abbrev pub NameSays : Memory → Memory → ℕ → ℕ → ℕ → Type 0
NameSays n l caller v w = InEachRow n caller v (λ z rows r. Space l z (put_row rows v (Some (record r { given = w }))))

-- and frames that aren't the caller's stay
abbrev pub OthersSay : Memory → Memory → ℕ → Type 0
OthersSay n l caller = InEachNode n caller (λ z cells. OthersStay z n l)
