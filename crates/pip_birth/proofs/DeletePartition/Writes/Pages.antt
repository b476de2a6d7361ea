-- The pages of a child that ends, by the words of its parent's tables.
use Rattle.std.proofs.Common.{◌≡◌, ◌≢◌, ℕ, ◌+◌, ◌*◌, ◌<◌, ◌≤◌, ◌/◌, ◌%◌, ◌^◌, ◌==◌, cond, inl, inr, Bool, true, false}
use Rattle.std.proofs.Common.{not, List, [], ◌∷◌, ◌++◌, refl, sym, ap, ◌∙◌, subst, arith, eq-eqb, length, Option, Some}
use Rattle.std.specs.Prelude.{All, option_map}
use Rattle.std.proofs.lemmas.Bool.{cases_Bool, cases_eq, cases_lt, false_from_ne_true}
use Rattle.pip_base.specs.declared.types.Pair.{Pair}
use Rattle.pip_base.specs.Memory.{Memory, put_word, word_at}
use Rattle.pip_model.specs.FullRows.{FullRow, cells_of, full_rows, given_word, row_word}
use Rattle.pip_model.specs.Lists.{In, has}
use Rattle.pip_model.specs.Midway.{tree_rows}
use Rattle.pip_model.specs.NodeIn.{Space}
use Rattle.pip_model.specs.declared.level.Level.TheVariants.{Mmu, Shadow1}
use Rattle.pip_model.specs.Sound.{IsSound}
use Rattle.pip_model.specs.Tree.{Node, Row, Tree, child_at, find_node, held_pages, hidden, holder, node, row_at, vpage}
use Rattle.pip_model.proofs.Frames.Laid.{born_place, filled, full_back, held_frame, use_bounds}
use Rattle.pip_model.proofs.Frames.ReadBack.{full-at}
use Rattle.pip_model.proofs.Frames.Shadows.{given_none, given_some}
use Rattle.pip_model.proofs.OnLists.Members.{In-append_left, In-append_right, has_in}
use Rattle.pip_model.proofs.Trees.Children.{child_is, holder_back, holder_is}
use Rattle.pip_model.proofs.Trees.Lookup.{cases_option, found_name, node_is}
use Rattle.pip_model.proofs.Trees.RowLookup.{held_row}
use Rattle.pip_space.specs.Levels.{table_frame_at}
use Rattle.pip_space.proofs.Tables.{row_of_page}
use Rattle.pip_kern.specs.Hiding.{UserSet}
use Rattle.pip_kern.specs.Taking.{CanTake, CanTakeEach, HasTaken, row_taken, rows_taken}
use Rattle.pip_kern.proofs.Marking.{marked_frame, marked_from, page_marked, set_already}
use Rattle.pip_birth.specs.Ending.{CanEnd, IsConfiguration, IsEnding, IsEndingAt, without}
use Rattle.pip_birth.specs.Freeing.{IsHiddenLeaf, IsOpenLeaf, NamesBirthplace}
use Rattle.pip_birth.proofs.DeletePartition.Tree.{ended_sound, parent, unheld}
use Rattle.pip_birth.proofs.DeletePartition.Writes.Steps.{ending_taken}
use Rattle.pip_birth.proofs.DeletePartition.Writes.Words.{named_free, others_free}

-- pages that come back are frames
pub pages_below : (t : Tree) (p : ℕ) (ps : List Pair) → CanTakeEach t p ps → (n : Memory) → length n ≡ t.frames
    → All (λ (q : Pair). q.frame < length n) ps
pages_below t p ps each n count k d low =
    let c = each k d low in
    omega (arith, (held_frame t c.sound p c.row.frame c.taker c.found (held_row c.taker _ c.row c.at)).1)

-- a row in the middle of the call whose page was open at first is open
open_marked : (t : Tree) (p : ℕ) (gs : List ℕ) (a u g : ℕ) (r : FullRow) → hidden t g ≡ false
    → rows_taken (tree_rows t) p gs a u ≡ Some r → r.frame ≡ g → r.user ≡ true
open_marked t p gs a u g r shown e page =
    let (q, is, same) = marked_from true (λ f. 0) gs (p == a) (tree_rows t a u) r e in
    let (o, at, full) = full_back t (node t a) u q is in
    let frame : q.frame ≡ g = rw (← marked_frame true (λ f. 0) gs (p == a) q, ← same, page) in
    let before : q.user ≡ true =
    ap (λ z. z.user) full ∙ ap not (ap (hidden t) (cc) ∙ shown) in
    rw (same, stays (has gs q.frame) (p == a) q before)
  where
    stays : (on own : Bool) (q : FullRow) → q.user ≡ true
        → (cond on (record q { user = true; given = cond own 0 q.given }) q).user ≡ true
    stays true own q e = refl
    stays false own q e = e

module _ (t : Tree) (y : Node) (can : CanEnd t y) where
  abbrev u : Tree
  u = without t y

  s : IsSound t
  s = can.sound

  -- ---- its parent's rows

  abbrev x : Node
  x = (parent t y can).0

  pub x_old : find_node t y.up ≡ Some x
  x_old = (parent t y can).1

  pub x_new : find_node u y.up ≡ Some x
  x_new = (parent t y can).2

  pub born_positive : vpage y.born ≢ 0
  unfolding s
  born_positive e = let b = born_place t s y.name y can.found in omega arith

  -- a row of its parent is one of the tree's
  pub row_back : (v : ℕ) (r : FullRow) → tree_rows t y.up v ≡ Some r
      → (q : Row) × (row_at x.rows v ≡ Some q) × (r ≡ filled t x q)
  unfolding x_old
  row_back v r e = full_back t x v r (rw (← node_is t y.up x x_old, e))

  pub row_there : (v : ℕ) (q : Row) → row_at x.rows v ≡ Some q → tree_rows t y.up v ≡ Some (filled t x q)
  unfolding x_old
  row_there v q e = rw (node_is t y.up x x_old, full-at t x v (Some q) e)

  row_given : (v : ℕ) (r : FullRow) → tree_rows t y.up v ≡ Some r → r.given ≡ given_word t y.up r.frame
  unfolding row_back x_old
  row_given v r e =
      let (q, at, is) = row_back v r e in
      cc (found_name t y.up x x_old)

  row_user : (v : ℕ) (r : FullRow) → tree_rows t y.up v ≡ Some r → r.user ≡ not (hidden t r.frame)
  unfolding row_back
  row_user v r e = let (q, at, is) = row_back v r e in
      cc

  -- the first shadow names it exactly for what it holds
  held_named : (g : ℕ) → In g (held_pages y) → NamesBirthplace (vpage y.born) (given_word t y.up g)
  unfolding s
  held_named g h =
      omega (arith, given_some t y.up g y (holder_is t s y.up g y.name y can.found refl h), (use_bounds t s y g).1)

  named_held : (g : ℕ) → NamesBirthplace (vpage y.born) (given_word t y.up g) → In g (held_pages y)
  unfolding s x_old born_positive
  named_held g e = elim (cases_option (holder t y.up g)) [
    | inl none ↦ absurd (born_positive (omega (arith, given_none t y.up g none)))
    | inr z ↦
        let (f, up, h) = holder_back t s y.up g z.0 z.1 in
        let w = given_some t y.up g z.0 z.1 in
        let high = (use_bounds t s z.0 g).1 in
        let even = (born_place t s z.0.name z.0 f).0 in
        let own_even = (born_place t s y.name y can.found).0 in
        let born : z.0.born ≡ y.born = omega arith in
        let both : Some z.0 ≡ Some y = sym (child_is t s y.up z.0.name x z.0 x_old f up)
        ∙ (ap (child_at t y.up) born ∙ child_is t s y.up y.name x y x_old can.found refl) in
        let one : z.0 ≡ y = cc in
        rw (← one) h
  ]

  -- so its parent can take the page back
  pub taking : (v : ℕ) (r : FullRow) → tree_rows t y.up v ≡ Some r → In r.frame (held_pages y)
      → CanTake u y.up v r.frame
  unfolding row_back x_new
  taking v r e h =
      let (q, at, is) = row_back v r e in
      record {
        sound = ended_sound t y can;
        taker = x;
        found = x_new;
        row = q;
        at = at;
        page = cc;
        unheld = unheld t y can r.frame h;
      }

  -- one page more has come back
  pub one_more : (m n l : Memory) (v : ℕ) (r : FullRow) (k : IsEndingAt t y m v n) → tree_rows t y.up v ≡ Some r
      → IsEnding t y m (k.back ++ r.frame ∷ []) l → IsEndingAt t y m (v + 1) l
  one_more m n l v r k e more = record {
    back = k.back ++ r.frame ∷ [];
    ending = more;
    freed = λ w q less at h. elim (cases_eq w v) [
      | inr ne ↦ In-append_left q.frame k.back (r.frame ∷ []) (k.freed w q (omega arith) at h)
      | inl same ↦
          let both : Some q ≡ Some r = rw (← at, same, e) in
          let one : q ≡ r = cc in
          In-append_right q.frame k.back (r.frame ∷ []) (inl (rw one))
    ];
  }

  -- where the parent has no page of it, none has to come back
  pub none_here : (m n : Memory) (v w : ℕ) → v ≤ w → (k : IsEndingAt t y m v n) → ((a : ℕ) (r : FullRow) → v ≤ a → a < w
      → tree_rows t y.up a ≡ Some r → In r.frame (held_pages y) → In r.frame k.back) → IsEndingAt t y m w n
  none_here m n v w up k none = record {
    back = k.back;
    ending = k.ending;
    freed =
        λ a r less at h. elim (cases_lt a v) [ inl low ↦ k.freed a r low at h | inr high ↦ none a r high less at h ];
  }

  module _ (m n : Memory) (v : ℕ) (k : IsEndingAt t y m v n) where
    abbrev rows : ℕ → Option FullRow
    rows = rows_taken (tree_rows t) y.up k.back y.up

    pub space : Space n x rows
    unfolding x_new
    space = k.ending.midway.each y.up x x_new

    own : (y.up == y.up) ≡ true
    own = eq-eqb y.up y.up refl

    pub row_now : (w : ℕ) (r : FullRow) → tree_rows t y.up w ≡ Some r → rows w ≡ Some (row_taken k.back true r)
    unfolding own
    row_now w r e = rw (e, own)

    -- of a page that hasn't come back the row is as it was
    row_same : (r : FullRow) → has k.back r.frame ≡ false → row_taken k.back true r ≡ r
    row_same r e = rw e

    row_back_now : (r : FullRow) → has k.back r.frame ≡ true → (row_taken k.back true r).given ≡ 0
    row_back_now r e = rw e

    module _ (shadow w : ℕ) (small : v < 2 ^ 20) (page : table_frame_at Shadow1 x (v / 1024) ≡ Some shadow)
        (word : word_at n shadow (v % 1024) ≡ w) where
      says : row_word Shadow1 (rows v) ≡ w
      unfolding space
      says = rw (← row_of_page n x rows space Shadow1 v v shadow refl small page) word

      -- a word that doesn't name it
      pub word_kept : (NamesBirthplace (vpage y.born) w → ⊥) → IsEndingAt t y m (v + 1) n
      unfolding says row_now row_same row_given held_named
      word_kept other =
          none_here m n v (v + 1) (omega arith) k (λ a r low high at h. elim (cases_Bool (has k.back r.frame)) [
            | inl on ↦ has_in r.frame k.back on
            | inr off ↦
                let same : a ≡ v = omega arith in
                let here : rows v ≡ Some r =
                rw (row_now v r (ap (tree_rows t y.up) (sym same) ∙ at), row_same r off) in
                absurd (other (rw (← says, here, row_given a r at) (held_named r.frame h)))
          ])

      -- one that does
      module _ (names : NamesBirthplace (vpage y.born) w) where
        named_row : (r : FullRow) × (tree_rows t y.up v ≡ Some r) × (has k.back r.frame ≡ false)
        unfolding says row_now row_back_now born_positive
        named_row = elim (cases_option (tree_rows t y.up v)) [
          | inl none ↦
              let e : 0 ≡ w =
              sym (rw none) ∙ says in
              absurd (born_positive (omega arith))
          | inr r ↦ (
            r.0,
            r.1,
            false_from_ne_true _ (λ on.
                let e : 0 ≡ w = sym (row_back_now r.0 on) ∙ (ap (row_word Shadow1) (sym (row_now v r.0 r.1)) ∙ says) in
                born_positive (omega arith)),
          )
        ]

        abbrev r : FullRow
        r = named_row.0

        here : rows v ≡ Some r
        unfolding row_now row_same
        here = rw (row_now v r named_row.1, row_same r named_row.2)

        held : In r.frame (held_pages y)
        unfolding says here row_given named_held
        held = named_held r.frame (rw (← says, here, row_given v r named_row.1) at names)

        module _ (leaves leaf : ℕ) (leaf_page : table_frame_at Mmu x (v / 1024) ≡ Some leaves)
            (leaf_word : word_at n leaves (v % 1024) ≡ leaf) where
          leaf_is : leaf ≡ row_word Mmu (Some r)
          unfolding space here
          leaf_is =
              rw (← leaf_word, row_of_page n x rows space Mmu v v leaves refl small leaf_page, here)

          user_is : (b : Bool) → hidden t r.frame ≡ b → r.user ≡ not b
          unfolding row_user
          user_is b e = rw (row_user v r named_row.1, e)

          -- of a page that is open: the word becomes 0
          pub word_freed : IsOpenLeaf leaf → (l : Memory) → l ≡ put_word n shadow (v % 1024) 0
              → IsEndingAt t y m (v + 1) l
          unfolding s x_new space leaf_is user_is held taking one_more
          word_freed opens l written =
              let shown : hidden t r.frame ≡ false = false_from_ne_true _ (λ e.
              let user = user_is true e in
              let low = (space.packed v r here).low in
              let word : leaf ≡ r.frame * 4096 + 1 + 0 + 4 * r.rights =
              rw (leaf_is, user) in
              omega arith) in
              let take = taking v r named_row.1 held in
              let is_open : UserSet u (rows_taken (tree_rows t) y.up k.back) y.up r.frame true n n =
              set_already u y.up v r.frame take (tree_rows t) true (λ g. 0) k.back n k.ending.midway
              (λ a z c q found e p. open_marked t y.up k.back a c r.frame q shown e p) in
              let name = found_name u y.up x x_new in
              let taken : HasTaken u (tree_rows t) y.up (k.back ++ r.frame ∷ []) n l =
              page_marked u y.up v r.frame take (tree_rows t) true (λ g. 0) k.back n k.ending.midway n is_open l
              (named_free n l x (cells_of rows) space.node y.up shadow v name small page written)
              (others_free n l x (cells_of rows) space.node y.up shadow v name small page written) in
              one_more m n l v r k named_row.1 (ending_taken t y can m n k.back k.ending l r.frame held shown taken)

          -- of one that is hidden: it is configuration
          pub word_taken : IsHiddenLeaf leaf → IsConfiguration t y leaves v
          unfolding x_new leaf_is user_is held
          word_taken hides = record {
            row = r;
            at = named_row.1;
            held = held;
            hidden = elim (cases_Bool (hidden t r.frame)) [
              | inl on ↦ on
              | inr off ↦
                  let user = user_is false off in
                  let word : leaf ≡ r.frame * 4096 + 1 + 2 + 4 * r.rights =
                  rw (leaf_is, user) in
                  absurd (omega arith)
            ];
            small = small;
            parent = x;
            found = x_new;
            page = leaf_page;
          }
