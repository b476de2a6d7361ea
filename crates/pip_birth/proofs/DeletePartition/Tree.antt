-- The tree without a child and all below it: its nodes, its rows, and what lays it out.
use Rattle.std.proofs.Common.{◌≡◌, ◌≢◌, ℕ, ◌==◌, ◌⊎◌, cond, inl, inr, Bool, true, false, not, List, ◌∷◌, map, refl, sym}
use Rattle.std.proofs.Common.{ap, ◌∙◌, subst, eqb-true, eq-eqb, Option, Some, None}
use Rattle.std.specs.Prelude.{flat_map, option_map}
use Rattle.std.proofs.lemmas.Bool.{both_ways, cases_Bool, cases_eq, false_from_ne_true}
use Rattle.pip_base.specs.Memory.{Memory}
use Rattle.pip_model.specs.Accepted.{IsUnheld}
use Rattle.pip_model.specs.Boot.{zero_words}
use Rattle.pip_model.specs.Layout.{LaysOut}
use Rattle.pip_model.specs.FullRows.{FullRow, from_word, full_rows, given_word, vpage_in_parent, place_word}
use Rattle.pip_model.specs.Lists.{In, has}
use Rattle.pip_model.specs.Midway.{Like, Midway, OnChain, find_other, here, tree_rows}
use Rattle.pip_model.specs.Sound.{IsSound}
use Rattle.pip_model.specs.Tree.{Node, Row, Tree, ancestry, below, config, find_node, held_pages, hidden, holder, holds}
use Rattle.pip_model.specs.Tree.{nodes, row_at, row_pages}
use Rattle.pip_model.proofs.Trees.Ancestors.{chain-node, holds_up, not_root, same_name}
use Rattle.pip_model.proofs.Trees.Ancestry.{ancestry_over, own_ancestry}
use Rattle.pip_model.proofs.Trees.Chains.{above_chain}
use Rattle.pip_model.proofs.Trees.Depth.{chain_differs}
use Rattle.pip_model.proofs.Trees.Children.{holder_back, holder_is, holder_none}
use Rattle.pip_model.proofs.Calls.Delete.{left_nodes, left_stays, stays_in, without_subtree-sound}
use Rattle.pip_model.proofs.Trees.Free.{tests_agree, hidden_by, hidden_from, unheld-config}
use Rattle.pip_model.proofs.Frames.Laid.{filled}
use Rattle.pip_model.proofs.Frames.Lays.{lays_rows, words_stay, zero_stays}
use Rattle.pip_model.proofs.Trees.Lookup.{cases_option, found_in, found_name, in_found, in_other, node_is, other_in}
use Rattle.pip_model.proofs.Trees.Lookup.{other_name, parent_found, up_found}
use Rattle.pip_model.proofs.OnLists.Members.{In-append_right, In-filter, In-filter_from, In-flat_from, has_in, in_has}
use Rattle.pip_model.proofs.Frames.ReadBack.{full-at}
use Rattle.pip_model.proofs.Trees.RowLookup.{held_config}
use Rattle.pip_model.proofs.Frames.Shadows.{given_none, given_some}
use Rattle.pip_birth.specs.Ending.{AreHeld, CanEnd, IsEnding, without}
use Rattle.pip_kern.proofs.Marking.{marked-parts}
use Rattle.pip_kern.specs.Taking.{row_taken, rows_taken}

module _ (t : Tree) (y : Node) (can : CanEnd t y) where
  abbrev pub u : Tree
  u = without t y

  s : IsSound t
  s = can.sound

  y_other : In y t.others
  y_other = other_in t y.name y can.found

  y_in : In y (nodes t)
  y_in = inr y_other

  other : y.name ≢ t.root.name
  unfolding s y_other
  other e = not_root t s y y_other (sym e)

  pub ended_sound : IsSound u
  unfolding s other
  ended_sound = without_subtree-sound t y.name s other

  -- ---- the nodes

  -- a node goes where y is among its ancestors
  abbrev pub Goes : Node → Type 0
  Goes x = In y.name (ancestry t x.name)

  pub y_goes : Goes y
  unfolding s y_in
  y_goes = own_ancestry t s y y_in

  pub node_left : (x : Node) → In x (nodes u) → In x (nodes t) × (Goes x → ⊥)
  unfolding s other
  node_left x i = (
    left_nodes t y.name s other x i,
    λ h. both_ways (has (ancestry t x.name) y.name) (left_stays t y.name s other x i)
        (in_has y.name (ancestry t x.name) h),
  )

  stays_off : (x : Node) → (Goes x → ⊥) → has (ancestry t x.name) y.name ≡ false
  stays_off x off = false_from_ne_true _ (λ e. off (has_in y.name (ancestry t x.name) e))

  pub node_stays : (x : Node) → In x (nodes t) → (Goes x → ⊥) → In x (nodes u)
  unfolding s other stays_off
  node_stays x i off = stays_in t y.name s other x i (stays_off x off)

  -- by name
  pub found_left : (a : ℕ) (x : Node) → find_node u a ≡ Some x → find_node t a ≡ Some x
  unfolding s node_left
  found_left a x e =
      subst (λ k. find_node t k ≡ Some x) (found_name u a x e) (in_found t s x (node_left x (found_in u a x e)).0)

  pub found_stays : (a : ℕ) (x : Node) → find_node t a ≡ Some x → (Goes x → ⊥) → find_node u a ≡ Some x
  unfolding ended_sound node_stays
  found_stays a x e off = subst (λ k. find_node u k ≡ Some x) (found_name t a x e)
      (in_found u ended_sound x (node_stays x (found_in t a x e) off))

  pub other_left : (b : ℕ) (x : Node) → find_other u b ≡ Some x → (find_other t b ≡ Some x) × (x.name ≢ y.name)
  unfolding s node_left y_goes
  other_left b x e =
      let i = other_in u b x e in
      let j = (In-filter_from (λ z. not (has (ancestry t z.name) y.name)) x t.others i).0 in (
        rw (← other_name u b x e) (in_other t s x j),
        λ q. (node_left x (inr i)).1 (rw q y_goes),
      )

  pub other_stays : (b : ℕ) (x : Node) → find_other t b ≡ Some x → (Goes x → ⊥) → find_other u b ≡ Some x
  unfolding ended_sound stays_off
  other_stays b x e off =
      let i = other_in t b x e in
      rw (← other_name t b x e) (in_other u ended_sound x
      (In-filter (λ z. not (has (ancestry t z.name) y.name)) x t.others i (ap not (stays_off x off))))

  -- a child of one that stays stays, but for y
  child_stays : (x z : Node) → In z t.others → In x (nodes u) → z.up ≡ x.name → z.name ≢ y.name → Goes z → ⊥
  unfolding s node_left
  child_stays x z i j up ne h = goes (rw (chain-node t s z i) at h)
    where
      goes : In y.name (z.name ∷ ancestry t z.up) → ⊥
      goes (inl e) = ne (sym e)
      goes (inr k) = (node_left x j).1 (rw (← up) k)

  -- ---- its parent

  pub parent : (p : Node) × (find_node t y.up ≡ Some p) × (find_node u y.up ≡ Some p)
  unfolding s y_other found_stays
  parent =
      let (p, e) = parent_found t s y.name y can.found in
      let i = found_in t y.up p e in
      let n : p.name ≡ y.up = found_name t y.up p e in (
        p,
        e,
        found_stays y.up p e (λ h.
            let (z, l, name, o) = ancestry_over t s p i y.name h in
            let chain : OnChain t z.name p.name =
            elim o [ inl q ↦ simp (← q) here | inr a ↦ above_chain t s z p a ] in
            chain_differs t s y.name y.name y can.found
            (rw (← n) (subst (λ w. OnChain t w p.name) name chain)) refl),
      )

  -- ---- the pages that go

  -- a partition that goes holds pages of y alone
  pub goes_held : (x : Node) → In x (nodes t) → Goes x → (g : ℕ) → In g (held_pages x) → In g (held_pages y)
  unfolding s y_in
  goes_held x i h g k =
      let (z, j, n, o) = ancestry_over t s x i y.name h in
      let same : z ≡ y = same_name t z y s j y_in n in
      elim o [
        | inl q ↦ rw (← same, q) k
        | inr a ↦
            rw (← same) (In-append_right g (config z) (row_pages z) (holds_up t g s z x a k))
      ]

  -- its parent has each of them in a row
  pub parent_row : (g : ℕ) → In g (held_pages y) → In g (row_pages parent.0)
  unfolding s y_other parent
  parent_row g h =
      let (p, e, f) = parent in
      (s.lent y p y_other (found_in t y.up p e) (sym (found_name t y.up p e))).rows g h

  -- no other child of the parent has what it held
  pub unheld : (g : ℕ) → In g (held_pages y) → IsUnheld u y.up g
  unfolding s y_other other_left
  unheld g h c i up k =
      let l = (In-filter_from (λ x. not (has (ancestry t x.name) y.name)) c t.others i).0 in
      let ne = (other_left c.name c (in_other u ended_sound c i)).1 in
      s.siblings_apart c y l y_other up ne g k h

  -- so what it held is configuration of no partition that stays
  pub open_then : (g : ℕ) → In g (held_pages y) → (x : Node) → In x (nodes u) → In g (config x) → ⊥
  unfolding ended_sound parent parent_row unheld
  open_then g h x i k =
      let (p, e, f) = parent in
      unheld-config u y.up g ended_sound p (found_in u y.up p f) (found_name u y.up p f) (parent_row g h) (unheld g h) x
      i k

  -- what can be read again is what was configuration of them
  pub gone_held : (g : ℕ) → has (flat_map config (below t y.name)) g ≡ true → In g (held_pages y) × (hidden t g ≡ true)
  unfolding goes_held
  gone_held g e =
      let (x, i, h) = In-flat_from config g (below t y.name) (has_in g (flat_map config (below t y.name)) e) in
      let (j, k) = In-filter_from (λ z. has (ancestry t z.name) y.name) x (nodes t) i in
      (goes_held x j (has_in y.name (ancestry t x.name) k) g (held_config x g h), hidden_by t g x j h)

  hidden_elsewhere : (g : ℕ) → (In g (held_pages y) → ⊥) → hidden u g ≡ hidden t g
  unfolding node_left node_stays goes_held
  hidden_elsewhere g off = tests_agree (hidden u g) (hidden t g)
      (λ q. let (x, i, h) = hidden_from u g q in hidden_by t g x (node_left x i).0 h)
      (λ q. let (x, i, h) = hidden_from t g q in
      hidden_by u g x (node_stays x i (λ k. off (goes_held x i k g (held_config x g h)))) h)

  -- ---- the rows

  -- a page that it held is open
  user_left : (g : ℕ) → cond (holds y g) true (not (hidden t g)) ≡ not (hidden u g)
  unfolding open_then hidden_elsewhere
  user_left g = elim (cases_Bool (holds y g)) [
    | inl on ↦
        ap (λ b. cond b true (not (hidden t g))) on
        ∙ sym (rw (false_from_ne_true _ (λ q. let (x, i, h) = hidden_from u g q in
        open_then g (has_in g (held_pages y) on) x i h)))
    | inr off ↦
        rw (off, ← hidden_elsewhere g (λ h. both_ways (holds y g) off (in_has g (held_pages y) h)))
  ]

  -- and nobody's
  given_left : (q : ℕ) → ((z : Node) → In z t.others → z.up ≡ q → z.name ≢ y.name → Goes z → ⊥) → (g : ℕ)
      → cond (holds y g) (cond (y.up == q) 0 (given_word t q g)) (given_word t q g) ≡ given_word u q g
  unfolding s ended_sound other_left other_stays
  given_left q stay g = elim (cases_option (holder t q g)) [
    | inl none ↦
        cc (
          same_zero (holds y g) (y.up == q) (given_word t q g) (given_none t q g none),
          given_none u q g (elim (cases_option (holder u q g)) [
            | inl n ↦ n
            | inr z ↦ let (f, up, h) = holder_back u ended_sound q g z.0 z.1 in
                absurd (holder_none t q g z.0.name z.0 none (other_left z.0.name z.0 f).0 up h)
          ]),
        )
    | inr z ↦
        let (f, up, h) = holder_back t s q g z.0 z.1 in
        elim (cases_eq z.0.name y.name) [
          | inl e ↦
              let same : z.0 ≡ y = same_other e f in
              cc (
                own_zero (holds y g) (y.up == q) (given_word t q g)
                    (in_has g (held_pages y) (subst (λ k. In g (held_pages k)) same h))
                    (eq-eqb y.up q (sym (ap (λ k. k.up) same) ∙ up)),
                given_none u q g (elim (cases_option (holder u q g)) [
                  | inl n ↦ n
                  | inr w ↦ let (d, down, l) = holder_back u ended_sound q g w.0 w.1 in
                      let (k, ne) = other_left w.0.name w.0 d in let both : Some z.0 ≡ Some w.0 =
                      sym z.1 ∙ holder_is t s q g w.0.name w.0 k down l in let one : z.0 ≡ w.0 = cc in
                      absurd (ne (sym (ap (λ k. k.name) one) ∙ e))
                ]),
              )
          | inr ne ↦
              let off : Goes z.0 → ⊥ = stay z.0 (other_in t z.0.name z.0 f) up ne in
              let here : holder u q g ≡ Some z.0 =
              holder_is u ended_sound q g z.0.name z.0 (other_stays z.0.name z.0 f off) up h in
              not_own z.0 z.1 ne (holds y g) refl (y.up == q) refl
              ∙ (given_some t q g z.0 z.1 ∙ sym (given_some u q g z.0 here))
        ]
  ]
    where
      same_zero : (on own : Bool) (w : ℕ) → w ≡ 0 → cond on (cond own 0 w) w ≡ 0
      same_zero true true w e = refl
      same_zero true false w e = e
      same_zero false own w e = e

      own_zero : (on own : Bool) (w : ℕ) → on ≡ true → own ≡ true → cond on (cond own 0 w) w ≡ 0
      own_zero on own w e d = rw (e, d)

      same_other : {z : Node} → z.name ≡ y.name → find_other t z.name ≡ Some z → z ≡ y
      same_other {z = z} e f =
          same_name t z y can.sound (inr (other_in t z.name z f)) (inr (other_in t y.name y can.found)) e

      not_own : (z : Node) → holder t q g ≡ Some z → z.name ≢ y.name → (on : Bool) → holds y g ≡ on → (own : Bool)
          → (y.up == q) ≡ own → cond on (cond own 0 (given_word t q g)) (given_word t q g) ≡ given_word t q g
      not_own z e ne false h own k = refl
      not_own z e ne true h false k = refl
      not_own z e ne true h true k =
          let both : Some z ≡ Some y =
          cc (holder_is t can.sound q g y.name y can.found (eqb-true y.up q k) (has_in g (held_pages y) h)) in
          let one : z ≡ y = cc in
          absurd (ne (rw one))

  -- a page comes whence it came
  from_left : (x : Node) → In x (nodes u) → (g : ℕ) → from_word t x g ≡ from_word u x g
  unfolding from_word ended_sound found_left
  from_left x i g =
      let (q, up) = up_found u ended_sound x.name x (in_found u ended_sound x i) in
      cc (found_left x.up q up)

  -- the rows when all that it held came back are those of the tree without it
  rows_left : (gs : List ℕ) → AreHeld y gs → (x : Node) → In x (nodes u) → (v : ℕ)
      → rows_taken (tree_rows t) y.up gs x.name v ≡ full_rows u x v
  unfolding s node_left user_left given_left child_stays from_left
  rows_left gs all x i v =
      ap (λ w. option_map (row_taken gs (y.up == x.name)) (full_rows t w v))
      (node_is t x.name x (in_found t s x (node_left x i).0))
      ∙ elim (cases_option (row_at x.rows v)) [
        | inl none ↦
            rw (full-at t x v None none, ← full-at u x v None none)
        | inr q ↦
            rw (full-at t x v (Some q.0) q.1, row_is q.0, ← full-at u x v (Some q.0) q.1)
      ]
    where
      row_is : (q : Row) → row_taken gs (y.up == x.name) (filled t x q) ≡ filled u x q
      row_is q =
          let g = q.frame in
          let w = cond (y.up == x.name) 0 (given_word t x.name g) in
          ap (λ b. cond b (record (filled t x q) { user = true; given = w }) (filled t x q)) (all g)
          ∙ (marked-parts true (holds y g) (filled t x q) w
          ∙ (λ j. record {
            frame = q.frame;
            rights = q.rights;
            user = user_left g j;
            given = given_left x.name (λ z k up ne. child_stays x z k i up ne) g j;
            from = from_left x i g j;
          }))

  -- ---- the middle of the call

  like_left : (x : Node) → In x (nodes u) → (v : ℕ) (o : Option FullRow) → Like o (full_rows t x v)
      → Like o (full_rows u x v)
  unfolding from_left
  like_left x i v o h = elim (cases_option (row_at x.rows v)) [
    | inl none ↦ rw (full-at u x v None none, ← full-at t x v None none) h
    | inr q ↦ rw (full-at u x v (Some q.0) q.1) (like_parts o (filled t x q.0) (filled u x q.0) refl refl
        (from_left x i q.0.frame) (subst (Like o) (full-at t x v (Some q.0) q.1) h))
  ]
    where
      like_parts : (o : Option FullRow) (r q : FullRow) → r.frame ≡ q.frame → r.rights ≡ q.rights → r.from ≡ q.from
          → Like o (Some r) → Like o (Some q)
      like_parts None r q e f g h = h
      like_parts (Some z) r q e f g h = (h.0 ∙ e, h.1 ∙ f, h.2 ∙ g)

  -- what is the middle of a call with them is one without: from there on their frames are nobody's
  pub midway_left : (m : Memory) (rows : ℕ → ℕ → Option FullRow) → Midway m t rows → Midway m u rows
  unfolding found_left like_left
  midway_left m rows k = record {
    shape = k.shape;
    count = k.count;
    each = λ a x e. k.each a x (found_left a x e);
    like = λ a x v e. like_left x (found_in u a x e) v (rows a v) (k.like a x v (found_left a x e));
  }

  -- ---- the end

  words_left : (g : ℕ) (w : ℕ → ℕ) → u.words g ≡ Some w
      → (In g (held_pages y) × (hidden t g ≡ true) × (w ≡ zero_words)) ⊎ (t.words g ≡ Some w)
  unfolding gone_held
  words_left g w e = go (has (flat_map config (below t y.name)) g) refl e
    where
      go : (b : Bool) → has (flat_map config (below t y.name)) g ≡ b → cond b (Some zero_words) (t.words g) ≡ Some w
          → (In g (held_pages y) × (hidden t g ≡ true) × (w ≡ zero_words)) ⊎ (t.words g ≡ Some w)
      go true on q = let (h, k) = gone_held g on in inl (h, k, cc)
      go false off q = inr q

  -- where all that it held came back, and what was configuration of that is zero, the memory lays out the tree without
  -- it
  pub ended_lays : (m n : Memory) (gs : List ℕ) → LaysOut t m → AreHeld y gs → IsEnding t y m gs n → LaysOut u n
  unfolding s ended_sound rows_left words_left
  ended_lays m n gs lays all k =
      lays_rows u ended_sound n k.midway.shape k.midway.count (rows_taken (tree_rows t) y.up gs) k.midway.each
      (λ a x v e. subst (λ b. rows_taken (tree_rows t) y.up gs b v ≡ full_rows u x v) (found_name u a x e)
      (rows_left gs all x (found_in u a x e) v))
      (λ f i w e low. elim (words_left f w e) [
        | inl h ↦ k.zeros f i (has_in f gs (all f ∙ in_has f (held_pages y) h.0)) h.1 low ∙ sym (rw h.2)
        | inr h ↦ words_stay t s m n lays k.stay f i w h low
      ])
      (λ i low. zero_stays t s m n lays k.stay i low)
