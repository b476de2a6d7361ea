-- How many pages of configuration a child's end clears: each is another frame.
use Rattle.std.proofs.Common.{◌≡◌, ℕ, suc, ◌+◌, ◌*◌, ◌≤◌, ◌⊎◌, cond, inl, inr, true, List, [], ◌∷◌, refl, sym, ap}
use Rattle.std.proofs.Common.{◌∙◌}
use Rattle.std.proofs.Common.{subst, arith, eq-eqb, length, ne_eqb, Some}
use Rattle.std.specs.Prelude.{flat_map, is_some, map}
use Rattle.std.proofs.lemmas.List.{length-map}
use Rattle.pip_model.proofs.Nodes.Roles.{table_found}
use Rattle.pip_space.proofs.RootWords.{few_tables}
use Rattle.std.proofs.lemmas.Nat.{mul-le}
use Rattle.pip_base.specs.declared.types.Pair.{Pair}
use Rattle.pip_base.specs.Memory.{Memory}
use Rattle.pip_model.specs.declared.level.Level.{Level}
use Rattle.pip_model.specs.NodeIn.{NodeIn}
use Rattle.pip_model.proofs.Frames.Laid.{laid_space}
use Rattle.pip_kern.specs.Taking.{CanTakeEach, TakesPagesIn, rows_taken}
use Rattle.std.proofs.lemmas.Bool.{both_ways, cases_Bool}
use Rattle.std.proofs.lemmas.Map.Steps.{length-le_from_distinct_below}
use Rattle.pip_model.specs.FullRows.{FullRow, cells_of, full_rows}
use Rattle.pip_model.specs.Lists.{Distinct, In, has}
use Rattle.pip_model.specs.Midway.{Midway, OnChain, find_other, here, tree_rows}
use Rattle.pip_model.specs.Sound.{IsRooted}
use Rattle.pip_model.specs.Tree.{Node, Tree, ancestry, base_pairs, below, chain, chain_in, config, held_pages, hidden}
use Rattle.pip_model.specs.Tree.{nodes, row_pages, table_at}
use Rattle.pip_model.proofs.OnLists.Members.{Distinct-left, In-filter, In-flat, In-map, in_has}
use Rattle.pip_model.proofs.Trees.Ancestry.{ancestry_over}
use Rattle.pip_model.proofs.Trees.Chains.{above_chain, chain-trans, chain_parent}
use Rattle.pip_model.proofs.Trees.Depth.{any_member, chain_differs, depth, depth_few, depth_some, depth_up}
use Rattle.pip_model.proofs.Trees.Depth.{distinct_by_test, few_nodes}
use Rattle.pip_model.proofs.Trees.Free.{hidden_from}
use Rattle.pip_model.proofs.Trees.Lookup.{by_parents, cases_option, found_in, node_is, other_found, other_in}
use Rattle.pip_model.proofs.Trees.Lookup.{other_name}
use Rattle.pip_model.proofs.Trees.Lookup.{root_found}
use Rattle.pip_model.proofs.Trees.Numbers.{page_small}
use Rattle.pip_model.proofs.Trees.RowLookup.{one_row}
use Rattle.pip_model.specs.Work.{ending_work}
use Rattle.pip_birth.specs.Ending.{AreClearedPages, AreWalked, CanEnd, CountsWalked, EndsChildIn, IsConfiguration}
use Rattle.pip_birth.specs.Ending.{page_work}
use Rattle.pip_birth.specs.Ending.{without}
use Rattle.pip_birth.proofs.DeletePartition.Tree.{ended_sound, node_stays, open_then, other_stays, parent, y_goes}
use Rattle.pip_birth.proofs.DeletePartition.Writes.Pages.{row_back, x_old}
use Rattle.pip_birth.proofs.DeletePartition.Writes.Steps.{ending_start}
use Rattle.pip_birth.proofs.DeletePartition.Writes.Whole.{base_each, nothing_yet}

-- none at first
pub none_cleared : (t : Tree) (y : Node) → AreClearedPages t y 0 []
none_cleared t y = record { once = tt; held = λ g i. absurd i; place = λ g i. absurd i }

-- further on they are still some
pub cleared_further : (t : Tree) (y : Node) (k q : ℕ) (gs : List ℕ) → k ≤ q → AreClearedPages t y k gs
    → AreClearedPages t y q gs
cleared_further t y k q gs up c = record {
  once = c.once;
  held = c.held;
  place = λ g i. let (v, low, r, at, page) = c.place g i in (v, omega arith, r, at, page);
}

-- the parent has a page at one vpage
one_place : (t : Tree) (y : Node) (can : CanEnd t y) (v w : ℕ) (r q : FullRow) → tree_rows t y.up v ≡ Some r
    → tree_rows t y.up w ≡ Some q → r.frame ≡ q.frame → v ≡ w
one_place t y can v w r q at there same =
    let (a, a_at, a_is) = row_back t y can v r at in
    let (b, b_at, b_is) = row_back t y can w q there in
    (one_row _ (can.sound.pages_apart _ (found_in t y.up _ (x_old t y can))) v w a b a_at b_at
    (cc)).1

-- the next page of configuration is one more
pub one_cleared : (t : Tree) (y : Node) (can : CanEnd t y) (leaves k v : ℕ) (gs : List ℕ) → k ≤ v
    → AreClearedPages t y k gs
    → (c : IsConfiguration t y leaves v) → AreClearedPages t y (v + 1) (c.row.frame ∷ gs)
one_cleared t y can leaves k v gs up h c = record {
  once = (
    λ i. let (w, low, r, at, page) = h.place c.row.frame i in
        let same = one_place t y can w v r c.row at c.at page in
        absurd (omega arith),
    h.once,
  );
  held = λ g i. elim i [
    | inl e ↦ subst (λ z. In z (held_pages y) × (hidden t z ≡ true)) (sym e) (c.held, c.hidden)
    | inr j ↦ h.held g j
  ];
  place = λ g i. elim i [
    | inl e ↦ (v, omega arith, c.row, c.at, sym e)
    | inr j ↦ let (w, low, r, at, page) = h.place g j in (w, omega (arith, low, up), r, at, page)
  ];
}

-- ---- how many there are

-- without one member
remove : (x : ℕ) (ys : List ℕ) → In x ys
    → (zs : List ℕ) × (length ys ≡ suc (length zs)) × ((g : ℕ) → In g ys → (g ≡ x) ⊎ In g zs)
remove x [] i = absurd i
remove x (y ∷ ys) (inl e) = (ys, refl, λ g i. elim i [ inl f ↦ inl (cc) | inr j ↦ inr j ])
remove x (y ∷ ys) (inr i) =
    let (zs, l, f) = remove x ys i in (
      y ∷ zs,
      rw l,
      λ g j. elim j [
        | inl e ↦ inr (inl e)
        | inr k ↦ elim (f g k) [ inl e ↦ inl e | inr m ↦ inr (inr m) ]
      ],
    )

fewer : (xs ys : List ℕ) → Distinct xs → ((g : ℕ) → In g xs → In g ys) → length xs ≤ length ys
fewer [] ys d into = omega arith
fewer (x ∷ xs) ys d into =
    let (zs, l, f) = remove x ys (into x (inl refl)) in
    omega (
      arith,
      fewer xs zs d.1 (λ g i. elim (f g (into g (inr i)))
          [ inl e ↦ absurd (d.0 (subst (λ z. In z xs) e i)) | inr m ↦ m ]),
    )

module _ (t : Tree) (y : Node) (can : CanEnd t y) where
  -- what y holds and a node hides is configuration of what ends
  ended_config : (g : ℕ) → In g (held_pages y) → hidden t g ≡ true → In g (flat_map config (below t y.name))
  ended_config g held hides =
      let (x, i, h) = hidden_from t g hides in
      elim (cases_Bool (has (ancestry t x.name) y.name)) [
        | inl on ↦ In-flat config g x (below t y.name)
            (In-filter (λ z. has (ancestry t z.name) y.name) x (nodes t) i on) h
        | inr off ↦ absurd (open_then t y can g held x
            (node_stays t y can x i (λ k. both_ways _ off (in_has y.name (ancestry t x.name) k))) h)
      ]

  -- so there are no more of them
  pub few_cleared : (k : ℕ) (gs : List ℕ) → AreClearedPages t y k gs
      → length gs ≤ length (flat_map config (below t y.name))
  unfolding ended_config
  few_cleared k gs c = fewer gs (flat_map config (below t y.name)) c.once
      (λ g i. ended_config g (c.held g i).0 (c.held g i).1)

  -- nor than frames
  pub few_frames : (k : ℕ) (gs : List ℕ) → AreClearedPages t y k gs → length gs ≤ t.frames
  few_frames k gs c = length-le_from_distinct_below gs t.frames (distinct_by_test gs c.once)
      (λ g h. page_small t g can.sound y (inr (other_in t y.name y can.found)) (c.held g (any_member g gs h)).0)

  -- ---- the chain of the parent

  -- y isn't above its parent
  not_over : (b : ℕ) (z : Node) → find_other t b ≡ Some z → OnChain t b y.up → In y.name (ancestry t z.name) → ⊥
  not_over b z e on h =
      let (q, l, name, o) = ancestry_over t can.sound z (inr (other_in t b z e)) y.name h in
      let over : OnChain t q.name z.name =
      elim o [
        | inl same ↦ simp (← same) here
        | inr a ↦ above_chain t can.sound q z a
      ] in
      let top : OnChain t y.name b =
      rw (← other_name t b z e) (subst (λ w. OnChain t w z.name) name over) in
      chain_differs t can.sound y.name y.name y can.found (chain-trans t y.name b y.up top on) refl

  root_chain_in : (root : Node) (xs : List Node) → IsRooted root xs → chain_in root xs root.name ≡ root ∷ []
  root_chain_in root [] r = rw (eq-eqb root.name root.name refl)
  root_chain_in root (x ∷ xs) r = rw (ne_eqb x.name root.name (λ e. r.0 (inl e)), root_chain_in root xs r.2)

  root_depth : depth (without t y) t.root.name ≤ depth t t.root.name
  unfolding depth root_chain_in
  root_depth =
      let one = ap length (root_chain_in t.root _ (ended_sound t y can).parents_come_first) in
      let some = depth_some t can.sound t.root.name t.root (root_found t) in
      omega (arith, one, some)

  -- it is no longer without y
  pub chain_kept : length (chain (without t y) y.up) ≤ length (chain t y.up)
  unfolding depth root_depth not_over
  chain_kept =
      let (p, e, f) = parent t y can in
      by_parents t can.sound (λ b. OnChain t b y.up → depth (without t y) b ≤ depth t b) (λ on. root_depth)
      (λ b z o below on.
      let more = below (chain-trans t z.up b y.up (chain_parent t b z o) on) in
      let old = depth_up t can.sound b z o in
      let new = depth_up (without t y) (ended_sound t y can) b z
      (other_stays t y can b z o (not_over b z o on)) in
      omega (arith, more, old, new)) y.up p e here

  -- what y holds as configuration is five pages at least
  pub five_pages : 5 ≤ length (flat_map config (below t y.name))
  five_pages =
      let i = inr (other_in t y.name y can.found) in
      let j = In-filter (λ z. has (ancestry t z.name) y.name) y (nodes t) i
      (in_has y.name (ancestry t y.name) (y_goes t y can)) in
      let own : 5 ≤ length (config y) = omega arith in
      omega (
        arith,
        fewer (config y) (flat_map config (below t y.name))
            (Distinct-left (config y) (row_pages y) (can.sound.pages_apart y i).pages)
            (λ g h. In-flat config g y (below t y.name) j h),
      )

  -- nor is it longer than there are frames
  pub chain_short : length (chain (without t y) y.up) ≤ t.frames
  unfolding depth
  chain_short =
      omega (arith, depth_few (without t y) y.up, few_nodes (without t y) (ended_sound t y can))

-- ---- the walk over the caller's tables

pub none_walked : (x : Node) → AreWalked x 0 []
none_walked x = record { once = tt; small = λ i j. absurd j; tabled = λ i j. absurd j }

-- the next table is one more
pub one_walked : (x : Node) (from i : ℕ) (ws : List ℕ) → from ≤ i → is_some (table_at x.tables i) ≡ true
    → AreWalked x from ws → AreWalked x (i + 1) (i ∷ ws)
one_walked x from i ws up on w = record {
  once = (λ j. absurd (omega (arith, w.small i j, up)), w.once);
  small = λ k j. elim j [ inl e ↦ omega (arith, e) | inr h ↦ let low = w.small k h in omega (arith, low, up) ];
  tabled = λ k j. elim j [
    | inl e ↦ subst (λ z. is_some (table_at x.tables z) ≡ true) (sym e) on
    | inr h ↦ w.tabled k h
  ];
}

pub walked_further : (x : Node) (from to : ℕ) (ws : List ℕ) → from ≤ to → AreWalked x from ws → AreWalked x to ws
walked_further x from to ws up w =
    record { once = w.once; small = λ k j. omega (arith, w.small k j); tabled = w.tabled }

-- there are no more of them than tables
few_walked : (x : Node) (k : ℕ) (ws : List ℕ) → AreWalked x k ws → length ws ≤ length x.tables
few_walked x k ws w =
    rw (← length-map x.tables (λ b. b.index)) (fewer ws (map (λ b. b.index) x.tables) w.once
    (λ i j. elim (cases_option (table_at x.tables i)) [
      | inl none ↦ absurd (both_ways (is_some (table_at x.tables i)) (ap is_some none) (w.tabled i j))
      | inr q ↦
          let (b, e) = q in let (h, index) = table_found x.tables i b e in
          subst (λ z. In z (map (λ b. b.index) x.tables)) index (In-map (λ b. b.index) b x.tables h)
    ]))

-- ---- as the code asks

pub ends_in_pages : (m : Memory) (parent_name child born before after : ℕ)
    → CountsWalked parent_name born 1024 m (before + 35) after
    → EndsChildIn parent_name child born m before after
ends_in_pages m parent_name child born before after says t y can lays name up place =
    let (x, found, left) = parent t y can in
    let (ws, hs, walked, there, so) = says t y m x can found up place (nothing_yet t y can m lays) in
    let tables = few_walked x 1024 ws walked in
    let own = ap (λ (z : Node). length z.tables) (node_is t y.up x found) in
    let thousand = few_tables m x _ (laid_space t can.sound m lays y.up x found).node in
    let few = few_cleared t y can (1024 * 1024) hs there in
    let kept = chain_kept t y can in
    let all = mul-le (page_work t y) (length hs) (7 * length (chain t y.up) + 67)
    (length (flat_map config (below t y.name))) (omega arith) few in
    let most : after ≤ before + ending_work t y.up y.name = omega arith in
    let frames = few_frames t y can (1024 * 1024) hs there in
    let short = chain_short t y can in
    let rough = mul-le (page_work t y) (length hs) (7 * t.frames + 67) t.frames (omega arith) frames in (
      subst (λ p. after ≤ before + ending_work t p child) up
          (subst (λ p. after ≤ before + ending_work t y.up p) name most),
      omega arith,
    )

pub ends_in_base : (m : Memory) (parent_name child born before read after : ℕ) (ps : List Pair)
    → ((z : Node) (cells : Level → ℕ → ℕ) → NodeIn m z cells → z.name ≡ child → ps ≡ base_pairs z.base)
    → read ≤ before + 11 → TakesPagesIn parent_name ps (length ps) m read after
    → EndsChildIn parent_name child born m before after
ends_in_base m parent_name child born before read after ps says tests takes t y can lays name up place =
    let node = (laid_space t can.sound m lays y.name y (other_found t can.sound y.name y can.found)).node in
    let pages : ps ≡ base_pairs y.base = says y (cells_of (full_rows t y)) node name in
    let five : length ps ≡ 5 = rw pages in
    let took = subst (λ n. after ≤ read + n * (7 * length (chain (without t y) parent_name) + 2)) five
    (takes (without t y) (tree_rows t) [] (rw (← up)
    (subst (CanTakeEach (without t y) y.up) (sym pages) (base_each t y can m lays)))
    (subst (λ p. Midway m (without t y) (rows_taken (tree_rows t) p [])) up (ending_start t y can m lays).midway)) in
    let kept = subst (λ p. length (chain (without t y) p) ≤ length (chain t p)) up (chain_kept t y can) in
    let many = subst (λ p. 5 ≤ length (flat_map config (below t p))) name (five_pages t y can) in
    let all = mul-le 5 (7 * length (chain t parent_name) + 67) (length (flat_map config (below t child)))
    (7 * length (chain t parent_name) + 67) many (omega arith) in
    let short = subst (λ p. length (chain (without t y) p) ≤ t.frames) up (chain_short t y can) in
    let some = can.sound.boot_root.small in
    let rough = mul-le 5 (7 * t.frames + 67) t.frames (7 * t.frames + 67) (omega arith) (omega arith) in
    (omega arith, omega arith)
