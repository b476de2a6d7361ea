-- A child from which a table is taken, and its last list page where it needs it no more: the pages that come back, the
-- rows of the new tree, and what lays it out.
use Rattle.std.proofs.Common.{◌≡◌, ◌≢◌, ℕ, ◌+◌, ◌<◌, ◌≤◌, ◌==◌, cond, inl, inr, Bool, true, false, not, List, [], ◌∷◌}
use Rattle.std.proofs.Common.{◌++◌, map, refl, sym, ap, ◌∙◌, subst, arith, eq-eqb, eqb-true, ne_eqb, Some, None}
use Rattle.pip_model.specs.Accepted.{IsUnheld}
use Rattle.std.specs.Prelude.{flat_map, option_map}
use Rattle.std.proofs.lemmas.Bool.{both_ways, cases_Bool, cases_eq, false_from_ne_true}
use Rattle.pip_base.specs.declared.types.Pair.{Pair}
use Rattle.pip_base.specs.Memory.{Memory, word_at}
use Rattle.pip_model.specs.Collect.{falls, has_row_in, last_pair, words_with_chain}
use Rattle.pip_model.specs.Layout.{LaysOut}
use Rattle.pip_model.specs.FullRows.{from_word, full_rows, given_word}
use Rattle.pip_model.specs.Lists.{Distinct, In, has}
use Rattle.pip_model.specs.Midway.{Like, Midway, tree_rows}
use Rattle.pip_model.specs.NodeIn.{OthersStay, Space}
use Rattle.pip_model.specs.Sound.{IsSound}
use Rattle.pip_model.specs.Tree.{dir, change_at, Node, Row, Table, Tree, base_pairs, config, find_node, hidden}
use Rattle.pip_model.specs.Tree.{held_pages, holder, nodes, on_nodes, pairs, row_at, row_pages, table_at, table_pairs}
use Rattle.pip_model.specs.Tree.{vpage}
use Rattle.pip_model.proofs.Trees.Ancestors.{one_config, same_name}
use Rattle.pip_model.proofs.Trees.Children.{holder_back}
use Rattle.pip_model.proofs.Trees.Chains.{config_apart}
use Rattle.pip_model.proofs.Calls.Collect.{config_taken, list_page, without_table-sound as collect_sound, times_taken}
use Rattle.pip_model.proofs.Trees.ChangeNode.{change-else, change-here, change-keeps}
use Rattle.pip_model.proofs.Trees.Free.{tests_agree, hidden_by, hidden_from}
use Rattle.pip_model.proofs.Frames.Laid.{filled, held_frame, laid_space, laid_words, laid_zero, words_apart, zero_owner}
use Rattle.pip_model.proofs.Frames.Lays.{lays_rows}
use Rattle.pip_model.proofs.Trees.Lookup.{cases_option, changed_back, find_changed, found_in, found_name, in_found}
use Rattle.pip_model.proofs.Trees.Lookup.{node_is, other_in}
use Rattle.pip_model.proofs.OnLists.Members.{Distinct-apart, In-append_cases, In-append_left, In-append_right}
use Rattle.pip_model.proofs.OnLists.Members.{In-filter_from, In-map, In-map_from, count, count-append, count-in}
use Rattle.pip_model.proofs.OnLists.Members.{distinct-count, has_in, in-count, in_has, no_count}
use Rattle.pip_model.proofs.Nodes.Writes.{Space-kept, Space-stays}
use Rattle.pip_model.proofs.Frames.ReadBack.{full-at}
use Rattle.pip_model.proofs.Nodes.Roles.{table_found}
use Rattle.pip_model.proofs.Trees.RowLookup.{held_config, held_row, page_at_row}
use Rattle.pip_model.proofs.Frames.Shadows.{given_none}
use Rattle.pip_model.specs.Collect.{without_table}
use Rattle.pip_space.specs.Tables.{CanRemove, rows_beside}
use Rattle.pip_grow.specs.Links.{ArePagesIn, links}
use Rattle.pip_kern.proofs.Marking.{marked-parts, marked-word}
use Rattle.pip_kern.specs.Taking.{CanTake, HasTaken, row_taken, rows_taken}
use Rattle.pip_grow.proofs.Kept.{from_kept, given_kept}
use Rattle.pip_grow.proofs.CollectTable.Links.{IsMemory-links, length-links, linked_other, links_other, links_words}
use Rattle.pip_grow.proofs.CollectTable.Tests.{none_in}

-- ---- tests of Bool

user_parts : (on hid : Bool) → cond on true (not hid) ≡ not (cond on false hid)
user_parts true hid = refl
user_parts false hid = refl

-- ---- the configuration of a node with a table less

module _ (c : Node) (i : ℕ) (b : Table) (has_b : table_at c.tables i ≡ Some b) (apart : Distinct (held_pages c)) where
  abbrev back : List ℕ
  back = map (λ (q : Pair). q.frame) (table_pairs b ++ list_page c)

  few : (g : ℕ) → count g (config c) + count g (row_pages c) ≤ 1
  few g = let o = distinct-count (held_pages c) apart g in let a = count-append g (config c) (row_pages c) in
      omega (arith, o, a)

  -- it had those that come back
  pub back_old : (g : ℕ) → In g back → In g (config c)
  back_old g h = let k = count-in g back h in let p = times_taken g i c b has_b in
      in-count g (config c) (omega (arith, k, p))

  -- and has them no more
  pub back_gone : (g : ℕ) → In g back → In g (config (without_table i c)) → ⊥
  unfolding few
  back_gone g h k =
      let m = count-in g back h in
      let n = count-in g (config (without_table i c)) k in
      let p = times_taken g i c b has_b in
      let o = few g in
      absurd (omega (arith, m, n, p, o))

  -- the others it keeps
  pub others_kept : (g : ℕ) → (In g back → ⊥) → In g (config c) → In g (config (without_table i c))
  others_kept g off k =
      let m = count-in g (config c) k in
      let p = times_taken g i c b has_b in
      let z = no_count g back off in
      in-count g (config (without_table i c)) (omega (arith, m, p, z))

-- ---- the tree

module _ (t : Tree) (s : IsSound t) (p : ℕ) (x : Node) (found : find_node t p ≡ Some x)
    (c : Node) (child : In c t.others) (up : c.up ≡ p) (i : ℕ) (b : Table) (has_b : table_at c.tables i ≡ Some b)
    (empty : has_row_in c i ≡ false) where
  abbrev pub y : Node
  y = without_table i c

  abbrev pub back_pairs : List Pair
  back_pairs = table_pairs b ++ list_page c

  abbrev pub back_pages : List ℕ
  back_pages = map (λ (q : Pair). q.frame) back_pairs

  abbrev f : Node → Node
  f = change_at c.name (without_table i)

  names : (z : Node) → (f z).name ≡ z.name
  names = change-keeps c.name (without_table i) (λ z. z.name) (λ z. refl)

  ups : (z : Node) → (f z).up ≡ z.up
  ups = change-keeps c.name (without_table i) (λ z. z.up) (λ z. refl)

  borns : (z : Node) → (f z).born ≡ z.born
  borns = change-keeps c.name (without_table i) (λ z. z.born) (λ z. refl)

  rows : (z : Node) → (f z).rows ≡ z.rows
  rows = change-keeps c.name (without_table i) (λ z. z.rows) (λ z. refl)

  abbrev pub u : Tree
  u = record (on_nodes f t) { words = words_with_chain back_pairs t.words }

  pub collect-tree_sound : IsSound u
  collect-tree_sound = collect_sound t c i b s child has_b (table_found c.tables i b has_b).1 empty

  pub child_found : find_node t c.name ≡ Some c
  child_found = in_found t s c (inr child)

  apart : Distinct (held_pages c)
  apart = (s.pages_apart c (inr child)).pages

  -- the child becomes the node with a table less
  child_shrinks : f c ≡ y
  child_shrinks = change-here c.name (without_table i) c refl

  -- and the others stay
  other_stays : (z : Node) → z.name ≢ c.name → f z ≡ z
  other_stays z ne = change-else c.name (without_table i) z ne

  -- a node's configuration was its own before
  config_from : (z : Node) (g : ℕ) → In g (config (f z)) → In g (config z)
  config_from z g h = elim (cases_eq z.name c.name) [
    | inl e ↦ config_taken i z g (subst (λ w. In g (config w)) (change-here c.name (without_table i) z e) h)
    | inr ne ↦ subst (λ w. In g (config w)) (change-else c.name (without_table i) z ne) h
  ]

  held_from : (z : Node) (g : ℕ) → In g (held_pages (f z)) → In g (held_pages z)
  unfolding config_from
  held_from z g h = elim (In-append_cases g (config (f z)) (row_pages (f z)) h) [
    | inl j ↦ In-append_left g (config z) (row_pages z) (config_from z g j)
    | inr j ↦
        In-append_right g (config z) (row_pages z) (subst (λ (qs : List Row). In g (map (λ q. q.frame) qs)) (rows z) j)
  ]

  -- ---- the pages that come back

  back_in : (g : ℕ) → In g back_pages → In g (config c)
  unfolding apart
  back_in g h = back_old c i b has_b apart g h

  -- are nobody's configuration any more
  unowned : (g : ℕ) → In g back_pages → (z : Node) → In z (nodes t) → In g (config (f z)) → ⊥
  unfolding back_in config_from child_shrinks apart
  unowned g h z j on =
      let same : c ≡ z = one_config t g s c z (inr child) j (back_in g h) (config_from z g on) in
      back_gone c i b has_b apart g h (subst (λ w. In g (config w)) (ap f (sym same) ∙ child_shrinks) on)

  -- and no child holds them
  unheld_back : (g : ℕ) → In g back_pages → IsUnheld u p g
  unfolding back_in unowned held_from apart
  unheld_back g h w j w_up on =
      let (z, k, e) = In-map_from f w t.others j in
      let there : In g (held_pages (f z)) = subst (λ q. In g (held_pages q)) e on in
      elim (cases_eq z.name c.name) [
        | inl same ↦
            let is : z ≡ c = same_name t z c s (inr k) (inr child) same in
            elim (In-append_cases g (config (f z)) (row_pages (f z)) there) [
              | inl l ↦ unowned g h z (inr k) l
              | inr l ↦ Distinct-apart g (config c) (row_pages c) apart (back_in g h) (subst (λ q. In g (row_pages q))
                  is (subst (λ (qs : List Row). In g (map (λ q. q.frame) qs)) (rows z) l))
            ]
        | inr ne ↦ s.siblings_apart z c k child (sym (ups z) ∙ (ap (λ q. q.up) (sym e) ∙ (w_up ∙ sym up))) ne g
            (held_from z g there) (held_config c g (back_in g h))
      ]

  back_given : (h : Pair) → In h back_pairs → (r : Row) × (row_at x.rows (vpage h.va) ≡ Some r) × (r.frame ≡ h.frame)
  back_given h j = page_at_row x (vpage h.va) h.frame
      ((s.lent c x child (found_in t p x found) (up ∙ sym (found_name t p x found))).placed h (in_pairs h j))
    where
      last_of : (g : Pair) (gs : List Pair) → In g (last_pair gs) → In g gs
      last_of g [] k = k
      last_of g (d ∷ []) k = k
      last_of g (d ∷ e ∷ gs) k = inr (last_of g (e ∷ gs) k)

      in_page : (g : Pair) (q : Bool) → In g (cond q (last_pair c.more) []) → In g c.more
      in_page g true k = last_of g c.more k
      in_page g false k = absurd k

      in_tables : (g : Pair) (ts : List Table) → In b ts → In g (table_pairs b) → In g (flat_map table_pairs ts)
      in_tables g [] k l = absurd k
      in_tables g (d ∷ ts) (inl e) l =
          In-append_left g (table_pairs d) (flat_map table_pairs ts) (subst (λ z. In g (table_pairs z)) e l)
      in_tables g (d ∷ ts) (inr k) l = In-append_right g (table_pairs d) (flat_map table_pairs ts) (in_tables g ts k l)

      in_pairs : (g : Pair) → In g back_pairs → In g (pairs c)
      in_pairs g k = In-append_right g (base_pairs c.base)
          (flat_map table_pairs c.tables ++ c.more) (elim (In-append_cases g (table_pairs b) (list_page c) k) [
            | inl l ↦ In-append_left g (flat_map table_pairs c.tables) c.more
                (in_tables g c.tables (table_found c.tables i b has_b).0 l)
            | inr l ↦ In-append_right g (flat_map table_pairs c.tables) c.more (in_page g (falls c) l)
          ])

  -- so the parent can take them
  pub can_take : (h : Pair) → In h back_pairs → CanTake u p (vpage h.va) h.frame
  unfolding collect-tree_sound back_given unheld_back
  can_take h j =
      let (r, at, page) = back_given h j in
      record {
        sound = collect-tree_sound;
        taker = f x;
        found = find_changed f t names p ∙ ap (option_map f) found;
        row = r;
        at = ap (λ rs. row_at rs (vpage h.va)) (rows x) ∙ at;
        page = page;
        unheld = unheld_back h.frame (In-map (λ (q : Pair). q.frame) h back_pairs j);
      }

  -- no row is in the table
  pub rows_stay : (v : ℕ) → rows_beside i (full_rows t c) v ≡ full_rows t c v
  unfolding child_found
  rows_stay v = elim (cases_eq (dir v) i) [
    | inl e ↦ ap (λ b. cond b None (full_rows t c v)) (eq-eqb (dir v) i e)
        ∙ sym (none_in t s c.name c child_found i empty v e)
    | inr ne ↦ ap (λ b. cond b None (full_rows t c v)) (ne_eqb (dir v) i ne)
  ]

  -- and the table can be removed
  pub can_remove : CanRemove c (full_rows t c) i
  unfolding child_found
  can_remove = record {
    table = b;
    has = has_b;
    listed = (s.tables c (inr child)).listed;
  }

  -- ---- the rows of the new tree

  -- the partition that hides a page
  hidden_parts : (g : ℕ) → hidden u g ≡ cond (has back_pages g) false (hidden t g)
  unfolding unowned config_from other_stays child_shrinks apart
  hidden_parts g = elim (cases_Bool (has back_pages g)) [
    | inl on ↦
        false_from_ne_true (hidden u g) (λ h.
        let (w, j, k) = hidden_from u g h in
        let (z, l, e) = In-map_from f w (nodes t) j in
        unowned g (has_in g back_pages on) z l (subst (λ q. In g (config q)) e k))
        ∙ sym (ap (λ q. cond q false (hidden t g)) on)
    | inr off ↦
        tests_agree (hidden u g) (hidden t g)
        (λ h.
        let (w, j, k) = hidden_from u g h in
        let (z, l, e) = In-map_from f w (nodes t) j in
        hidden_by t g z l (config_from z g (subst (λ q. In g (config q)) e k)))
        (λ h. let (z, j, k) = hidden_from t g h in hidden_by u g (f z) (In-map f z (nodes t) j) (still z k
        (λ i. both_ways (has back_pages g) off (in_has g back_pages i)) (same_name t z c s j (inr child))))
        ∙ sym (ap (λ q. cond q false (hidden t g)) off)
  ]
    where
      still : (z : Node) → In g (config z) → (In g back_pages → ⊥) → (z.name ≡ c.name → z ≡ c) → In g (config (f z))
      still z k off same = elim (cases_eq z.name c.name) [
        | inl e ↦
            let is : z ≡ c = same e in
            subst (λ q. In g (config q)) (sym (ap f is ∙ child_shrinks)) (others_kept c i b has_b apart g off
            (subst (λ q. In g (config q)) is k))
        | inr ne ↦ subst (λ q. In g (config q)) (sym (other_stays z ne)) k
      ]

  -- a node's configuration is the same but for the pages that come back from the child
  config_same : (z : Node) → In z (nodes t) → (g : ℕ) → (z ≡ c → In g back_pages → ⊥)
      → has (config (f z)) g ≡ has (config z) g
  unfolding config_from child_shrinks other_stays apart
  config_same z j g off = elim (cases_eq z.name c.name) [
    | inl e ↦
        let is : z ≡ c = same_name t z c s j (inr child) e in
        tests_agree (has (config (f z)) g) (has (config z) g)
        (λ on. in_has g (config z) (config_from z g (has_in g (config (f z)) on)))
        (λ on. in_has g (config (f z)) (subst (λ q. In g (config q)) (sym (ap f is ∙ child_shrinks)) (others_kept c i b
        has_b apart g (off is) (subst (λ q. In g (config q)) is (has_in g (config z) on)))))
    | inr ne ↦ ap (λ w. has (config w) g) (other_stays z ne)
  ]

  given_same : (q g : ℕ) → (p ≡ q → In g back_pages → ⊥) → given_word u q g ≡ given_word t q g
  unfolding config_same
  given_same q g off = given_kept f t (words_with_chain back_pairs t.words) names ups rows borns q g (λ z j.
      let (k, z_up) = In-filter_from (λ w. w.up == q) z t.others j in
      config_same z (inr k) g (λ same. off (sym up ∙ (ap (λ w. w.up) (sym same) ∙ eqb-true z.up q z_up))))

  given_none_back : (q g : ℕ) → p ≡ q → In g back_pages → given_word u q g ≡ 0
  unfolding collect-tree_sound unheld_back
  given_none_back q g same j = given_none u q g (elim (cases_option (holder u q g)) [
    | inl none ↦ none
    | inr w ↦
        let (is, w_up, on) = holder_back u collect-tree_sound q g w.0 w.1 in
        absurd (unheld_back g j w.0 (other_in u w.0.name w.0 is) (w_up ∙ sym same) on)
  ])

  -- to whom a page is given
  given_parts : (q g : ℕ)
      → given_word u q g ≡ cond (p == q) (cond (has back_pages g) 0 (given_word t q g)) (given_word t q g)
  unfolding given_same given_none_back
  given_parts q g = elim (cases_eq p q) [
    | inl e ↦ elim (cases_Bool (has back_pages g)) [
      | inl on ↦ given_none_back q g e (has_in g back_pages on)
          ∙ sym (ap (λ z. cond z (cond (has back_pages g) 0 (given_word t q g)) (given_word t q g)) (eq-eqb p q e)
          ∙ ap (λ z. cond z 0 (given_word t q g)) on)
      | inr off ↦ given_same q g (λ k j. both_ways (has back_pages g) off (in_has g back_pages j))
          ∙ sym (ap (λ z. cond z (cond (has back_pages g) 0 (given_word t q g)) (given_word t q g)) (eq-eqb p q e)
          ∙ ap (λ z. cond z 0 (given_word t q g)) off)
    ]
    | inr ne ↦ given_same q g (λ k j. ne k)
        ∙ sym (ap (λ z. cond z (cond (has back_pages g) 0 (given_word t q g)) (given_word t q g)) (ne_eqb p q ne))
  ]

  from_same : (z : Node) (g : ℕ) → from_word t z g ≡ from_word u (f z) g
  from_same z g = sym (from_kept f t (words_with_chain back_pairs t.words) names ups rows z g)

  row_shrunk : (z : Node) (q : Row) → row_taken back_pages (p == z.name) (filled t z q) ≡ filled u (f z) q
  unfolding given_parts hidden_parts from_same
  row_shrunk z q =
      let g = q.frame in
      let user : cond (has back_pages g) true (not (hidden t g)) ≡ not (hidden u g) =
      user_parts (has back_pages g) (hidden t g) ∙ ap not (sym (hidden_parts g)) in
      let given : cond (has back_pages g) (cond (p == z.name) 0 (given_word t z.name g)) (given_word t z.name g)
      ≡ given_word u (f z).name g =
      marked-word (p == z.name) (has back_pages g) 0 (given_word t z.name g)
      ∙ (sym (given_parts z.name g) ∙ ap (λ n. given_word u n g) (sym (names z))) in
      marked-parts true (has back_pages g) (filled t z q) (cond (p == z.name) 0 (given_word t z.name g))
      ∙ (λ j. record { frame = q.frame; rights = q.rights; user = user j; given = given j; from = from_same z g j })

  -- each node has the rows of the new tree
  pub collect-rows : (z : Node) → In z (nodes t) → (v : ℕ)
      → rows_taken (tree_rows t) p back_pages z.name v ≡ full_rows u (f z) v
  unfolding row_shrunk
  collect-rows z j v =
      ap (λ w. option_map (row_taken back_pages (p == z.name)) (full_rows t w v))
      (node_is t z.name z (in_found t s z j))
      ∙ elim (cases_option (row_at z.rows v)) [
        | inl none ↦ ap (option_map (row_taken back_pages (p == z.name))) (full-at t z v None none)
            ∙ sym (full-at u (f z) v None (ap (λ rs. row_at rs v) (rows z) ∙ none))
        | inr q ↦ ap (option_map (row_taken back_pages (p == z.name))) (full-at t z v (Some q.0) q.1)
            ∙ (ap Some (row_shrunk z q.0) ∙ sym (full-at u (f z) v (Some q.0) (ap (λ rs. row_at rs v) (rows z) ∙ q.1)))
      ]

  -- ---- the frames

  module _ (m l : Memory) (lays : LaysOut t m) (space : Space l y (full_rows t c)) (others : OthersStay c m l) where
    -- the rows of each node are still the tree's
    old_space : (z : Node) → In z (nodes t) → Space l (f z) (full_rows t z)
    unfolding child_shrinks other_stays child_found
    old_space z j = elim (cases_eq z.name c.name) [
      | inl e ↦
          let is : z ≡ c = same_name t z c s j (inr child) e in
          subst (λ w. Space l w (full_rows t z))
          (sym (ap f is ∙ child_shrinks)) (subst (λ w. Space l y (full_rows t w)) (sym is) space)
      | inr ne ↦
          subst (λ w. Space l w (full_rows t z)) (sym (other_stays z ne))
          (Space-stays m l z c (full_rows t z) (laid_space t s m lays z.name z (in_found t s z j)) space.node.shape
          others (λ g on mine. config_apart t s z.name c.name g z c (in_found t s z j) child_found ne on mine))
    ]

    old_like : (z : Node) (v : ℕ) → Like (full_rows t z v) (full_rows u (f z) v)
    unfolding from_same
    old_like z v = elim (cases_option (row_at z.rows v)) [
      | inl none ↦ subst (λ o. Like o (full_rows u (f z) v)) (sym (full-at t z v None none))
          (subst (Like None) (sym (full-at u (f z) v None (ap (λ rs. row_at rs v) (rows z) ∙ none))) tt)
      | inr q ↦ subst (λ o. Like o (full_rows u (f z) v)) (sym (full-at t z v (Some q.0) q.1))
          (subst (Like (Some (filled t z q.0))) (sym (full-at u (f z) v (Some q.0)
          (ap (λ rs. row_at rs v) (rows z) ∙ q.1))) (refl, refl, from_same z q.0.frame))
    ]

    -- so it is the middle of a call of the new tree
    pub shrunk_midway : Midway l u (tree_rows t)
    unfolding old_space old_like
    shrunk_midway = record {
      shape = space.node.shape;
      count = others.count ∙ lays.count;
      each = λ a w e.
          let (z, z_is, w_is) = changed_back f t names a w e in
          subst (λ q. Space l q (tree_rows t a)) (sym w_is) (subst (λ q. Space l (f z) (full_rows t q))
          (sym (node_is t a z z_is)) (old_space z (found_in t a z z_is)));
      like = λ a w v e.
          let (z, z_is, w_is) = changed_back f t names a w e in
          subst (λ q. Like (tree_rows t a v) (full_rows u q v)) (sym w_is)
          (subst (λ q. Like (full_rows t q v) (full_rows u (f z) v)) (sym (node_is t a z z_is)) (old_like z v));
    }

    module _ (k : Memory) (taken : HasTaken u (tree_rows t) p back_pages l k) where
      -- the pages are in the memory
      pub back_inside : ArePagesIn k back_pairs
      unfolding back_given
      back_inside h j =
          let (r, at, page) = back_given h j in
          let low = (held_frame t s p h.frame x found
          (subst (λ g. In g (held_pages x)) page (held_row x (vpage h.va) r at))).1 in
          let count = taken.midway.count in
          omega arith

      abbrev n : Memory
      n = links k back_pairs

      linked_space : (a : ℕ) (w : Node) → find_node u a ≡ Some w → Space n w (rows_taken (tree_rows t) p back_pages a)
      unfolding back_inside unowned
      linked_space a w e =
          let (z, z_is, w_is) = changed_back f t names a w e in
          Space-kept k n w (rows_taken (tree_rows t) p back_pages a) (taken.midway.each a w e)
          (IsMemory-links k back_pairs taken.midway.shape back_inside) (length-links k back_pairs)
          (λ g j on low. links_other k back_pairs taken.midway.shape back_inside g j
          (λ h. unowned g h z (found_in t a z z_is) (subst (λ q. In g (config q)) w_is on)))

      linked_rows : (a : ℕ) (w : Node) (v : ℕ) → find_node u a ≡ Some w
          → rows_taken (tree_rows t) p back_pages a v ≡ full_rows u w v
      unfolding collect-rows
      linked_rows a w v e =
          let (z, z_is, w_is) = changed_back f t names a w e in
          ap (λ q. rows_taken (tree_rows t) p back_pages q v) (sym (found_name t a z z_is))
          ∙ (collect-rows z (found_in t a z z_is) v ∙ ap (λ q. full_rows u q v) (sym w_is))

      -- a page that could be read before keeps its words
      old_words : (g j : ℕ) (w : ℕ → ℕ) → t.words g ≡ Some w → j < 1024 → word_at k g j ≡ w j
      unfolding back_in
      old_words g j w e low =
          taken.stay.words g j w
          (linked_other back_pairs t.words g (λ h. words_apart t s g w c e (inr child) (back_in g h)) ∙ e)
          ∙ (others.words g j (λ on. words_apart t s g w c e (inr child) on) ∙ laid_words t s m lays g j w e low)

      -- the new tree is laid out
      pub collect-lays : LaysOut u n
      unfolding collect-tree_sound back_inside linked_space linked_rows old_words back_in
      collect-lays = lays_rows u collect-tree_sound n (IsMemory-links k back_pairs taken.midway.shape back_inside)
          (length-links k back_pairs ∙ taken.midway.count)
          (rows_taken (tree_rows t) p back_pages) linked_space linked_rows
          (λ g j w e low.
          links_words k back_pairs taken.midway.shape back_inside t.words g j (λ q is. old_words g j q is low) w e)
          (λ j low.
          links_other k back_pairs taken.midway.shape back_inside 0 j (λ h. zero_owner t s c (inr child) (back_in 0 h))
          ∙ (taken.stay.frame_zero j ∙ (others.words 0 j (zero_owner t s c (inr child)) ∙ laid_zero t s m lays j low)))
