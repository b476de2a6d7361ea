-- A child that is given a table, and a further list page where it needs one: the pages, the rows of the new tree, and
-- what lays it out.
use Rattle.std.proofs.Common.{◌≡◌, ◌≢◌, ℕ, ◌<◌, ◌==◌, ◌||◌, ◌⊎◌, cond, inl, inr, Bool, true, false, not, List, [], ◌∷◌}
use Rattle.std.proofs.Common.{◌++◌, length, map, refl, sym, ap, ◌∙◌, subst, arith, eq-eqb, eqb-true, ne_eqb, Some, None}
use Rattle.pip_model.specs.Accepted.{IsUnheld, MayPrepare}
use Rattle.std.specs.Prelude.{flat_map, option_map}
use Rattle.std.proofs.lemmas.Bool.{both_ways, cases_Bool, cases_eq}
use Rattle.pip_base.specs.declared.types.Pair.{Pair}
use Rattle.pip_base.specs.Memory.{Memory, word_at}
use Rattle.pip_base.specs.Words.{as_configuration, as_descriptor, shadow1_word}
use Rattle.pip_model.specs.Answers.{page_of, words_without}
use Rattle.pip_model.specs.Layout.{LaysOut}
use Rattle.pip_model.specs.FullRows.{from_word, full_rows, given_word, use_of}
use Rattle.pip_model.specs.Lists.{In, has}
use Rattle.pip_model.specs.Midway.{Midway, PagesStay}
use Rattle.pip_model.specs.NodeIn.{OthersStay, Space}
use Rattle.pip_model.specs.Sound.{IsSound}
use Rattle.pip_model.specs.Tree.{change_at, Node, Row, Table, Tree, base_pairs, children, config, find_node, hidden}
use Rattle.pip_model.specs.Tree.{nodes, on_nodes, page_at, pairs, row_at, row_pages, table_pairs, vpage}
use Rattle.pip_model.proofs.Trees.Ancestors.{name-config, same_name}
use Rattle.pip_model.proofs.Trees.Chains.{config_apart}
use Rattle.pip_model.proofs.Trees.Free.{IsName, tests_agree, unheld-config}
use Rattle.pip_model.proofs.Frames.Laid.{filled, held_frame, words_apart, zero_owner}
use Rattle.pip_model.proofs.Frames.Lays.{lays_sound, words_stay, zero_stays}
use Rattle.pip_model.proofs.Trees.Lookup.{cases_option, changed_back, found_in, found_is_name, found_name, in_found}
use Rattle.pip_model.proofs.Trees.Lookup.{in_other, node_is}
use Rattle.pip_model.proofs.OnLists.Members.{In-append_cases, In-append_left, In-append_right, In-filter_from, In-map}
use Rattle.pip_model.proofs.OnLists.Members.{In-map_from, flat_append, has_in, in_has}
use Rattle.pip_model.proofs.Nodes.Writes.{Space-same, Space-stays}
use Rattle.pip_model.proofs.Trees.ChangeNode.{change-else, change-here, change-keeps}
use Rattle.pip_model.proofs.Calls.Prepare.{hidden_now, pairs_with, with_table-sound as prepare_sound}
use Rattle.pip_model.proofs.Frames.ReadBack.{full-at}
use Rattle.pip_model.proofs.Trees.RowLookup.{held_config, held_row, page_at_row, row_page}
use Rattle.pip_model.proofs.Frames.Shadows.{given_some}
use Rattle.pip_model.proofs.Trees.Children.{holder_is}
use Rattle.pip_model.specs.Prepare.{with_table}
use Rattle.pip_space.specs.Tables.{CanInstall}
use Rattle.pip_kern.proofs.Calls.{some_kept}
use Rattle.pip_kern.proofs.Marking.{marked-parts, marked-word}
use Rattle.pip_kern.specs.Giving.{CanGive, row_given, rows_given}
use Rattle.pip_grow.proofs.Kept.{from_kept, given_kept}

-- ---- tests of Bool

user_parts : (on hid : Bool) → cond on false (not hid) ≡ not (hid || on)
user_parts true true = refl
user_parts true false = refl
user_parts false true = refl
user_parts false false = refl

-- ---- the configuration of a node with a table more

module _ (c : Node) (b : Table) (rest : List Pair) where
  all_pairs : flat_map table_pairs (c.tables ++ b ∷ []) ≡ flat_map table_pairs c.tables ++ table_pairs b
  all_pairs = flat_append table_pairs c.tables (b ∷ [])

  -- it has the pages that it had
  pub config_old : (g : ℕ) → In g (config c) → In g (config (with_table b rest c))
  unfolding all_pairs
  config_old g i =
      let (h, j, e) = In-map_from (λ (q : Pair). q.frame) g (pairs c) i in
      subst (λ k. In k (config (with_table b rest c))) (sym e)
      (In-map (λ (q : Pair). q.frame) h (pairs (with_table b rest c)) (pair_old h j))
    where
      pair_old : (h : Pair) → In h (pairs c) → In h (pairs (with_table b rest c))
      pair_old h j = elim (In-append_cases h (base_pairs c.base) (flat_map table_pairs c.tables ++ c.more) j) [
        | inl k ↦ In-append_left h (base_pairs c.base) (flat_map table_pairs (c.tables ++ b ∷ []) ++ (c.more ++ rest)) k
        | inr k ↦ In-append_right h (base_pairs c.base) (flat_map table_pairs (c.tables ++ b ∷ [])
            ++ (c.more ++ rest)) (elim (In-append_cases h (flat_map table_pairs c.tables) c.more k) [
              | inl l ↦ In-append_left h (flat_map table_pairs (c.tables ++ b ∷ [])) (c.more ++ rest) (subst (In h)
                  (sym all_pairs) (In-append_left h (flat_map table_pairs c.tables) (table_pairs b) l))
              | inr l ↦ In-append_right h
                  (flat_map table_pairs (c.tables ++ b ∷ [])) (c.more ++ rest) (In-append_left h c.more rest l)
            ])
      ]

  -- and the new ones
  pub config_new : (g : ℕ) → In g (map (λ (q : Pair). q.frame) (table_pairs b ++ rest))
      → In g (config (with_table b rest c))
  unfolding all_pairs
  config_new g i =
      let (h, j, e) = In-map_from (λ (q : Pair). q.frame) g (table_pairs b ++ rest) i in
      subst (λ k. In k (config (with_table b rest c))) (sym e)
      (In-map (λ (q : Pair). q.frame) h (pairs (with_table b rest c)) (pair_new h j))
    where
      pair_new : (h : Pair) → In h (table_pairs b ++ rest) → In h (pairs (with_table b rest c))
      pair_new h j = In-append_right h (base_pairs c.base) (flat_map table_pairs (c.tables ++ b ∷ [])
          ++ (c.more ++ rest)) (elim (In-append_cases h (table_pairs b) rest j) [
            | inl l ↦ In-append_left h (flat_map table_pairs (c.tables ++ b ∷ [])) (c.more ++ rest) (subst (In h)
                (sym all_pairs) (In-append_right h (flat_map table_pairs c.tables) (table_pairs b) l))
            | inr l ↦ In-append_right h
                (flat_map table_pairs (c.tables ++ b ∷ [])) (c.more ++ rest) (In-append_right h c.more rest l)
          ])

  -- and no others
  pub config_back : (g : ℕ) → In g (config (with_table b rest c))
      → In g (config c) ⊎ In g (map (λ (q : Pair). q.frame) (table_pairs b ++ rest))
  config_back g i =
      let (h, j, e) = In-map_from (λ (q : Pair). q.frame) g (pairs (with_table b rest c)) i in
      elim (pairs_with h c b rest j) [
        | inl k ↦ inl (subst (λ q. In q (config c)) (sym e) (In-map (λ (q : Pair). q.frame) h (pairs c) k))
        | inr k ↦ inr (subst (λ q. In q (map (λ (z : Pair). z.frame) (table_pairs b ++ rest))) (sym e)
            (In-map (λ (q : Pair). q.frame) h (table_pairs b ++ rest) k))
      ]

-- ---- the tree

module _ (t : Tree) (s : IsSound t) (p : ℕ) (x : Node) (found : find_node t p ≡ Some x)
    (c : Node) (b : Table) (rest : List Pair) (may : MayPrepare t p c b rest) where
  abbrev pub y : Node
  y = with_table b rest c

  abbrev pub new : List ℕ
  new = map (λ (q : Pair). q.frame) (table_pairs b ++ rest)

  abbrev f : Node → Node
  f = change_at c.name (with_table b rest)

  names : (z : Node) → (f z).name ≡ z.name
  names = change-keeps c.name (with_table b rest) (λ z. z.name) (λ z. refl)

  ups : (z : Node) → (f z).up ≡ z.up
  ups = change-keeps c.name (with_table b rest) (λ z. z.up) (λ z. refl)

  borns : (z : Node) → (f z).born ≡ z.born
  borns = change-keeps c.name (with_table b rest) (λ z. z.born) (λ z. refl)

  rows : (z : Node) → (f z).rows ≡ z.rows
  rows = change-keeps c.name (with_table b rest) (λ z. z.rows) (λ z. refl)

  abbrev pub u : Tree
  u = record (on_nodes f t) { words = words_without new t.words }

  named : IsName t p
  named = found_is_name t p x found

  pub prepare-tree_sound : IsSound u
  unfolding named
  prepare-tree_sound = prepare_sound t p c b rest s named may

  pub child_found : find_node t c.name ≡ Some c
  child_found = in_found t s c (inr may.child)

  -- the child becomes the node with a table more
  child_grows : f c ≡ y
  child_grows = change-here c.name (with_table b rest) c refl

  -- and the others stay
  other_stays : (z : Node) → z.name ≢ c.name → f z ≡ z
  other_stays z ne = change-else c.name (with_table b rest) z ne

  grown_in : In y u.others
  unfolding child_grows
  grown_in = subst (λ z. In z u.others) child_grows (In-map f c t.others may.child)

  -- ---- the pages

  -- the giver has each of them in a row, and no child of it holds it
  row_of : (h : Pair) → In h (table_pairs b ++ rest)
      → (r : Row) × (row_at x.rows (vpage h.va) ≡ Some r) × (r.frame ≡ h.frame)
  row_of h i =
      let (same, usable) = may.each h i in
      let (r, at, page) = page_at_row x (vpage h.va) (page_of t p h.va)
      (subst (λ z. page_at z (vpage h.va) ≡ Some (page_of t p h.va)) (node_is t p x found) usable.placed) in
      (r, at, page ∙ sym (ap (λ (q : Pair). q.frame) same))

  unheld : (h : Pair) → In h (table_pairs b ++ rest) → IsUnheld t p h.frame
  unheld h i = let (same, usable) = may.each h i in
      subst (IsUnheld t p) (sym (ap (λ (q : Pair). q.frame) same)) usable.unheld

  -- so it is configuration of nobody yet
  further : (g : ℕ) → In g new → (z : Node) → In z (nodes t) → In g (config z) → ⊥
  unfolding row_of unheld
  further g i z j on =
      let (h, k, e) = In-map_from (λ (q : Pair). q.frame) g (table_pairs b ++ rest) i in
      let (r, at, page) = row_of h k in
      let in_row : In g (row_pages x) = subst (λ q. In q (row_pages x)) (page ∙ sym e) (row_page x (vpage h.va) r at) in
      unheld-config t p g s x (found_in t p x found) (found_name t p x found) in_row
      (subst (IsUnheld t p) (sym e) (unheld h k)) z j on

  page_low : (h : Pair) → In h (table_pairs b ++ rest) → h.frame < t.frames
  unfolding row_of
  page_low h i =
      let (r, at, page) = row_of h i in
      subst (λ g. g < t.frames) page (held_frame t s p r.frame x found (held_row x (vpage h.va) r at)).1

  -- the child uses it as configuration
  used : (g : ℕ) → In g new → use_of y g ≡ as_configuration
  unfolding further
  used g i =
      let ne : y.name ≢ g =
      λ e. further g i c (inr may.child) (subst (λ k. In k (config c)) e (name-config t s c (inr may.child))) in
      ap (λ q. cond q as_descriptor (cond (has (config y) g) as_configuration 3)) (ne_eqb y.name g ne)
      ∙ ap (λ q. cond q as_configuration 3) (in_has g (config y) (config_new c b rest g i))

  -- so it can be given
  pub can_give : (born : ℕ) → born ≡ vpage c.born → (h : Pair) → In h (table_pairs b ++ rest)
      → CanGive t y (vpage h.va) (shadow1_word as_configuration born) h.frame
  unfolding row_of unheld used
  can_give born is h i =
      let (r, at, page) = row_of h i in
      let as_used : as_configuration ≡ use_of y h.frame =
      sym (used h.frame (In-map (λ (q : Pair). q.frame) h (table_pairs b ++ rest) i)) in
      record {
        sound = s;
        giver = x;
        found = ap (find_node t) may.up ∙ found;
        row = r;
        at = at;
        page = page;
        unheld = subst (λ q. IsUnheld t q h.frame) (sym may.up) (unheld h i);
        word = ap (shadow1_word as_configuration) is ∙ ap (λ k. shadow1_word k (vpage c.born)) as_used;
      }

  -- and the table can be installed
  pub can_install : (m : Memory) → length m ≡ t.frames → CanInstall m c b rest
  unfolding page_low further
  can_install m count = record {
    new = may.new;
    inside = λ g i. let low = page_low g i in omega arith;
    further = λ g i on. further g i c (inr may.child) on;
    differ = may.pages;
    listed = (s.tables c (inr may.child)).listed;
    given = may.listed;
  }

  -- ---- the rows of the new tree

  new_same : (g : ℕ) → (In g new → ⊥) → has (config y) g ≡ has (config c) g
  new_same g off = tests_agree (has (config y) g) (has (config c) g)
      (λ on. elim (config_back c b rest g (has_in g (config y) on))
      [ inl i ↦ in_has g (config c) i | inr i ↦ absurd (off i) ])
      (λ on. in_has g (config y) (config_old c b rest g (has_in g (config c) on)))

  -- a node's configuration is the same but for the new pages in the child's
  config_same : (z : Node) → In z (nodes t) → (g : ℕ) → (z ≡ c → In g new → ⊥) → has (config (f z)) g ≡ has (config z) g
  unfolding new_same child_grows other_stays
  config_same z i g off = elim (cases_eq z.name c.name) [
    | inl e ↦
        let same : z ≡ c = same_name t z c s i (inr may.child) e in
        ap (λ w. has (config (f w)) g) same
        ∙ (ap (λ w. has (config w) g) child_grows ∙ (new_same g (off same) ∙ ap (λ w. has (config w) g) (sym same)))
    | inr ne ↦ ap (λ w. has (config w) g) (other_stays z ne)
  ]

  child_same : (q g : ℕ) → ((y.up ≡ q) → In g new → ⊥) → (z : Node) → In z (children t q)
      → has (config (f z)) g ≡ has (config z) g
  unfolding config_same
  child_same q g off z i =
      let (j, up) = In-filter_from (λ w. w.up == q) z t.others i in
      config_same z (inr j) g (λ same. off (ap (λ w. w.up) (sym same) ∙ eqb-true z.up q up))

  given_same : (q g : ℕ) → ((y.up ≡ q) → In g new → ⊥) → given_word u q g ≡ given_word t q g
  unfolding child_same
  given_same q g off = given_kept f t (words_without new t.words) names ups rows borns q g (child_same q g off)

  given_new : (q g : ℕ) → y.up ≡ q → In g new → given_word u q g ≡ shadow1_word (use_of y g) (vpage y.born)
  unfolding prepare-tree_sound grown_in
  given_new q g up i = given_some u q g y (holder_is u prepare-tree_sound q g y.name y
      (in_other u prepare-tree_sound y grown_in) up (held_config y g (config_new c b rest g i)))

  -- to whom a page is given
  given_parts : (q g : ℕ) → given_word u q g ≡ cond (y.up
      == q) (cond (has new g) (shadow1_word (use_of y g) (vpage y.born)) (given_word t q g)) (given_word t q g)
  unfolding given_same given_new
  given_parts q g = elim (cases_eq y.up q) [
    | inl e ↦ elim (cases_Bool (has new g)) [
      | inl on ↦ given_new q g e (has_in g new on) ∙ sym (ap (λ z.
          cond z (cond (has new g) (shadow1_word (use_of y g) (vpage y.born)) (given_word t q g)) (given_word t q g))
          (eq-eqb y.up q e) ∙ ap (λ z. cond z (shadow1_word (use_of y g) (vpage y.born)) (given_word t q g)) on)
      | inr off ↦ given_same q g (λ k i. both_ways (has new g) off (in_has g new i)) ∙ sym (ap (λ z.
          cond z (cond (has new g) (shadow1_word (use_of y g) (vpage y.born)) (given_word t q g)) (given_word t q g))
          (eq-eqb y.up q e) ∙ ap (λ z. cond z (shadow1_word (use_of y g) (vpage y.born)) (given_word t q g)) off)
    ]
    | inr ne ↦ given_same q g (λ k i. ne k) ∙ sym (ap (λ z. cond z (cond (has new g)
        (shadow1_word (use_of y g) (vpage y.born)) (given_word t q g)) (given_word t q g)) (ne_eqb y.up q ne))
  ]

  row_grown : (z : Node) (q : Row) → row_given y new (y.up == z.name) (filled t z q) ≡ filled u (f z) q
  unfolding given_parts named
  row_grown z q =
      let g = q.frame in
      let user : cond (has new g) false (not (hidden t g)) ≡ not (hidden u g) =
      user_parts (has new g) (hidden t g) ∙ ap not (sym (hidden_now t p c b rest s named may g)) in
      let given : cond (has new g) (cond (y.up == z.name) (shadow1_word (use_of y g) (vpage y.born))
      (given_word t z.name g)) (given_word t z.name g) ≡ given_word u (f z).name g =
      marked-word (y.up == z.name) (has new g) (shadow1_word (use_of y g) (vpage y.born)) (given_word t z.name g)
      ∙ (sym (given_parts z.name g) ∙ ap (λ n. given_word u n g) (sym (names z))) in
      let from : from_word t z g ≡ from_word u (f z) g =
      sym (from_kept f t (words_without new t.words) names ups rows z g) in
      marked-parts false (has new g) (filled t z q)
      (cond (y.up == z.name) (shadow1_word (use_of y g) (vpage y.born)) (given_word t z.name g))
      ∙ (λ j. record { frame = q.frame; rights = q.rights; user = user j; given = given j; from = from j })

  -- each node has the rows of the new tree
  pub prepare-rows : (z : Node) → In z (nodes t) → (v : ℕ) → rows_given t y new z.name v ≡ full_rows u (f z) v
  unfolding row_grown
  prepare-rows z i v =
      ap (λ w. option_map (row_given y new (y.up == z.name)) (full_rows t w v)) (node_is t z.name z (in_found t s z i))
      ∙ elim (cases_option (row_at z.rows v)) [
        | inl none ↦ ap (option_map (row_given y new (y.up == z.name))) (full-at t z v None none)
            ∙ sym (full-at u (f z) v None (ap (λ rs. row_at rs v) (rows z) ∙ none))
        | inr q ↦ ap (option_map (row_given y new (y.up == z.name))) (full-at t z v (Some q.0) q.1)
            ∙ (ap Some (row_grown z q.0) ∙ sym (full-at u (f z) v (Some q.0) (ap (λ rs. row_at rs v) (rows z) ∙ q.1)))
      ]

  -- ---- the frames

  module _ (m l n : Memory) (lays : LaysOut t m) (k : Midway l t (rows_given t y new)) (stay : PagesStay t m l)
      (space : Space n y (rows_given t y new c.name)) (others : OthersStay y l n) where
    other_space : (z : Node) → In z (nodes t) → z.name ≢ c.name → Space n z (rows_given t y new z.name)
    unfolding further child_found
    other_space z i ne = Space-stays l n z y (rows_given t y new z.name) (k.each z.name z (in_found t s z i))
        space.node.shape others (λ g on mine. elim (config_back c b rest g mine) [
          | inl j ↦ config_apart t s z.name c.name g z c (in_found t s z i) child_found ne on j
          | inr j ↦ further g j z i on
        ])

    each_space : (a : ℕ) (w : Node) → find_node u a ≡ Some w → Space n w (full_rows u w)
    unfolding other_space prepare-rows child_grows other_stays
    each_space a w e =
        let (z, z_is, w_is) = changed_back f t names a w e in
        let i = found_in t a z z_is in
        subst (λ q. Space n q (full_rows u q)) (sym w_is) (Space-same n (f z) (rows_given t y new z.name)
        (full_rows u (f z)) (prepare-rows z i) (elim (cases_eq z.name c.name) [
          | inl same ↦
              let is_c : z ≡ c = same_name t z c s i (inr may.child) same in
              subst (λ q. Space n q (rows_given t y new z.name))
              (sym (ap f is_c ∙ child_grows)) (subst (λ q. Space n y (rows_given t y new q)) (sym same) space)
          | inr ne ↦ subst (λ q. Space n q (rows_given t y new z.name)) (sym (other_stays z ne)) (other_space z i ne)
        ]))

    words_same : (g i : ℕ) (w : ℕ → ℕ) → u.words g ≡ Some w → i < 1024 → word_at n g i ≡ w i
    words_same g i w e i_in =
        let (off, old) = some_kept (has new g) (t.words g) w e in
        others.words g i (λ on. elim (config_back c b rest g on) [
          | inl j ↦ words_apart t s g w c old (inr may.child) j
          | inr j ↦ both_ways (has new g) off (in_has g new j)
        ])
        ∙ words_stay t s m l lays stay g i w old i_in

    -- the new tree is laid out
    pub prepare-lays : LaysOut u n
    unfolding prepare-tree_sound each_space words_same grown_in
    prepare-lays = lays_sound u prepare-tree_sound n space.node.shape
        (others.count ∙ k.count) (λ a w e. (each_space a w e).node) words_same
        (λ i i_in. others.words 0 i (zero_owner u prepare-tree_sound y (inr grown_in))
        ∙ zero_stays t s m l lays stay i i_in)
