-- A tree of which the rows of one child change, and of its pages one: the full rows of each node.
use Rattle.std.proofs.Common.{◌≡◌, ◌≢◌, ℕ, ◌==◌, cond, inl, inr, Bool, true, false, not, List, [], ◌∷◌, map, refl, sym}
use Rattle.std.proofs.Common.{ap, ◌∙◌, subst, eq-eqb, ne_eqb, eqb-true, Option, Some, None}
use Rattle.std.specs.Prelude.{filter, find, option_map}
use Rattle.std.proofs.lemmas.Bool.{cases_eq}
use Rattle.pip_base.specs.Words.{shadow1_word}
use Rattle.pip_model.specs.FullRows.{from_word, full_rows, given_by, given_word, vpage_of_page, use_of}
use Rattle.pip_model.specs.Lists.{In}
use Rattle.pip_model.specs.Midway.{find_other}
use Rattle.pip_model.specs.NodeIn.{put_row}
use Rattle.pip_model.specs.Sound.{IsSound}
use Rattle.pip_model.specs.Tree.{Node, Row, Tree, change_at, change_node, children, config, find_node, held_pages}
use Rattle.pip_model.specs.Tree.{holder, holds, row_at, vpage}
use Rattle.pip_model.proofs.Trees.ChangeNode.{MayBecome, change-else, change-here, change-keeps, change_node-sound}
use Rattle.pip_model.proofs.Trees.ChangeNode.{one-changes, up-apart}
use Rattle.pip_model.proofs.Trees.Changes.{hidden_kept}
use Rattle.pip_model.proofs.Frames.Laid.{filled, full_is, full_same}
use Rattle.pip_model.proofs.Trees.Lookup.{find_changed, find_other_changed, found_in, found_name, in_found, in_other}
use Rattle.pip_model.proofs.Trees.Lookup.{other_in, root_or_other}
use Rattle.pip_model.proofs.OnLists.Members.{In-filter_from}
use Rattle.pip_model.proofs.Trees.RowLookup.{held_row, one_row, place_is}
use Rattle.pip_model.proofs.Frames.Shadows.{from_other_word, from_root_word, parent_place}

-- ---- what is found among nodes that change

-- children of the changed nodes are the changed children
pub children-changed : (f : Node → Node) → ((x : Node) → (f x).up ≡ x.up) → (p : ℕ) (xs : List Node)
    → filter (λ x. x.up == p) (map f xs) ≡ map f (filter (λ x. x.up == p) xs)
children-changed f ups p [] = refl
children-changed f ups p (x ∷ xs) =
    cc (ups x, go (x.up == p) (children-changed f ups p xs))
  where
    go : (b : Bool) → filter (λ z. z.up == p) (map f xs) ≡ map f (filter (λ z. z.up == p) xs)
        → cond b (f x ∷ filter (λ z. z.up == p) (map f xs)) (filter (λ z. z.up == p) (map f xs))
        ≡ map f (cond b (x ∷ filter (λ z. z.up == p) xs) (filter (λ z. z.up == p) xs))
    go true h = rw h
    go false h = h

-- what a test finds that says of each what it said before
pub find-changed_same : (f : Node → Node) (P : Node → Bool) (xs : List Node) → ((x : Node) → In x xs → P (f x) ≡ P x)
    → find P (map f xs) ≡ option_map f (find P xs)
find-changed_same f P [] same = refl
find-changed_same f P (x ∷ xs) same = ap (λ b. cond b (Some (f x)) (find P (map f xs))) (same x (inl refl))
    ∙ go (P x) (find-changed_same f P xs (λ z i. same z (inr i)))
  where
    go : (b : Bool) → find P (map f xs) ≡ option_map f (find P xs)
        → cond b (Some (f x)) (find P (map f xs)) ≡ option_map f (cond b (Some x) (find P xs))
    go true h = refl
    go false h = h

-- the node of a name after the change
pub found-changed : (c : ℕ) (f : Node → Node) (t : Tree) → ((x : Node) → (f x).name ≡ x.name) → (a : ℕ) (x : Node)
    → find_node t a ≡ Some x → find_node (change_node c f t) a ≡ Some (change_at c f x)
found-changed c f t names a x e =
    rw (find_changed (change_at c f) t (change-keeps c f (λ z. z.name) names) a, e)

-- ---- rows

-- the child's rows change so that it holds every page but g as before, and each page of a child of its own is in its
-- row as before
pub record RowsChange (t : Tree) (c : Node) (own : List Row → List Row) (g : ℕ) : Type 0 where
  pub become : MayBecome t c (record c { rows = own c.rows })
  pub same : (h : ℕ) → h ≢ g → holds (record c { rows = own c.rows }) h ≡ holds c h
  pub below : (y : Node) (w : ℕ) (q : Row) → In y t.others → y.up ≡ c.name → In q.frame (held_pages y)
      → row_at c.rows w ≡ Some q → row_at (own c.rows) w ≡ Some q

module _ (t : Tree) (s : IsSound t) (c : Node) (own : List Row → List Row) (g : ℕ) (k : RowsChange t c own g) where
  abbrev f : Node → Node
  f x = record x { rows = own x.rows }

  abbrev F : Node → Node
  F = change_at c.name f

  abbrev d : Node
  d = record c { rows = own c.rows }

  abbrev pub rows_tree : Tree
  rows_tree = change_node c.name f t

  abbrev u : Tree
  u = rows_tree

  child : In c t.others
  child = k.become.child

  pub rows_tree-sound : IsSound rows_tree
  rows_tree-sound = change_node-sound t s c f (λ x. refl) (λ x. refl) k.become (λ x. refl)

  -- ---- nodes

  pub child_found : find_node t c.name ≡ Some c
  child_found = in_found t s c (inr child)

  pub child_after : find_other rows_tree c.name ≡ Some (record c { rows = own c.rows })
  child_after = find_other_changed F t (change-keeps c.name f (λ z. z.name) (λ z. refl)) c.name
      ∙ (ap (option_map F) (in_other t s c child) ∙ ap Some (change-here c.name f c refl))

  pub other_after : (a : ℕ) (y : Node) → find_node t a ≡ Some y → y.name ≢ c.name → find_node rows_tree a ≡ Some y
  other_after a y e ne = rw (found-changed c.name f t (λ z. refl) a y e, change-else c.name f y ne)

  parent_after : (a : ℕ) (y : Node) → find_other t a ≡ Some y → y.name ≢ c.name → find_other u a ≡ Some y
  parent_after a y e ne = find_other_changed F t (change-keeps c.name f (λ z. z.name) (λ z. refl)) a
      ∙ (ap (option_map F) e ∙ ap Some (change-else c.name f y ne))

  -- ---- to whom pages are given

  holds_same : (y : Node) (h : ℕ) → In y t.others → (y ≡ c → h ≢ g) → holds (F y) h ≡ holds y h
  holds_same y h i ne = elim (one-changes t s c f (λ x. refl) (λ x. refl) k.become y (inr i)) [
    | inl e ↦ rw (e.1, k.same h (ne e.0), ← e.0)
    | inr e ↦ rw e.1
  ]

  -- no word of a first shadow changes but the parent's of the page g
  pub given_else : (a h : ℕ) → (a ≡ c.up → h ≢ g) → given_word rows_tree a h ≡ given_word t a h
  unfolding given_word holds_same
  given_else a h ne =
      rw (
        children-changed F (change-keeps c.name f (λ z. z.up) (λ z. refl)) a t.others,
        find-changed_same F (λ z. holds z h) (children t a)
            (λ y i. let (j, up) = In-filter_from (λ z. z.up == a) y t.others i in
            holds_same y h j (λ e. ne (sym (eqb-true y.up a up) ∙ ap (λ z. z.up) e))),
        go (holder t a h),
      )
    where
      go : (o : Option Node) → given_by (option_map F o) h ≡ given_by o h
      go None = refl
      go (Some y) = change-keeps c.name f (λ z. shadow1_word (use_of z h) (vpage z.born)) (λ z. refl) y

  -- ---- whence pages come

  -- the parent has its row of a page still
  above_stays : (y p : Node) (w : ℕ) (q : Row) → In y t.others → find_node t y.up ≡ Some p → In q.frame (held_pages y)
      → row_at p.rows w ≡ Some q → (z : Node) × (find_node u y.up ≡ Some z) × (row_at z.rows w ≡ Some q)
  unfolding child_found
  above_stays y p w q i p_is on e =
      elim (one-changes t s c f (λ x. refl) (λ x. refl) k.become p (found_in t y.up p p_is)) [
        | inl h ↦ (
          record c { rows = own c.rows },
          rw (found-changed c.name f t (λ z. refl) y.up p p_is, h.1),
          k.below y w q i (rw (← found_name t y.up p p_is, h.0)) on
              (rw (← h.0) e),
        )
        | inr h ↦ (p, other_after y.up p p_is h.0, e)
      ]

  from_same : (a : ℕ) (y z : Node) → find_node t a ≡ Some y → z.name ≡ y.name → z.up ≡ y.up → (find_other t a ≡ Some y
      → find_other u a ≡ Some z) → (h : ℕ) → In h (held_pages y) → from_word u z h ≡ from_word t y h
  unfolding above_stays rows_tree-sound
  from_same a y z y_is name up after h i = elim (root_or_other t a y y_is) [
    | inl root ↦ from_root_word u z h
        (name ∙ (ap (λ n. n.name) root ∙ sym (change-keeps c.name f (λ n. n.name) (λ n. refl) t.root)))
        ∙ sym (from_root_word t y h (ap (λ n. n.name) root))
    | inr o ↦
        let (p, p_is, w, q, at, page, word) = parent_place t s a y o h i in
        let (n, n_is, there) =
        above_stays y p w q (other_in t a y o) p_is (subst (λ e. In e (held_pages y)) (sym page) i) at in
        cc (from_other_word u rows_tree-sound a z n h w (after o) (ap (find_node u) up ∙ n_is)
        (ap (vpage_of_page n) (sym page) ∙ place_is n (rows_tree-sound.pages_apart n (found_in u y.up n n_is)) w q
        there))
  ]

  -- ---- full rows

  -- those of the child stay where its rows do
  pub child_row : (w : ℕ) → row_at (own c.rows) w ≡ row_at c.rows w
      → full_rows rows_tree (record c { rows = own c.rows }) w ≡ full_rows t c w
  unfolding child_found child_after given_else from_same
  child_row w row = sym (full_same t u c d w (sym row) (λ q at. (
    sym (hidden_kept F t (change-keeps c.name f config (λ z. refl)) q.frame),
    sym (given_else c.name q.frame (λ e. absurd (up-apart t s c child (sym e)))),
    sym (from_same c.name c d child_found refl refl (λ o. child_after) q.frame (held_row c w q at)),
  )))

  -- those of another node stay, but the parent's of the page
  pub other_row : (a : ℕ) (y : Node) → find_node t a ≡ Some y → a ≢ c.name → (w : ℕ)
      → ((q : Row) → row_at y.rows w ≡ Some q → a ≡ c.up → q.frame ≢ g) → full_rows rows_tree y w ≡ full_rows t y w
  unfolding given_else from_same
  other_row a y y_is off w ne =
      let name = found_name t a y y_is in
      sym (full_same t u y y w refl (λ q at. (
        sym (hidden_kept F t (change-keeps c.name f config (λ z. refl)) q.frame),
        sym (given_else y.name q.frame (λ e. ne q at (cc))),
        sym (from_same a y y y_is refl refl (λ o. parent_after a y o (λ e. off (cc))) q.frame
            (held_row y w q at)),
      )))

  -- and that has another word in the first shadow
  pub parent_rows : (x : Node) → find_node t c.up ≡ Some x → (v : ℕ) (q : Row) → row_at x.rows v ≡ Some q → q.frame ≡ g
      → (word : ℕ) → given_word rows_tree c.up g ≡ word → (w : ℕ)
      → full_rows rows_tree x w ≡ put_row (full_rows t x) v (Some (record (filled t x q) { given = word })) w
  unfolding other_row from_same
  parent_rows x found v q at page word given w = elim (cases_eq w v) [
    | inr ne ↦ rw (ne_eqb w v ne) (other_row c.up x found (up-apart t s c child) w
        (λ z e h i. ne (one_row x (s.pages_apart x (found_in t c.up x found)) w v z q e at (cc)).1))
    | inl e ↦ rw (eq-eqb w v e) (sym (full_is u x w q (record (filled t x q) { given = word })
        (rw (e, at))
        refl
        refl
        (rw (← hidden_kept F t (change-keeps c.name f config (λ z. refl)) q.frame))
        (cc (found_name t c.up x found))
        (sym (from_same c.up x x found refl refl (λ o. parent_after c.up x o
        (λ z. up-apart t s c child (rw (← found_name t c.up x found) z))) q.frame (held_row x v q at)))))
  ]
