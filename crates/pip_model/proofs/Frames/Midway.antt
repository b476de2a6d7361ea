-- The middle of a call: writes to one node, and a page hidden all up a chain.
use Rattle.std.proofs.Common.{◌≡◌, ◌≢◌, ℕ, ◌==◌, cond, inl, inr, Bool, true, false, List, refl, sym, ap, ◌∙◌, subst}
use Rattle.std.proofs.Common.{eq-eqb, ne_eqb, Option, Some, None}
use Rattle.pip_model.specs.Accepted.{IsUnheld}
use Rattle.std.proofs.lemmas.Bool.{both_ways, cases_Bool, cases_eq}
use Rattle.pip_base.specs.Memory.{IsMemory, Memory}
use Rattle.pip_base.specs.Words.{shadow2_word}
use Rattle.pip_model.specs.Layout.{LaysOut}
use Rattle.pip_model.specs.FullRows.{FullRow, from_word, full_rows}
use Rattle.pip_model.specs.Lists.{In, has}
use Rattle.pip_model.specs.Midway.{HoldsNodes, Like, Midway, MidwayOnChain, OffChainStays, OnChain, find_other, here}
use Rattle.pip_model.specs.Midway.{put_rows, put_user, tree_rows, user_at}
use Rattle.pip_model.specs.NodeIn.{OthersStay, Space, put_row}
use Rattle.pip_model.specs.Sound.{IsSound}
use Rattle.pip_model.specs.Tree.{Node, Row, Tree, config, find_node, held_pages, on_nodes, row_at}
use Rattle.pip_model.proofs.OnLists.Members.{has_in, in_has}
use Rattle.pip_model.proofs.Trees.Lookup.{changed_back, cases_option, found_in, node_is, other_found, other_in}
use Rattle.pip_model.proofs.Trees.Lookup.{same_found}
use Rattle.pip_model.proofs.Trees.Chains.{common_chain, config_apart, first_step, held_up, one_owner}
use Rattle.pip_model.proofs.Trees.RowLookup.{held_row, one_row}
use Rattle.pip_model.proofs.Nodes.Writes.{Space-rows, Space-kept, Space-same, Space-stays}
use Rattle.pip_model.proofs.Frames.Shadows.{from_root_word, parent_place}
use Rattle.pip_model.proofs.Frames.Laid.{full_back, laid_space}

-- ---- rows that are like the tree's, one by one

-- a row is like itself
pub Like-refl : (o : Option FullRow) → Like o o
Like-refl None = tt
Like-refl (Some r) = (refl, refl, refl)

-- a row that is like one of the tree has its page, rights and place
pub like_some : (r : FullRow) (o : Option FullRow) → Like (Some r) o
    → (q : FullRow) × (o ≡ Some q) × (r.frame ≡ q.frame) × (r.rights ≡ q.rights) × (r.from ≡ q.from)
like_some r None h = absurd h
like_some r (Some q) h = (q, refl, h.0, h.1, h.2)

-- where the tree has a row, so have rows that are like it
pub like_back : (o : Option FullRow) (q : FullRow) → Like o (Some q)
    → (r : FullRow) × (o ≡ Some r) × (r.frame ≡ q.frame) × (r.rights ≡ q.rights) × (r.from ≡ q.from)
like_back None q h = absurd h
like_back (Some r) q h = (r, refl, h.0, h.1, h.2)

-- a row changed in its user bit or its given page stays like the tree's
like_changed : (r new : FullRow) (o : Option FullRow) → new.frame ≡ r.frame → new.rights ≡ r.rights → new.from ≡ r.from
    → Like (Some r) o → Like (Some new) o
like_changed r new None f g h k = k
like_changed r new (Some q) f g h k = (f ∙ k.0, g ∙ k.1, h ∙ k.2)

-- a row put in place of one with the same page, rights and place leaves the rows like the tree's
pub like_put : (rows full : ℕ → Option FullRow) → ((v : ℕ) → Like (rows v) (full v)) → (v : ℕ) (r new : FullRow)
    → rows v ≡ Some r → new.frame ≡ r.frame → new.rights ≡ r.rights → new.from ≡ r.from → (u : ℕ)
    → Like (put_row rows v (Some new) u) (full u)
like_put rows full like v r new e f g h u = elim (cases_eq u v) [
  | inl same ↦ rw (eq-eqb u v same)
      (like_changed r new (full u) f g h (rw (← e, ← same) (like u)))
  | inr ne ↦ rw (ne_eqb u v ne) (like u)
]

-- so does a user bit
pub like_user : (g : ℕ) (b : Bool) (o p : Option FullRow) → Like o p → Like (user_at g b o) p
like_user g b None p h = h
like_user g b (Some r) p h = go (r.frame == g)
  where
    go : (c : Bool) → Like (Some (cond c (record r { user = b }) r)) p
    go true = like_changed r (record r { user = b }) p refl refl refl h
    go false = h

-- the user bit of the page's row is set
pub user_at_same : (g : ℕ) (b : Bool) (r : FullRow) → r.frame ≡ g → user_at g b (Some r) ≡ Some (record r { user = b })
user_at_same g b r e = rw (eq-eqb r.frame g e)

-- and of no other row
pub user_at_other : (g : ℕ) (b : Bool) (r : FullRow) → r.frame ≢ g → user_at g b (Some r) ≡ Some r
user_at_other g b r ne = rw (ne_eqb r.frame g ne)

-- ---- the rows of one node

module _ (t : Tree) (s : IsSound t) (a : ℕ) (x : Node) (x_is : find_node t a ≡ Some x) (rows : ℕ → Option FullRow)
    (like : (v : ℕ) → Like (rows v) (full_rows t x v)) where
  -- the node's own row
  pub like_row : (v : ℕ) (r : FullRow) → rows v ≡ Some r → (q : Row) × (row_at x.rows v ≡ Some q) × (r.frame ≡ q.frame)
      × (r.rights ≡ q.rights) × (r.from ≡ from_word t x q.frame)
  like_row v r e =
      let k = like_some r (full_rows t x v) (rw (← e) (like v)) in
      let q = full_back t x v k.0 k.1 in
      (q.0, q.1, cc (k.2, q.2), cc (k.3, q.2), cc (k.4, q.2))

  -- one page is in one of them
  pub one_like : (v u : ℕ) (r q : FullRow) → rows v ≡ Some r → rows u ≡ Some q → r.frame ≡ q.frame → v ≡ u
  unfolding like_row
  one_like v u r q d e p =
      let k = like_row v r d in
      let l = like_row u q e in
      (one_row x (s.pages_apart x (found_in t a x x_is)) v u k.0 l.0 k.1 l.1 (cc (k.2, l.2))).1

  -- so the bit of one row is the bit of its page
  pub user_row : (v : ℕ) (r : FullRow) (b : Bool) → rows v ≡ Some r → (u : ℕ)
      → put_row rows v (Some (record r { user = b })) u ≡ put_user rows r.frame b u
  unfolding one_like
  user_row v r b e u = elim (cases_eq u v) [
    | inl same ↦ rw (eq-eqb u v same) (cc (user_at_same r.frame b r refl))
    | inr ne ↦ rw (ne_eqb u v ne) (elim (cases_option (rows u)) [
      | inl none ↦ rw (none, ← none)
      | inr q ↦
          cc (q.1, user_at_other r.frame b q.0 (λ p. ne (one_like u v q.0 r q.1 e p)), q.1)
    ])
  ]

  -- the parent's row of the page, where there is a parent
  pub up_place : find_other t a ≡ Some x → (v : ℕ) (r : FullRow) → rows v ≡ Some r → (p : Node) × (find_node t x.up
      ≡ Some p) × (w : ℕ) × (q : Row) × (row_at p.rows w ≡ Some q) × (q.frame ≡ r.frame) × (r.from ≡ shadow2_word w)
  unfolding like_row
  up_place o v r e =
      let k = like_row v r e in
      let f = parent_place t s a x o k.0.frame (held_row x v k.0 k.1) in
      (f.0, f.1, f.2, f.3, f.4, f.5 ∙ sym k.2, k.4 ∙ f.6)

  -- and in the root there is none
  pub root_from : x ≡ t.root → (v : ℕ) (r : FullRow) → rows v ≡ Some r → r.from ≡ 0
  unfolding like_row
  root_from root v r e = let k = like_row v r e in k.4 ∙ from_root_word t x k.0.frame (rw root)

-- ---- all nodes

-- what lays a sound tree out holds its nodes with the tree's own rows
pub laid_nodes : (t : Tree) → IsSound t → (m : Memory) → LaysOut t m → HoldsNodes m t (tree_rows t)
laid_nodes t s m lays a x e =
    rw (node_is t a x e) (laid_space t s m lays a x e)

-- so it is in the middle of a call
pub laid_midway : (t : Tree) → IsSound t → (m : Memory) → LaysOut t m → Midway m t (tree_rows t)
laid_midway t s m lays = record {
  shape = lays.shape;
  count = lays.count;
  each = laid_nodes t s m lays;
  like = λ a x v e.
      rw (node_is t a x e) (Like-refl (full_rows t x v));
}

-- of all nodes, those of one chain
pub midway_chain : (m : Memory) (t : Tree) (caller : ℕ) (rows : ℕ → ℕ → Option FullRow) → Midway m t rows
    → MidwayOnChain m t caller rows
midway_chain m t caller rows k =
    record { count = k.count; each = λ a x e r. k.each a x e; like = λ a x v e r. k.like a x v e }

same_node : (t : Tree) (a b : ℕ) (x y : Node) → find_node t a ≡ Some x → find_node t b ≡ Some y → b ≡ a → x ≡ y
same_node t a b x y d e q = same_found t a x y d (cc)

-- writing into one node's frames leaves the other nodes
pub nodes_put : (t : Tree) → IsSound t → (m n : Memory) (rows : ℕ → ℕ → Option FullRow) → HoldsNodes m t rows
    → (a : ℕ) (x : Node) (new : ℕ → Option FullRow) → find_node t a ≡ Some x → Space n x new → OthersStay x m n
    → HoldsNodes n t (put_rows rows a new)
nodes_put t s m n rows k a x new x_is space stay b y y_is = elim (cases_eq b a) [
  | inl e ↦ rw (eq-eqb b a e) (rw (← same_node t a b x y x_is y_is e) space)
  | inr ne ↦ rw (ne_eqb b a ne) (Space-stays m n y x (rows b) (k b y y_is) space.node.shape stay
      (λ f h j. config_apart t s b a f y x y_is x_is ne h j))
]

-- and the middle of the call, where the new rows are like the tree's
pub midway_put : (t : Tree) → IsSound t → (m n : Memory) (rows : ℕ → ℕ → Option FullRow) → Midway m t rows
    → (a : ℕ) (x : Node) (new : ℕ → Option FullRow) → find_node t a ≡ Some x
    → Space n x new → OthersStay x m n → ((v : ℕ) → Like (new v) (full_rows t x v)) → Midway n t (put_rows rows a new)
midway_put t s m n rows k a x new x_is space stay like = record {
  shape = space.node.shape;
  count = stay.count ∙ k.count;
  each = nodes_put t s m n rows k.each a x new x_is space stay;
  like = λ b y v y_is. elim (cases_eq b a) [
    | inl e ↦ rw (eq-eqb b a e) (rw (← same_node t a b x y x_is y_is e) (like v))
    | inr ne ↦ rw (ne_eqb b a ne) (k.like b y v y_is)
  ];
}

-- a tree whose nodes differ in their rows alone has the same nodes in frames
pub nodes_changed : (f : Node → Node) (t : Tree) → ((x : Node) → (own : List Row) × (f x ≡ record x { rows = own }))
    → (m : Memory) (rows : ℕ → ℕ → Option FullRow) → HoldsNodes m t rows → HoldsNodes m (on_nodes f t) rows
nodes_changed f t same m rows k a x e =
    let (z, z_is, x_is) = changed_back f t (λ x. ap (λ w. w.name) (same x).1) a x e in
    rw (x_is, (same z).1) (Space-rows m z (rows a) (same z).0 (k a z z_is))

-- ---- a page hidden or opened all up a chain

-- The caller holds page g and no child of it does. The page's bit is set in the caller and its ancestors,
-- and no other frame is written: then it is set in all nodes, since no other has a row with the page
module _ (t : Tree) (s : IsSound t) (m n : Memory) (rows : ℕ → ℕ → Option FullRow) (k : Midway m t rows)
    (caller g : ℕ) (b : Bool) (p : Node) (p_is : find_node t caller ≡ Some p) (holds_it : In g (held_pages p))
    (unheld : IsUnheld t caller g) (shape : IsMemory n)
    (wrote : (a : ℕ) (y : Node) → find_node t a ≡ Some y → OnChain t a caller → Space n y (put_user (rows a) g b))
    (rest : OffChainStays t caller m n) where
  -- whoever holds the page is on the chain
  holder_above : (a : ℕ) (y : Node) → find_node t a ≡ Some y → In g (held_pages y) → OnChain t a caller
  holder_above a y y_is on = elim (common_chain t s a caller g y p y_is p_is on holds_it) [
    | inl up ↦ up
    | inr down ↦ elim (first_step t caller a down) [
      | inl e ↦ rw e here
      | inr c ↦ absurd (unheld c.1 (other_in t c.0 c.1 c.2) c.3
          (held_up t s c.0 a g c.4 c.1 y (other_found t s c.0 c.1 c.2) y_is on))
    ]
  ]

  no_row : (a : ℕ) (y : Node) → find_node t a ≡ Some y → (In g (held_pages y) → ⊥) → (v : ℕ)
      → rows a v ≡ put_user (rows a) g b v
  no_row a y y_is off v = elim (cases_option (rows a v)) [
    | inl none ↦ rw (none, ← none)
    | inr r ↦
        let q = like_row t s a y y_is (rows a) (λ u. k.like a y u y_is) v r.0 r.1 in
        r.1 ∙ sym (ap (user_at g b) r.1
        ∙ user_at_other g b r.0 (λ e. off (subst (λ z. In z (held_pages y)) (sym q.2 ∙ e) (held_row y v q.0 q.1))))
  ]

  -- each node has its rows, with the bit of the page set
  pub each_hidden : (a : ℕ) (y : Node) → find_node t a ≡ Some y → Space n y (put_user (rows a) g b)
  unfolding holder_above no_row
  each_hidden a y y_is = elim (cases_Bool (has (held_pages y) g)) [
    | inl on ↦ wrote a y y_is (holder_above a y y_is (has_in g (held_pages y) on))
    | inr off ↦
        let out : In g (held_pages y) → ⊥ = λ h. let on : has (held_pages y) g ≡ true = in_has g (held_pages y) h in
        absurd (both_ways (has (held_pages y) g) off on) in
        Space-same n y (rows a) (put_user (rows a) g b) (no_row a y y_is out)
        (Space-kept m n y (rows a) (k.each a y y_is) shape rest.count
        (λ f i h i_in. rest.words f i (λ c x x_is r j. out (held_there f a c x y x_is y_is r j h))))
  ]
    where
      held_there : (f a c : ℕ) (x y : Node) → find_node t c ≡ Some x → find_node t a ≡ Some y → OnChain t c caller
          → In f (config x) → In f (config y) → In g (held_pages y)
      held_there f a c x y x_is y_is r j h =
          let same : c ≡ a = one_owner t s c a f x y x_is y_is j h in
          held_up t s a caller g (rw (← same) r) y p y_is p_is holds_it

  -- so the memory is in the middle of a call with these rows
  pub midway_hidden : Midway n t (λ a. put_user (rows a) g b)
  unfolding each_hidden
  midway_hidden = record {
    shape = shape;
    count = rest.count ∙ k.count;
    each = each_hidden;
    like = λ a y v y_is. like_user g b (rows a v) (full_rows t y v) (k.like a y v y_is);
  }
