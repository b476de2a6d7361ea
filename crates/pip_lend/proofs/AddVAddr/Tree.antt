-- The tree in which a child has one row more, with a page of its parent: the full rows of each of its nodes.
use Rattle.std.proofs.Common.{◌≡◌, ◌≢◌, ℕ, cond, inl, inr, true, false, not, refl, sym, ap, ◌∙◌, subst, eq-eqb, ne_eqb}
use Rattle.std.proofs.Common.{Some, None, ◌==◌, ◌||◌, Bool, List, [], ◌∷◌, ◌++◌, map}
use Rattle.std.specs.Prelude.{nat_lt}
use Rattle.std.proofs.lemmas.List.Folds.{list_any-append}
use Rattle.pip_model.specs.Accepted.{MayAdd}
use Rattle.std.proofs.lemmas.Bool.{cases_Bool, cases_eq}
use Rattle.pip_base.specs.Words.{as_lent, shadow1_word, shadow2_word}
use Rattle.pip_model.specs.AddVAddr.{tree_with_row, insert_row, with_row}
use Rattle.pip_model.specs.FullRows.{from_word, full_rows, given_word, vpage_of_page, use_of}
use Rattle.pip_model.specs.Lists.{In, has}
use Rattle.pip_model.specs.NodeIn.{put_row}
use Rattle.pip_model.specs.Sound.{IsSound}
use Rattle.pip_model.specs.Tree.{Node, Row, Tree, change_at, config, find_node, held_pages, hidden, holder, row_at}
use Rattle.pip_model.specs.Tree.{row_pages, vpage}
use Rattle.pip_model.proofs.Calls.Add.{insert-at, may_become}
use Rattle.pip_model.proofs.Trees.Ancestors.{name-config}
use Rattle.pip_model.proofs.Trees.ChangeNode.{change-keeps, up-apart}
use Rattle.pip_model.proofs.Frames.ChangeRows.{RowsChange, child_after, child_row, given_else, other_after, parent_rows}
use Rattle.pip_model.proofs.Frames.ChangeRows.{rows_tree-sound}
use Rattle.pip_model.proofs.Trees.Changes.{hidden_kept}
use Rattle.pip_model.proofs.Trees.Children.{holder_back, holder_is}
use Rattle.pip_model.proofs.Trees.Free.{hidden_from, unheld-config}
use Rattle.pip_model.proofs.Frames.Laid.{filled, full_is}
use Rattle.pip_model.proofs.Trees.Lookup.{cases_option, found_in, found_is_name, found_name, other_in}
use Rattle.pip_model.proofs.OnLists.Members.{In-append_right, has_in}
use Rattle.pip_model.proofs.Trees.RowLookup.{held_config, held_row, place_is, row_page}
use Rattle.pip_model.proofs.Frames.Shadows.{from_other_word, given_none, given_some}

-- ---- one row more among rows

-- another page is among them as before
has_inserted : (r : Row) (g : ℕ) → (r.frame == g) ≡ false → (rows : List Row)
    → has (map (λ q. q.frame) (insert_row r rows)) g ≡ has (map (λ q. q.frame) rows) g
has_inserted r g ne [] = ap (λ b. b || false) ne
has_inserted r g ne (s ∷ ss) = go (nat_lt r.at s.at) (has_inserted r g ne ss)
  where
    go : (b : Bool) → has (map (λ q. q.frame) (insert_row r ss)) g ≡ has (map (λ q. q.frame) ss) g
        → has (map (λ q. q.frame) (cond b (r ∷ s ∷ ss) (s ∷ insert_row r ss))) g ≡ has (map (λ q. q.frame) (s ∷ ss)) g
    go true rest = ap (λ b. b || has (map (λ q. q.frame) (s ∷ ss)) g) ne
    go false rest = ap (λ b. (s.frame == g) || b) rest

pub held_inserted : (r : Row) (g : ℕ) → g ≢ r.frame → (cs : List ℕ) (rows : List Row)
    → has (cs ++ map (λ q. q.frame) (insert_row r rows)) g ≡ has (cs ++ map (λ q. q.frame) rows) g
held_inserted r g ne cs rows =
    list_any-append (λ y. y == g) cs (map (λ q. q.frame) (insert_row r rows))
    ∙ (ap (λ b. has cs g || b) (has_inserted r g (ne_eqb r.frame g (λ e. ne (sym e))) rows)
    ∙ sym (list_any-append (λ y. y == g) cs (map (λ q. q.frame) rows)))

-- ---- the tree

module _ (t : Tree) (s : IsSound t) (c : Node) (x : Node) (found : find_node t c.up ≡ Some x)
    (r : Row) (may : MayAdd t c.up c r) where
  abbrev u : Tree
  u = tree_with_row t c.name r

  not_held : In r.frame (held_pages c) → ⊥
  not_held h = may.unheld c may.child refl h

  -- ---- rows

  pub own_there : row_at (insert_row r c.rows) r.at ≡ Some r
  own_there =
      insert-at r r.at c.rows may.absent ∙ ap (λ b. cond b (Some r) (row_at c.rows r.at)) (eq-eqb r.at r.at refl)

  own_else : (w : ℕ) → w ≢ r.at → row_at (insert_row r c.rows) w ≡ row_at c.rows w
  own_else w ne =
      insert-at r w c.rows may.absent ∙ ap (λ b. cond b (Some r) (row_at c.rows w)) (ne_eqb r.at w (λ e. ne (sym e)))

  pub lent_changes : RowsChange t c (insert_row r) r.frame
  unfolding own_else
  lent_changes = record {
    become = may_become t c.up c r s (found_is_name t c.up x found) may;
    same = λ h ne. held_inserted r h ne (config c) c.rows;
    below = λ y w k i up h e.
        own_else w (λ z. let none : None ≡ Some k = sym may.absent ∙ (ap (row_at c.rows) (sym z) ∙ e) in cc) ∙ e;
  }

  new : IsSound u
  unfolding lent_changes
  new = rows_tree-sound t s c (insert_row r) r.frame lent_changes

  -- ---- the page

  use_lent : use_of c r.frame ≡ as_lent
  unfolding not_held
  use_lent =
      let name : c.name ≢ r.frame = λ e.
      not_held (subst (λ g. In g (held_pages c)) e (held_config c c.name (name-config t s c (inr may.child)))) in
      rw (ne_eqb c.name r.frame name) (elim (cases_Bool (has (config c) r.frame)) [
        | inl on ↦ absurd (not_held (held_config c r.frame (has_in r.frame (config c) on)))
        | inr off ↦ ap (λ b. cond b 2 3) off
      ])

  -- the parent's first shadow names the child
  given_lent : given_word u c.up r.frame ≡ shadow1_word as_lent (vpage c.born)
  unfolding lent_changes own_there use_lent new
  given_lent =
      given_some u c.up r.frame (with_row r c) (holder_is u new c.up r.frame c.name (with_row r c)
      (child_after t s c (insert_row r) r.frame lent_changes) refl (held_row (with_row r c) r.at r own_there))
      ∙ ap (λ k. shadow1_word k (vpage c.born)) use_lent

  module _ (v : ℕ) (q : Row) (at : row_at x.rows v ≡ Some q) (page : q.frame ≡ r.frame) where
    -- the page is open to the user
    visible : hidden t r.frame ≡ false
    visible = elim (cases_Bool (hidden t r.frame)) [
      | inr off ↦ off
      | inl on ↦
          let (y, i, h) = hidden_from t r.frame on in
          absurd (unheld-config t c.up r.frame s x (found_in t c.up x found) (found_name t c.up x found)
          (subst (λ g. In g (row_pages x)) page (row_page x v q at)) may.unheld y i h)
    ]

    -- free for the child
    free_there : given_word u c.name r.frame ≡ 0
    unfolding not_held lent_changes
    free_there = given_else t s c (insert_row r) r.frame lent_changes c.name r.frame
        (λ e. absurd (up-apart t s c may.child (sym e)))
        ∙ given_none t c.name r.frame (elim (cases_option (holder t c.name r.frame)) [
          | inl none ↦ none
          | inr y ↦
              let (o, up, h) = holder_back t s c.name r.frame y.0 y.1 in
              absurd (not_held (In-append_right r.frame (config c) (row_pages c)
              ((s.lent y.0 c (other_in t y.0.name y.0 o) (inr may.child) up).rows r.frame h)))
        ])

    -- and comes from the parent's row
    from_there : from_word u (with_row r c) r.frame ≡ shadow2_word v
    unfolding lent_changes new
    from_there =
        let stays = other_after t s c (insert_row r) r.frame lent_changes c.up x found
        (λ e. up-apart t s c may.child (sym (found_name t c.up x found) ∙ e)) in
        from_other_word u new c.name (with_row r c) x r.frame v (child_after t s c (insert_row r) r.frame lent_changes)
        stays
        (ap (vpage_of_page x) (sym page) ∙ place_is x (s.pages_apart x (found_in t c.up x found)) v q at)

    -- the child has a row more
    pub lent_child : (w : ℕ) → full_rows (tree_with_row t c.name r) (with_row r c) w
        ≡ put_row (full_rows t c) r.at
        (Some (record { frame = r.frame; rights = r.rights; user = true; given = 0; from = shadow2_word v })) w
    unfolding own_there own_else lent_changes visible free_there from_there
    lent_child w = elim (cases_eq w r.at) [
      | inr ne ↦ rw (ne_eqb w r.at ne) (child_row t s c (insert_row r) r.frame lent_changes w (own_else w ne))
      | inl e ↦ rw (eq-eqb w r.at e) (sym (full_is u (with_row r c) w r
          (record { frame = r.frame; rights = r.rights; user = true; given = 0; from = shadow2_word v })
          (ap (row_at (insert_row r c.rows)) e ∙ own_there)
          refl
          refl
          (sym (ap not (hidden_kept (change_at c.name (with_row r)) t
          (change-keeps c.name (with_row r) config (λ z. refl)) r.frame ∙ visible)))
          (sym free_there)
          (sym from_there)))
    ]

    -- and the parent's row says so
    pub lent_parent : (w : ℕ) → full_rows (tree_with_row t c.name r) x w
        ≡ put_row (full_rows t x) v (Some (record (filled t x q) { given = shadow1_word as_lent (vpage c.born) })) w
    unfolding lent_changes given_lent
    lent_parent w = parent_rows t s c (insert_row r) r.frame lent_changes x found v q at page
        (shadow1_word as_lent (vpage c.born)) given_lent w
