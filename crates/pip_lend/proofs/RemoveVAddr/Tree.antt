-- The tree in which a child has one row less: the full rows of each of its nodes.
use Rattle.std.proofs.Common.{◌≡◌, ℕ, ◌==◌, inl, inr, false, not, List, map, refl, sym, ap, ◌∙◌, subst, eq-eqb, ne_eqb}
use Rattle.std.proofs.Common.{Some, None, ◌≢◌, ◌||◌, cond, Bool, true, [], ◌∷◌, ◌++◌, eqb-true}
use Rattle.std.proofs.lemmas.List.Folds.{list_any-append}
use Rattle.pip_model.specs.Accepted.{MayRemove}
use Rattle.std.specs.Prelude.{filter}
use Rattle.std.proofs.lemmas.Bool.{both_ways, cases_eq}
use Rattle.pip_model.specs.FullRows.{full_rows}
use Rattle.pip_model.specs.Lists.{In, has}
use Rattle.pip_model.specs.NodeIn.{put_row}
use Rattle.pip_model.specs.Sound.{IsSound}
use Rattle.pip_model.specs.Tree.{Node, Row, Tree, change_at, config, find_node, held_pages, holder, row_at, row_pages}
use Rattle.pip_model.proofs.Trees.Ancestors.{not_both}
use Rattle.pip_model.specs.RemoveVAddr.{tree_without_row, without_row}
use Rattle.pip_model.proofs.Trees.ChangeNode.{one-changes}
use Rattle.pip_model.proofs.Frames.ChangeRows.{RowsChange, child_row, parent_rows, rows_tree-sound}
use Rattle.pip_model.proofs.Trees.Children.{holder_back}
use Rattle.pip_model.proofs.Frames.Laid.{filled}
use Rattle.pip_model.proofs.Trees.Lookup.{cases_option, other_in}
use Rattle.pip_model.proofs.OnLists.Members.{Distinct-right, In-append_cases, In-append_right, In-filter_from, In-map}
use Rattle.pip_model.proofs.OnLists.Members.{In-map_from, Rising-distinct, same_at_key}
use Rattle.pip_model.proofs.Frames.ReadBack.{full-at}
use Rattle.pip_model.proofs.Calls.Remove.{may_become, row_at_filter}
use Rattle.pip_model.proofs.Trees.RowLookup.{in_row}
use Rattle.pip_model.proofs.Frames.Shadows.{given_none}

-- ---- one row less among rows

-- the rows but the one at vpage v
abbrev pub left : ℕ → List Row → List Row
left v rows = filter (λ r. not (r.at == v)) rows

-- there is none at v
pub row_gone : (v : ℕ) (rows : List Row) → row_at (left v rows) v ≡ None
row_gone v [] = refl
row_gone v (r ∷ rows) = go (r.at == v) refl (row_gone v rows)
  where
    go : (b : Bool) → (r.at == v) ≡ b → row_at (left v rows) v ≡ None
        → row_at (cond (not b) (r ∷ left v rows) (left v rows)) v ≡ None
    go true e rest = rest
    go false e rest = ap (λ b. cond b (Some r) (row_at (left v rows) v)) e ∙ rest

-- another page is among them as before
has_left : (v g : ℕ) (rows : List Row) → ((q : Row) → In q rows → q.at ≡ v → g ≢ q.frame)
    → has (map (λ q. q.frame) (left v rows)) g ≡ has (map (λ q. q.frame) rows) g
has_left v g [] ne = refl
has_left v g (r ∷ rows) ne = go (r.at == v) refl (has_left v g rows (λ q i. ne q (inr i)))
  where
    go : (b : Bool) → (r.at == v) ≡ b → has (map (λ q. q.frame) (left v rows)) g ≡ has (map (λ q. q.frame) rows) g
        → has (map (λ q. q.frame) (cond (not b) (r ∷ left v rows) (left v rows))) g
        ≡ has (map (λ q. q.frame) (r ∷ rows)) g
    go false e rest = ap (λ b. (r.frame == g) || b) rest
    go true e rest = rest ∙ ap (λ b. b || has (map (λ q. q.frame) rows) g)
        (sym (ne_eqb r.frame g (λ k. ne r (inl refl) (eqb-true r.at v e) (sym k))))

pub held_left : (v g : ℕ) (cs : List ℕ) (rows : List Row) → ((q : Row) → In q rows → q.at ≡ v → g ≢ q.frame)
    → has (cs ++ map (λ q. q.frame) (left v rows)) g ≡ has (cs ++ map (λ q. q.frame) rows) g
held_left v g cs rows ne =
    list_any-append (λ y. y == g) cs (map (λ q. q.frame) (left v rows))
    ∙ (ap (λ b. has cs g || b) (has_left v g rows ne)
    ∙ sym (list_any-append (λ y. y == g) cs (map (λ q. q.frame) rows)))

-- ---- the tree

module _ (t : Tree) (s : IsSound t) (c : Node) (r : Row) (may : MayRemove t c r) where
  abbrev own : List Row → List Row
  own rows = filter (λ k. not (k.at == r.at)) rows

  abbrev u : Tree
  u = tree_without_row t c.name r.at

  -- ---- rows

  row_there : row_at c.rows r.at ≡ Some r
  row_there = in_row c (s.pages_apart c (inr may.child)) r may.row

  same_place : (q : Row) → In q c.rows → q.at ≡ r.at → q ≡ r
  same_place q i e = same_at_key (λ k. k.at) q r c.rows
      (Rising-distinct 0 (map (λ k. k.at) c.rows) (s.pages_apart c (inr may.child)).places) i may.row e

  same_page : (q : Row) → In q c.rows → q.frame ≡ r.frame → q ≡ r
  same_page q i e = same_at_key (λ k. k.frame) q r c.rows
      (Distinct-right (config c) (row_pages c) (s.pages_apart c (inr may.child)).pages) i may.row e

  pub left_changes : RowsChange t c (λ rows. filter (λ k. not (k.at == r.at)) rows) r.frame
  unfolding row_there same_place
  left_changes = record {
    become = may_become t c r s may;
    same = λ h ne. held_left r.at h (config c) c.rows (λ q i e g. ne (g ∙ ap (λ k. k.frame) (same_place q i e)));
    below = λ y w k i up h e.
        row_at_filter r.at w c.rows (λ z.
        let both : Some r ≡ Some k = sym row_there ∙ (ap (row_at c.rows) z ∙ e) in
        let same : k ≡ r = cc in
        may.unheld y i up (subst (λ q. In q.frame (held_pages y)) same h))
        ∙ e;
  }

  new : IsSound u
  unfolding left_changes
  new = rows_tree-sound t s c own r.frame left_changes

  -- ---- the page

  -- the child holds it no more
  not_held : In r.frame (held_pages (without_row r.at c)) → ⊥
  unfolding same_page
  not_held h = elim (In-append_cases r.frame (config c) (row_pages (without_row r.at c)) h) [
    | inl i ↦ not_both t r.frame s c (inr may.child) i (In-map (λ q. q.frame) r c.rows may.row)
    | inr i ↦
        let (q, j, e) = In-map_from (λ q. q.frame) r.frame (own c.rows) i in
        let (k, off) = In-filter_from (λ k. not (k.at == r.at)) q c.rows j in
        let on : not (q.at == r.at) ≡ false = ap not (eq-eqb q.at r.at (ap (λ z. z.at) (same_page q k (sym e)))) in
        both_ways (not (q.at == r.at)) on off
  ]

  -- nor does another
  free_again : holder u c.up r.frame ≡ None
  unfolding left_changes not_held new
  free_again = elim (cases_option (holder u c.up r.frame)) [
    | inl none ↦ none
    | inr z ↦
        let (o, up, h) = holder_back u new c.up r.frame z.0 z.1 in
        let (y, i, e) = In-map_from (change_at c.name (without_row r.at)) z.0 t.others (other_in u z.0.name z.0 o) in
        absurd (elim (one-changes t s c (without_row r.at) (λ x. refl) (λ x. refl) left_changes.become y (inr i)) [
          | inl k ↦ not_held (subst (λ n. In r.frame (held_pages n)) (e ∙ k.1) h)
          | inr k ↦
              let is : z.0 ≡ y = e ∙ k.1 in
              s.siblings_apart y c i may.child (sym (ap (λ n. n.up) is) ∙ up) k.0 r.frame
              (subst (λ n. In r.frame (held_pages n)) is h)
              (In-append_right r.frame (config c) (row_pages c) (In-map (λ q. q.frame) r c.rows may.row))
        ])
  ]

  -- ---- full rows

  -- the child has a row less
  pub left_child : (w : ℕ)
      → full_rows (tree_without_row t c.name r.at) (without_row r.at c) w ≡ put_row (full_rows t c) r.at None w
  unfolding left_changes
  left_child w = elim (cases_eq w r.at) [
    | inr ne ↦ rw (ne_eqb w r.at ne)
        (child_row t s c own r.frame left_changes w (row_at_filter r.at w c.rows (λ e. ne (sym e))))
    | inl e ↦
        rw (eq-eqb w r.at e) (full-at u (without_row r.at c) w None (ap (row_at (own c.rows)) e ∙ row_gone r.at c.rows))
  ]

  -- and the parent's row is free
  pub left_parent : (x : Node) → find_node t c.up ≡ Some x → (v : ℕ) (q : Row) → row_at x.rows v ≡ Some q
      → q.frame ≡ r.frame → (w : ℕ)
      → full_rows (tree_without_row t c.name r.at) x w
      ≡ put_row (full_rows t x) v (Some (record (filled t x q) { given = 0 })) w
  unfolding left_changes free_again
  left_parent x found v q at page w =
      parent_rows t s c own r.frame left_changes x found v q at page 0 (given_none u c.up r.frame free_again) w
