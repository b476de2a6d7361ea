-- removeVAddr keeps the tree sound.
use Rattle.std.proofs.Common.{◌≡◌, ◌≢◌, ℕ, ◌==◌, inl, inr, Bool, true, false, not, cond, List, [], ◌∷◌, refl, sym, ap}
use Rattle.std.proofs.Common.{◌∙◌, subst, arith, eqb-true, Option, Some, None}
use Rattle.std.specs.Prelude.{is_none, option_map, filter, unwrap_or}
use Rattle.std.proofs.lemmas.Bool.{ne_eqb}
use Rattle.pip_model.specs.Accepted.{MayRemove}
use Rattle.pip_model.specs.Answers.{answer_unless, child_name, child_of, first_met, nobody}
use Rattle.pip_model.specs.Lists.{In}
use Rattle.pip_model.specs.RemoveVAddr.{remove_refusals, remove_vaddr, tree_without_row, without_row}
use Rattle.pip_model.specs.Sound.{IsLentBy, IsSound}
use Rattle.pip_model.specs.Tree.{Node, Row, Tree, child_at, config, free, held_pages, holder, is_free_row, node, pairs}
use Rattle.pip_model.specs.Tree.{row_at, row_pages, vpage}
use Rattle.pip_base.specs.declared.outcome.Status.{Status}
use Rattle.pip_base.specs.declared.outcome.Status.TheVariants as S
use Rattle.pip_model.proofs.Calls.Add.{child_found}
use Rattle.pip_model.proofs.OnLists.Members.{In-append_left, In-append_right, In-append_cases, In-map, In-map_from}
use Rattle.pip_model.proofs.OnLists.Members.{In-filter, In-filter_from, find_in, Distinct-after_filter, Rising-filter}
use Rattle.pip_model.proofs.OnLists.Members.{Rising-distinct, same_at_key}
use Rattle.pip_model.proofs.Trees.Ancestors.{same_name, name_in}
use Rattle.pip_model.proofs.Trees.Free.{IsName, node_found, row_found, no_holder-unheld, not_false, passed}
use Rattle.pip_model.proofs.Trees.ChangeNode.{MayBecome, change_node-sound}

pub row_at_filter : (v w : ℕ) (rows : List Row) → v ≢ w → row_at (filter (λ r. not (r.at == v)) rows) w ≡ row_at rows w
row_at_filter v w [] d = refl
row_at_filter v w (r ∷ rows) d = go (r.at == v) refl (row_at_filter v w rows d)
  where
    go : (b : Bool) → (r.at == v) ≡ b → row_at (filter (λ r. not (r.at == v)) rows) w ≡ row_at rows w
        → row_at (cond (not b) (r ∷ filter (λ r. not (r.at == v)) rows) (filter (λ r. not (r.at == v)) rows)) w
        ≡ cond (r.at == w) (Some r) (row_at rows w)
    go false e ih = rw ih
    go true e ih = let n : (r.at == w) ≡ false = ne_eqb r.at w (λ k. d (rw (← eqb-true r.at v e) k)) in
        cc

module _ (t : Tree) (c : Node) (r : Row) (s : IsSound t) (m : MayRemove t c r) where
  row_from : (q : Row) → In q (without_row r.at c).rows → In q c.rows
  row_from q i = (In-filter_from (λ k. not (k.at == r.at)) q c.rows i).0

  held_from : (g : ℕ) → In g (held_pages (without_row r.at c)) → In g (held_pages c)
  held_from g h = elim (In-append_cases g (config c) (row_pages (without_row r.at c)) h) [
    | inl j ↦ In-append_left g (config c) (row_pages c) j
    | inr j ↦ let (q, k, e) = In-map_from (λ q. q.frame) g (without_row r.at c).rows j in
        In-append_right g (config c) (row_pages c)
        (rw e (In-map (λ q. q.frame) q c.rows (row_from q k)))
  ]

  -- a page that a child of c holds keeps its row
  page_kept : (x : Node) → In x t.others → x.up ≡ c.name → (g : ℕ) → In g (held_pages x) → (q : Row) → In q c.rows
      → q.frame ≡ g → q.at ≢ r.at
  page_kept x i u g h q k e a =
      let q≡r : q ≡ r =
      same_at_key (λ q. q.at) q r c.rows (Rising-distinct 0 _ (s.pages_apart c (inr m.child)).places) k m.row a in
      m.unheld x i u (subst (λ h. In h (held_pages x)) (rw (← e, q≡r)) h)

  lends : (x : Node) → In x t.others → x.up ≡ c.name → IsLentBy (without_row r.at c) x
  lends x i u = let l = s.lent x c i (inr m.child) u in record {
    rows = λ g h.
        let (q, k, e) = In-map_from (λ q. q.frame) g c.rows (l.rows g h) in
        rw e (In-map (λ q. q.frame) q (without_row r.at c).rows
        (In-filter (λ k. not (k.at == r.at)) q c.rows k
        (ap not (ne_eqb q.at r.at (page_kept x i u g h q k (sym e))))));
    aligned = l.aligned;
    placed = λ g h.
        let (q, k, a, e) = row_found c (vpage g.va) g.frame (l.placed g h) in
        let ne = page_kept x i u g.frame
        (In-append_left g.frame (config x) (row_pages x) (In-map (λ g. g.frame) g (pairs x) h)) q k e in
        rw (row_at_filter r.at (vpage g.va) c.rows (λ z. ne (a ∙ sym z)), l.placed g h);
  }

  pub may_become : MayBecome t c (without_row r.at c)
  may_become =
      let k = s.pages_apart c (inr m.child) in
      let n = s.named_by_descriptor c m.child in
      let h = s.tables c (inr m.child) in
      record {
        child = m.child;
        apart = record {
          pages = Distinct-after_filter (λ q. q.frame) (λ q. not (q.at == r.at)) (config c) c.rows k.pages;
          places = Rising-filter 0 (λ q. q.at) (λ q. not (q.at == r.at)) c.rows k.places;
        };
        named = assumption;
        readable = λ q i. s.readable c (inr m.child) q (row_from q i);
        tables = record {
          first = λ q j. h.first q (row_from q j);
          differ = h.differ;
          tabled = λ q j. h.tabled q (row_from q j);
          small = h.small;
          listed = h.listed;
        };
        quiet = s.no_lines_but_the_root c m.child;
        lent = λ y j u. let l = s.lent c y m.child j u in (
          record { rows = λ g i. l.rows g (held_from g i); aligned = l.aligned; placed = l.placed },
          λ q w a b e. s.rights c y m.child j u q w (row_from q a) b e,
        );
        siblings = λ y j u ne g i o. s.siblings_apart y c j m.child u ne g i (held_from g o);
        lends = λ x i u. (lends x i u, λ q w a b e. s.rights x c i (inr m.child) u q w a (row_from w b) e);
      }

  pub without_row-sound : IsSound (tree_without_row t c.name r.at)
  unfolding may_become
  without_row-sound = change_node-sound t s c (without_row r.at) (λ x. refl) (λ x. refl) may_become (λ x. refl)

remove_at : (t : Tree) (p d cv : ℕ) (c : Node) (r : Row) → IsSound t → child_at t p d ≡ Some c → row_at c.rows
    (vpage cv) ≡ Some r → free t c.name (vpage cv) ≡ true → IsSound (tree_without_row t c.name (vpage cv))
remove_at t p d cv c r s k e f =
    let h = child_found t p d c k in
    let w = find_in (λ q. q.at == vpage cv) r c.rows e in
    let n : IsName t c.name = inr (name_in c t.others h.0) in
    let same : node t c.name ≡ c = let g = node_found t c.name n in same_name t (node t c.name) c s g.0 (inr h.0) g.1 in
    let z : free t c.name (vpage cv) ≡ is_free_row t c.name (Some r) =
    rw (same, e) in
    let u : holder t c.name r.frame ≡ None = none_from (holder t c.name r.frame) (cc) in
    rw (← eqb-true r.at (vpage cv) w.1) (without_row-sound t c r s
    (record { child = h.0; row = w.0; unheld = no_holder-unheld t c.name r.frame u }))
  where
    none_from : (o : Option Node) → is_none o ≡ true → o ≡ None
    none_from None q = refl
    none_from (Some x) q = cc

pub remove-sound : (t : Tree) (p d cv : ℕ) → IsSound t → IsSound (remove_vaddr t p d cv).tree
remove-sound t p d cv s = go (first_met cs) refl
  where
    cs : List (Bool × Status)
    cs = remove_refusals t p d cv

    at_row : (c : Node) (o : Option Row) → child_at t p d ≡ Some c → row_at c.rows (vpage cv) ≡ o → is_none o ≡ false
        → free t c.name (vpage cv) ≡ true → IsSound (tree_without_row t c.name (vpage cv))
    at_row c None k e q f = cc
    at_row c (Some r) k e q f = remove_at t p d cv c r s k e f

    at_child : (o : Option Node) → child_at t p d ≡ o → first_met cs ≡ None
        → IsSound (tree_without_row t (child_name t p d) (vpage cv))
    at_child None k e = let q : is_none (child_at t p d) ≡ false = passed cs e S.NotChild in
        absurd (grind (arith, k, q))
    at_child (Some c) k e =
        let q : is_none (row_at (child_of t p d).rows (vpage cv)) ≡ false = passed cs e S.Absent in
        let f : not (free t (child_name t p d) (vpage cv)) ≡ false = passed cs e S.LentOn in
        let is : child_of t p d ≡ c = rw k in
        let na : child_name t p d ≡ c.name = rw k in
        rw na (at_row c (row_at c.rows (vpage cv)) k refl (subst (λ x. is_none (row_at x.rows (vpage cv)) ≡ false) is q)
        (subst (λ n. free t n (vpage cv) ≡ true) na (not_false _ f)))

    go : (o : Option Status) → first_met cs ≡ o → IsSound (answer_unless t o
        (record { status = S.Ok; value = 0; tree = tree_without_row t (child_name t p d) (vpage cv) })).tree
    go (Some q) e = s
    go None e = at_child (child_at t p d) refl e
