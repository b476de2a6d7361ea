-- What a change below p leaves alone in the tree.
use Rattle.std.proofs.Common.{◌≡◌, ◌≢◌, ℕ, ◌==◌, ◌↔◌, inl, inr, Bool, false, not, cond, List, refl, sym, ap, ◌∙◌, subst}
use Rattle.std.proofs.Common.{Option, Some, None}
use Rattle.std.specs.Prelude.{is_none}
use Rattle.std.proofs.lemmas.Bool.{ne_eqb, false_from_ne_true}
use Rattle.pip_base.specs.declared.types.Access.{Access}
use Rattle.pip_base.specs.declared.types.Size.{Size}
use Rattle.pip_model.specs.Answers.{words_without}
use Rattle.pip_model.specs.Happens.{with_word}
use Rattle.pip_model.specs.Lists.{In, has}
use Rattle.pip_model.specs.Local.{IsAside, IsButForMask, IsOutside}
use Rattle.pip_model.specs.Reach.{Alignment, Faulted, Hidden, Place, Right, is_misaligned, reach, right, reach_by_row}
use Rattle.pip_model.specs.Sound.{IsSound}
use Rattle.pip_model.specs.Tree.{change_at, change_node, Node, Row, Tree, ancestry, child_at, config, held_pages}
use Rattle.pip_model.specs.Tree.{hidden, node, nodes, on_nodes, row_at, row_pages, vpage, word_of}
use Rattle.pip_model.specs.Worlds.{masked_node, with_masked}
use Rattle.std.specs.Prelude.{bit_and, ◌%◌, ◌/◌}
use Rattle.pip_model.proofs.Trees.ChangeNode.{change-else, change-keeps, with_child}
use Rattle.pip_model.proofs.OnLists.Members.{In-map, In-map_from, has_in, find_in}
use Rattle.pip_model.proofs.Trees.Ancestors.{row_above}
use Rattle.pip_model.proofs.Trees.Free.{IsName, node_found, tests_agree, hidden_from, hidden_by}
use Rattle.pip_model.proofs.Calls.Add.{child_found}
use Rattle.pip_model.proofs.Trees.Children.{child_in, named_child}
use Rattle.pip_model.proofs.Trees.Ancestry.{own_ancestry, over_ancestry, ancestry_over, over_related, ancestry_in}
use Rattle.pip_model.proofs.Trees.Ancestry.{node_on, not_own_parent, named_node}

pub record LeavesTree (p : ℕ) (t u : Tree) : Type 0 where
  pub outside : (x : Node) → IsOutside t p x ↔ IsOutside u p x
  pub own : IsButForMask (node t p) (node u p)
  pub words : (g : ℕ) → (In g (row_pages (node t p)) → ⊥) → u.words g ≡ t.words g
  pub lines : (q n : ℕ) → IsName t q → IsName u q → In n (ancestry t q) ↔ In n (ancestry u q)

pub leaves_same : (p : ℕ) (t : Tree) → LeavesTree p t t
leaves_same p t = record {
  outside = λ x. ((λ h. h), (λ h. h));
  own = refl;
  words = λ g h. refl;
  lines = λ q n i j. ((λ h. h), (λ h. h));
}

-- a change of the nodes of one name, which is that of p or is below p
leaves_on : (f : Node → Node) → ((x : Node) → (f x).name ≡ x.name) → ((x : Node) → (f x).up ≡ x.up)
    → (t : Tree) (p c : ℕ) (w : ℕ → Option (ℕ → ℕ)) → In p (ancestry t c) → ((x : Node) → x.name ≢ c → f x ≡ x)
    → IsButForMask (node t p) (f (node t p)) → ((g : ℕ) → (In g (row_pages (node t p)) → ⊥) → w g ≡ t.words g)
    → LeavesTree p t (record (on_nodes f t) { words = w })
leaves_on f names ups t p c w l same own words = record {
  outside = λ x. (to x, from x);
  own = rw (node_on f names t p) own;
  words = words;
  lines = λ q n i j. (
    subst (In n) (sym (ancestry_in f names ups t.root t.others q)),
    subst (In n) (ancestry_in f names ups t.root t.others q),
  );
}
  where
    is_same : (x : Node) → (In p (ancestry t x.name) → ⊥) → f x ≡ x
    is_same x h = same x (λ e. h (rw e l))

    to : (x : Node) → IsOutside t p x → IsOutside (on_nodes f t) p x
    to x (i, h) = (
      subst (λ z. In z (nodes (on_nodes f t))) (is_same x h) (In-map f x (nodes t) i),
      (λ k. h (rw (← ancestry_in f names ups t.root t.others x.name) k)),
    )

    from : (x : Node) → IsOutside (on_nodes f t) p x → IsOutside t p x
    from x (i, h) =
        let (z, j, e) = In-map_from f x (nodes t) i in
        let q : x.name ≡ z.name = cc (names z) in
        let k : In p (ancestry t z.name) → ⊥ = λ k. h
        (rw q (subst (In p) (sym (ancestry_in f names ups t.root t.others z.name)) k)) in
        let d : x ≡ z = e ∙ is_same z k in
        (subst (λ v. In v (nodes t)) (sym d) j, rw d k)

-- pages that can't be read any more
pub without_out : (t : Tree) (gs : List ℕ) (g : ℕ) → (In g gs → ⊥) → words_without gs t.words g ≡ t.words g
without_out t gs g h = rw (false_from_ne_true (has gs g) (λ e. h (has_in g gs e)))

module _ (t : Tree) (p : ℕ) (s : IsSound t) (n : IsName t p) where
  pub own_in : In p (ancestry t p)
  own_in = let f = node_found t p n in rw (← f.1) (own_ancestry t s (node t p) f.0)

  -- a change of a child of p
  pub leaves_child : (f : Node → Node) → ((x : Node) → (f x).name ≡ x.name) → ((x : Node) → (f x).up ≡ x.up)
      → (d : ℕ) → is_none (child_at t p d) ≡ false → (w : ℕ → Option (ℕ → ℕ))
      → ((g : ℕ) → (In g (row_pages (node t p)) → ⊥) → w g ≡ t.words g) → LeavesTree p t (with_child t p d f w)
  leaves_child f names ups d e w words =
      let (c, k) = named_child t p d e in
      let other : (node t p).name ≢ c.name = λ q. not_own_parent t s c k.child (k.up ∙ sym (node_found t p n).1 ∙ q) in
      let own = ap {A = Node} (λ z. record z { masked = false }) (sym (change-else c.name f (node t p) other)) in
      let keep_names = change-keeps c.name f (λ z. z.name) names in
      let keep_ups = change-keeps c.name f (λ z. z.up) ups in
      rw k.name (leaves_on (change_at c.name f) keep_names keep_ups t p c.name w (child_in t p s n d c k.found).1
      (change-else c.name f) own words)

  -- the pages of a child are rows of p
  pub child_pages : (d : ℕ) (c : Node) → child_at t p d ≡ Some c → (g : ℕ) → In g (held_pages c)
      → In g (row_pages (node t p))
  child_pages d c k g h =
      let f = child_found t p d c k in
      let q = node_found t p n in
      (s.lent c (node t p) f.0 q.0 (f.1 ∙ sym q.1)).rows g h

  pub mask-leaves : (b : Bool) → LeavesTree p t (with_masked p b t)
  mask-leaves b = leaves_on (masked_node p b) (λ x. refl) (λ x. refl) t p p t.words own_in
      (λ x h. let q = ne_eqb x.name p h in λ i. record x { masked = cond (q i) b x.masked }) refl (λ g h. refl)

  pub store-leaves : (g i x : ℕ) → In g (row_pages (node t p)) → LeavesTree p t (with_word t g i x)
  store-leaves g i x h = record {
    outside = λ y. ((λ h. h), (λ h. h));
    own = refl;
    words = λ k l. rw (ne_eqb k g (λ e. l (subst (λ v. In v (row_pages (node t p))) (sym e) h)));
    lines = λ q m i j. ((λ h. h), (λ h. h));
  }

-- for whoever is aside, accesses are the same
module _ (t u : Tree) (p : ℕ) (s : IsSound t) (r : IsSound u) (n : IsName t p) (n' : IsName u p) (l : LeavesTree p t u)
    (q : ℕ) (a : IsAside t p q) where
  aside_node : IsOutside t p (node t q)
  aside_node = let f = node_found t q a.there in (f.0, (λ h. a.not_below (rw (← f.1) h)))

  aside_in : IsOutside u p (node t q)
  aside_in = (l.outside (node t q)).0 aside_node

  node_kept : node u q ≡ node t q
  node_kept = named_node u q r (node t q) aside_in.0 (node_found t q a.there).1

  -- a node that a page of q configures is outside too
  outside_in : (t : Tree) → IsSound t → IsName t p → (x : Node) → In x (nodes t) → (In p (ancestry t x.name) → ⊥)
      → (In x.name (ancestry t p) → ⊥) → (g : ℕ) → In g (row_pages x) → (z : Node) → In z (nodes t) → In g (config z)
      → In p (ancestry t z.name) → ⊥
  outside_in t s n x i nb na g h z j k b =
      let v = row_above t g s z x j i k h in
      let (y, m, e, o) = ancestry_over t s z j p b in
      elim (over_related t s x y z i m j (inr v) o) [
        | inl d ↦ nb (rw (← e, ← d) (own_ancestry t s x i))
        | inr (inl d) ↦ na (rw (← e) (over_ancestry t s x y i (inr d)))
        | inr (inr d) ↦ nb (rw (← e) (over_ancestry t s y x m (inr d)))
      ]

  hidden_kept : (g : ℕ) → In g (row_pages (node t q)) → hidden u g ≡ hidden t g
  hidden_kept g h = sym (tests_agree (hidden t g) (hidden u g)
      (λ k. let (z, j, c) = hidden_from t g k in
      let o = outside_in t s n (node t q) aside_node.0 aside_node.1
      (λ b. a.not_above (subst (λ v. In v (ancestry t p)) (node_found t q a.there).1 b)) g h z j c in
      hidden_by u g z ((l.outside z).0 (j, o)).0 c)
      (λ k. let (z, j, c) = hidden_from u g k in
      let o = outside_in u r n' (node t q) aside_in.0 aside_in.1 (λ b. a.not_above (subst (λ v. In v (ancestry t p))
      (node_found t q a.there).1 ((l.lines p (node t q).name n n').1 b))) g h z j c in
      hidden_by t g z ((l.outside z).1 (j, o)).0 c))

  pub reach_kept : (va : ℕ) (c : Access) (z : Size) → reach u q va c z ≡ reach t q va c z
  reach_kept va c z =
      rw (node_kept, at (row_at (node t q).rows (vpage va)) refl)
    where
      at : (o : Option Row) → row_at (node t q).rows (vpage va) ≡ o → reach_by_row u va c o ≡ reach_by_row t va c o
      at None e = refl
      at (Some b) e = rw (hidden_kept b.frame (In-map (λ b. b.frame) b (node t q).rows
          (find_in (λ b. b.at == vpage va) b (node t q).rows e).0))
