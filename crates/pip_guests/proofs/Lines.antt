-- Which names are above which (the line of a name is its ancestry), and what two trees that agree below p have in
-- common.
use Rattle.std.proofs.Common.{◌≡◌, ◌≢◌, ℕ, ◌==◌, ◌⊎◌, inl, inr, Bool, true, false, cond, List, [], ◌∷◌, refl, sym, ap}
use Rattle.std.proofs.Common.{◌∙◌, subst, arith, eqb-true}
use Rattle.std.proofs.lemmas.Bool.{cases_Bool}
use Rattle.pip_model.specs.Lists.{In, has}
use Rattle.pip_model.specs.Local.{IsBelow}
use Rattle.pip_model.specs.Sound.{IsSound}
use Rattle.pip_model.specs.Tree.{Node, Tree, ancestry, chain, chain_in, config, names_of, node, nodes, row_pages}
use Rattle.pip_model.proofs.OnLists.Members.{In-append_right, In-map_from, has_in, in_has}
use Rattle.pip_model.proofs.Trees.Ancestors.{chain-node, holders-related, holds_up, name_in, parent_in, root_alone}
use Rattle.pip_model.proofs.Trees.Ancestors.{root_is_top}
use Rattle.pip_model.proofs.Trees.Ancestry.{ancestry_over, ancestry_trans, named_node, over_ancestry, own_ancestry}
use Rattle.pip_model.proofs.Trees.Ancestry.{root_is_one}
use Rattle.pip_model.proofs.Trees.Free.{IsName, node_found}
use Rattle.pip_model.proofs.Trees.Numbers.{name_positive}
use Rattle.pip_model.proofs.Locality.Agree.{AgreeTrees, Agreeing, agree_down, node_same, turned}
use Rattle.pip_model.proofs.Locality.Leaves.{LeavesTree}
use Rattle.pip_model.proofs.Locality.OneEvent.{own_name}
use Rattle.pip_model.proofs.Locality.Runs.{meet, meet_same}

-- ---- one tree

-- a name that has a line is in the tree
line_of : (root : Node) (xs : List Node) (q n : ℕ) → In n (names_of (chain_in root xs q)) → In q (names_of (root ∷ xs))
line_of root [] q n i = one (root.name == q) refl i
  where
    one : (b : Bool) → (root.name == q) ≡ b → In n (names_of (cond b (root ∷ []) [])) → In q (names_of (root ∷ []))
    one true e i = inl (sym (eqb-true root.name q e))
    one false e i = absurd i
line_of root (x ∷ xs) q n i = one (x.name == q) refl i (line_of root xs q n)
  where
    up : In q (names_of (root ∷ xs)) → In q (names_of (root ∷ x ∷ xs))
    up (inl e) = inl e
    up (inr j) = inr (inr j)

    one : (b : Bool) → (x.name == q) ≡ b → In n (names_of (cond b (x ∷ chain_in root xs x.up) (chain_in root xs q)))
        → (In n (names_of (chain_in root xs q)) → In q (names_of (root ∷ xs))) → In q (names_of (root ∷ x ∷ xs))
    one true e i f = inr (inl (sym (eqb-true x.name q e)))
    one false e i f = up (f i)

pub line_name : (t : Tree) (q n : ℕ) → In n (ancestry t q) → IsName t q
line_name t q n i = line_of t.root t.others q n i

pub no_line : (t : Tree) → IsSound t → (n : ℕ) → In n (ancestry t 0) → ⊥
no_line t s n i = let h = name_positive t s 0 (line_name t 0 n i) in absurd (omega arith)

module _ (t : Tree) (s : IsSound t) where
  -- the node of a name, from its line
  pub line_node : (n q : ℕ) → In n (ancestry t q)
      → In (node t q) (nodes t) × ((node t q).name ≡ q) × In n (ancestry t (node t q).name)
  line_node n q h = let f = node_found t q (line_name t q n h) in
      (f.0, f.1, rw f.1 h)

  -- and so is a name on a line
  pub line_top : (n q : ℕ) → In n (ancestry t q) → IsName t n
  line_top n q h =
      let f = line_node n q h in
      let (z, j, e, o) = ancestry_over t s (node t q) f.0 n f.2 in
      subst (IsName t) e (name_in z (nodes t) j)

  pub own_line : (q : ℕ) → IsName t q → In q (ancestry t q)
  own_line q n = let f = node_found t q n in rw (← f.1) (own_ancestry t s (node t q) f.0)

  pub line_trans : (n m q : ℕ) → In n (ancestry t m) → In m (ancestry t q) → In n (ancestry t q)
  line_trans n m q k h = let f = line_node m q h in
      rw (← f.1) (ancestry_trans t s (node t q) f.0 n m f.2 k)

  -- on the root's line is the root alone
  pub top_alone : (n : ℕ) → In n (ancestry t t.root.name) → n ≡ t.root.name
  top_alone n h = let (z, j, e) = In-map_from (λ z. z.name) n (chain t t.root.name) h in
      rw (e, root_alone t s z j)

  pub root_line : (q : ℕ) → IsName t q → In t.root.name (ancestry t q)
  root_line q n = let f = node_found t q n in rw (← f.1)
      (over_ancestry t s t.root (node t q) (inl refl) (root_is_top t s (node t q) f.0))

  -- the line of a node that is not the root, by its parent's
  pub line_parent : (n : ℕ) (x : Node) → In x t.others → In n (ancestry t x.name)
      → (n ≡ x.name) ⊎ In n (ancestry t x.up)
  line_parent n x i h = rw (chain-node t s x i) at h

  -- the parent of a partition that is not the root
  pub parent_line : (p : ℕ) → IsName t p → p ≢ t.root.name
      → In (node t p) t.others × IsName t (node t p).up × In (node t p).up (ancestry t p)
  parent_line p n m =
      let f = node_found t p n in
      let i = other f.0 f.1 in
      let (y, j, e) = parent_in t.root t.others s.parents_come_first (node t p) i in
      let u : IsName t (node t p).up = subst (IsName t) (sym e) (name_in y (nodes t) j) in (
        i,
        u,
        rw f.1 at (subst (In (node t p).up) (sym (ap names_of (chain-node t s (node t p) i)))
            (inr (own_line (node t p).up u))),
      )
    where
      other : In (node t p) (nodes t) → (node t p).name ≡ p → In (node t p) t.others
      other (inl e) q = absurd (m (rw (← q, e)))
      other (inr i) q = i

  -- of two names on one line one is above the other
  pub lines_meet : (p q n : ℕ) → In p (ancestry t n) → In q (ancestry t n) → In p (ancestry t q) ⊎ In q (ancestry t p)
  lines_meet p q n h k = let f = line_node p n h in meet t s p q (node t n) f.0 f.2 (line_node q n k).2

  -- two in each other's line are one
  pub lines_same : (p q : ℕ) → In p (ancestry t q) → In q (ancestry t p) → p ≡ q
  lines_same p q h k = meet_same t s p q (line_name t p q k) (line_name t q p h) h k

  -- the pages in a partition's rows are in rows of all above it
  pub rows_up : (p q g : ℕ) → In p (ancestry t q) → In g (row_pages (node t q)) → In g (row_pages (node t p))
  rows_up p q g h i =
      let f = line_node p q h in
      let (z, j, e, o) = ancestry_over t s (node t q) f.0 p f.2 in
      rw (named_node t p s z j e) (elim o [
        | inl d ↦ subst (λ x. In g (row_pages x)) (sym d) i
        | inr v ↦
            holds_up t g s z (node t q) v (In-append_right g (config (node t q)) (row_pages (node t q)) i)
      ])

  -- of two with a common page in rows one is above the other
  pub rows_meet : (p q g : ℕ) → IsName t p → IsName t q → In g (row_pages (node t p)) → In g (row_pages (node t q))
      → In p (ancestry t q) ⊎ In q (ancestry t p)
  rows_meet p q g n m i j =
      let f = node_found t p n in
      let k = node_found t q m in
      elim (holders-related t g s (node t p) (node t q) f.0 k.0 (In-append_right g (config (node t p))
      (row_pages (node t p)) i) (In-append_right g (config (node t q)) (row_pages (node t q)) j)) [
        | inl e ↦ inl (rw (← f.1, e, k.1) (own_line q m))
        | inr (inl c) ↦ inl (rw (← f.1) (subst (λ v. In (node t p).name (ancestry t v)) k.1
            (over_ancestry t s (node t p) (node t q) f.0 (inr c))))
        | inr (inr c) ↦ inr (rw (← k.1) (subst (λ v. In (node t q).name (ancestry t v)) f.1
            (over_ancestry t s (node t q) (node t p) k.0 (inr c))))
      ]

-- no partition but the root is the root in another tree
pub not_top : (t u : Tree) → IsSound t → IsSound u → (p : ℕ) → p ≢ t.root.name → p ≢ u.root.name
not_top t u s r p n e = n (rw (e, root_is_one u r, ← root_is_one t s))

-- ---- two trees that agree below p

module _ (t u : Tree) (p : ℕ) (s : IsSound t) (r : IsSound u) (a : AgreeTrees p t u) where
  module _ (q : ℕ) (h : In p (ancestry t q)) where
    pub there : IsBelow t p (node t q)
    there = let f = line_node t s p q h in (f.0, f.2)

    pub node_alike : node t q ≡ node u q
    node_alike = let f = line_node t s p q h in sym (named_node u q r (node t q) (a.to (node t q) there).0 f.1)

    pub line_alike : In p (ancestry u q)
    line_alike = let f = line_node t s p q h in subst (λ v. In p (ancestry u v)) f.1 (a.to (node t q) there).1

    pub agree_below : AgreeTrees q t u
    agree_below = let f = line_node t s p q h in
        rw (← f.1) (agree_down t u p s r (line_top t s p q h) a (node t q) there)

pub agree_sym : (t u : Tree) (p : ℕ) → IsSound t → IsSound u → IsName t p → AgreeTrees p t u → AgreeTrees p u t
agree_sym t u p s r n a = let g : Agreeing p t u = record { sound = s; sound' = r; name = n; trees = a } in
    (turned g).trees

-- a name below p in the one is below p in the other
pub below_before : (t u : Tree) (p n : ℕ) → IsSound t → IsSound u → IsName t p → AgreeTrees p t u → In p (ancestry u n)
    → In p (ancestry t n)
below_before t u p n s r i a h = line_alike u t p r s (agree_sym t u p s r i a) n h

pub agree_trans : (t u v : Tree) (p : ℕ) → IsSound t → IsSound u → IsName t p → AgreeTrees p t u → AgreeTrees p u v
    → AgreeTrees p t v
agree_trans t u v p s r n a b = record {
  to = λ x h. b.to x (a.to x h);
  from = λ x h. a.from x (b.from x h);
  words = λ g i j l. b.words g i (rw (← node_same t u p s r n a) j) l ∙ a.words g i j l;
}

-- ---- a change below q

module _ (q : ℕ) (t u : Tree) (s : IsSound t) (r : IsSound u) (l : LeavesTree q t u) where
  -- a node that is not below q stays
  pub stays_out : (p : ℕ) → IsName t p → (In q (ancestry t p) → ⊥) → node u p ≡ node t p
  stays_out p i h =
      let f = node_found t p i in
      let o = (l.outside (node t p)).0 (f.0, (λ k. h (rw (← f.1) k))) in
      named_node u p r (node t p) o.0 f.1

  pub out_name : (p : ℕ) → IsName t p → (In q (ancestry t p) → ⊥) → IsName u p
  out_name p i h =
      let f = node_found t p i in
      let o = (l.outside (node t p)).0 (f.0, (λ k. h (rw (← f.1) k))) in
      subst (IsName u) f.1 (name_in (node t p) (nodes u) o.0)

-- a change below q is a change below all above q
pub leaves_up : (p q : ℕ) (t u : Tree) → IsSound t → IsSound u → In p (ancestry t q) → LeavesTree q t u
    → LeavesTree p t u
leaves_up p q t u s r h l = record {
  outside = λ x. (
    (λ k.
        let o = (l.outside x).0 (k.0, (λ j. k.1 (line_trans t s p q x.name h j))) in
        (o.0, (λ j. k.1 ((l.lines x.name p (name_in x (nodes t) k.0) (name_in x (nodes u) o.0)).1 j)))),
    (λ k.
        let o = (l.outside x).1 (k.0, (λ j. k.1 (line_trans u r p q x.name hu j))) in
        (o.0, (λ j. k.1 ((l.lines x.name p (name_in x (nodes t) o.0) (name_in x (nodes u) k.0)).0 j)))),
  );
  own = elim (cases_Bool (has (ancestry t p) q)) [
    | inl e ↦
        let z : p ≡ q = lines_same t s p q h (has_in q _ e) in
        cc
    | inr e ↦ ap {A = Node} (λ x. record x { masked = false })
        (sym (stays_out q t u s r l p n (λ k. let j = in_has q _ k in absurd (grind (arith, e, j)))))
  ];
  words = λ g k. l.words g (λ j. k (rows_up t s p q g h j));
  lines = l.lines;
}
  where
    n : IsName t p
    n = line_top t s p q h

    m : IsName t q
    m = line_name t q p h

    hu : In p (ancestry u q)
    hu = (l.lines q p m (own_name q t u l m)).0 h
