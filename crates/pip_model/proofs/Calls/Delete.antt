-- deletePartition keeps the tree sound.
use Rattle.std.proofs.Common.{◌≡◌, ◌≢◌, ℕ, ◌&&◌, inl, inr, Bool, true, false, not, cond, List, [], ◌∷◌, map, refl, sym}
use Rattle.std.proofs.Common.{ap, ap₂, ◌∙◌, subst, arith, Option, Some, None}
use Rattle.std.specs.Prelude.{is_some, is_none, filter, flat_map, option_map, unwrap_or}
use Rattle.std.proofs.lemmas.Bool.{not-true, false_from_ne_true}
use Rattle.pip_base.specs.declared.outcome.Status.{Status}
use Rattle.pip_base.specs.declared.outcome.Status.TheVariants as S
use Rattle.pip_model.specs.Answers.{answer_unless, child_name, first_met}
use Rattle.pip_model.specs.Boot.{zero_words}
use Rattle.pip_model.specs.DeletePartition.{delete_partition, delete_refusals, tree_without_subtree}
use Rattle.pip_model.specs.Lists.{In, has}
use Rattle.pip_model.specs.Sound.{IsRooted, IsSound}
use Rattle.pip_model.specs.Tree.{Node, Tree, ancestry, below, chain, child_at, config, hidden, names_of, nodes}
use Rattle.pip_model.specs.Tree.{row_pages}
use Rattle.pip_model.proofs.OnLists.Members.{In-append_left, In-map_from, In-filter, In-filter_from, In-flat}
use Rattle.pip_model.proofs.OnLists.Members.{In-flat_from, in_has, has_in}
use Rattle.pip_model.proofs.Trees.Ancestors.{not_root, name_in, chain-node, root_is_top, root_alone, holds_up}
use Rattle.pip_model.proofs.Trees.Ancestors.{one_config}
use Rattle.pip_model.proofs.Trees.Free.{tests_agree, hidden_from, hidden_by, passed}
use Rattle.pip_model.proofs.Trees.Numbers.{cleared_small}
use Rattle.pip_model.proofs.Calls.Add.{child_found}

module _ (t : Tree) (a : ℕ) (s : IsSound t) (other : a ≢ t.root.name) where
  -- the node goes
  goes : Node → Bool
  goes x = has (ancestry t x.name) a

  root_stays : has (ancestry t t.root.name) a ≡ false
  root_stays = false_from_ne_true _ (λ e.
      let (z, i, q) = In-map_from (λ z. z.name) a (chain t t.root.name) (has_in a (ancestry t t.root.name) e) in
      other (rw (q, root_alone t s z i)))

  -- where a parent goes, its children go
  goes_down : (x y : Node) → In x t.others → x.up ≡ y.name → has (ancestry t y.name) a ≡ true
      → has (ancestry t x.name) a ≡ true
  goes_down x y i u e =
      let j : In a (ancestry t y.name) = has_in a (ancestry t y.name) e in
      let k : ancestry t x.name ≡ x.name ∷ ancestry t y.name =
      rw (chain-node t s x i, u) in
      in_has a (ancestry t x.name) (rw k (inr j))

  left_of : List Node → List Node
  left_of xs = filter (λ x. not (has (ancestry t x.name) a)) xs

  left_from : (x : Node) (xs : List Node) → In x (filter (λ x. not (has (ancestry t x.name) a)) xs) → In x xs
  left_from x xs i = (In-filter_from (λ x. not (has (ancestry t x.name) a)) x xs i).0

  left_in : (x : Node) (xs : List Node) → In x xs → has (ancestry t x.name) a ≡ false
      → In x (filter (λ x. not (has (ancestry t x.name) a)) xs)
  left_in x xs i e = In-filter (λ x. not (has (ancestry t x.name) a)) x xs i (rw e)

  names_left : (n : ℕ) (xs : List Node) → In n (names_of (filter (λ x. not (has (ancestry t x.name) a)) xs))
      → In n (names_of xs)
  names_left n xs i = let (x, j, e) =
      In-map_from (λ x. x.name) n (filter (λ x. not (has (ancestry t x.name) a)) xs) i in
      rw e (name_in x xs (left_from x xs j))

  -- the parent of one that stays stays
  up_left : (x : Node) (xs : List Node) → In x t.others → has (ancestry t x.name) a ≡ false → In x.up
      (names_of (t.root ∷ xs)) → In x.up (names_of (t.root ∷ filter (λ x. not (has (ancestry t x.name) a)) xs))
  up_left x xs i e (inl q) = inl q
  up_left x xs i e (inr j) =
      let (y, k, u) = In-map_from (λ y. y.name) x.up xs j in
      let n : has (ancestry t y.name) a ≡ false = false_from_ne_true _ (λ h. let g = goes_down x y i u h in
      grind (arith, e, g)) in
      inr (rw (← u) at (name_in y (filter (λ x. not (has (ancestry t x.name) a)) xs) (left_in y xs k n)))

  rooted_left : (xs : List Node) → ((x : Node) → In x xs → In x t.others) → IsRooted t.root xs
      → IsRooted t.root (filter (λ x. not (has (ancestry t x.name) a)) xs)
  rooted_left [] w r = r
  rooted_left (x ∷ xs) w r = go (has (ancestry t x.name) a) refl (rooted_left xs (λ y j. w y (inr j)) r.2)
    where
      go : (b : Bool) → has (ancestry t x.name) a ≡ b
          → IsRooted t.root (filter (λ x. not (has (ancestry t x.name) a)) xs) → IsRooted t.root (cond (not b)
          (x ∷ filter (λ x. not (has (ancestry t x.name) a)) xs) (filter (λ x. not (has (ancestry t x.name) a)) xs))
      go true e ih = ih
      go false e ih = (
        (λ i. r.0 (elim i [ inl q ↦ inl q | inr j ↦ inr (names_left x.name xs j) ])),
        up_left x xs (w x (inl refl)) e r.1,
        ih,
      )

  gone : List ℕ
  gone = flat_map config (below t a)

  pub left_nodes : (x : Node) → In x (nodes (tree_without_subtree t a)) → In x (nodes t)
  left_nodes x (inl e) = inl e
  left_nodes x (inr i) = inr (left_from x t.others i)

  -- a partition that stays is not below a
  pub left_stays : (x : Node) → In x (nodes (tree_without_subtree t a)) → has (ancestry t x.name) a ≡ false
  left_stays x (inl e) = rw e root_stays
  left_stays x (inr i) = let h = (In-filter_from (λ x. not (has (ancestry t x.name) a)) x t.others i).1 in
      not-true (has (ancestry t x.name) a) h

  pub stays_in : (x : Node) → In x (nodes t) → has (ancestry t x.name) a ≡ false
      → In x (nodes (tree_without_subtree t a))
  stays_in x (inl e) h = inl e
  stays_in x (inr i) h = inr (left_in x t.others i h)

  pub gone_from : (g : ℕ) → has (flat_map config (below t a)) g ≡ true
      → (x : Node) × In x (nodes t) × (has (ancestry t x.name) a ≡ true) × In g (config x)
  gone_from g e =
      let (x, i, h) = In-flat_from config g (below t a) (has_in g (flat_map config (below t a)) e) in
      let k = In-filter_from (λ x. has (ancestry t x.name) a) x (nodes t) i in
      (x, k.0, k.1, h)

  words_at : (g : ℕ) (b : Bool) → has (flat_map config (below t a)) g ≡ b → is_some (cond b (Some zero_words)
      (t.words g)) ≡ (has (row_pages t.root) g && not (hidden (tree_without_subtree t a) g))
  words_at g true e =
      let (x, i, k, h) = gone_from g e in
      let n : hidden (tree_without_subtree t a) g ≡ false = false_from_ne_true _ (λ q.
      let (y, j, l) = hidden_from (tree_without_subtree t a) g q in
      let same : x ≡ y = one_config t g s x y i (left_nodes y j) h l in
      let st = left_stays y j in
      let w : has (ancestry t y.name) a ≡ true = rw (← same) k in
      grind (arith, st, w)) in
      let r : has (row_pages t.root) g ≡ true = in_has g (row_pages t.root) (elim (root_is_top t s x i) [
        | inl q ↦ absurd (let st = root_stays in
            let w : has (ancestry t t.root.name) a ≡ true = rw (← q) at k in
            grind (arith, st, w))
        | inr v ↦ holds_up t g s t.root x v (In-append_left g (config x) (row_pages x) h)
      ]) in
      ap₂ (λ p q. p && not q) (sym r) (sym n)
  words_at g false e =
      let same : hidden t g ≡ hidden (tree_without_subtree t a) g =
      tests_agree (hidden t g) (hidden (tree_without_subtree t a) g)
      (λ q. let (x, i, h) = hidden_from t g q in
      let st : has (ancestry t x.name) a ≡ false =
      false_from_ne_true _ (λ k. let w = in_has g (flat_map config (below t a)) (In-flat config g x (below t a)
      (In-filter (λ x. has (ancestry t x.name) a) x (nodes t) i k) h) in grind (arith, e, w)) in
      hidden_by (tree_without_subtree t a) g x (stays_in x i st) h)
      (λ q. let (x, i, h) = hidden_from (tree_without_subtree t a) g q in hidden_by t g x (left_nodes x i) h) in
      rw (s.words g, same)

  pub without_subtree-sound : IsSound (tree_without_subtree t a)
  without_subtree-sound = record {
    parents_come_first = rooted_left t.others (λ x i. i) s.parents_come_first;
    boot_root = assumption;
    pages_apart = λ x i. s.pages_apart x (left_nodes x i);
    lent = λ x y i j. s.lent x y (left_from x t.others i) (left_nodes y j);
    named_by_descriptor = λ x i. s.named_by_descriptor x (left_from x t.others i);
    siblings_apart = λ x y i j. s.siblings_apart x y (left_from x t.others i) (left_from y t.others j);
    readable = λ x i. s.readable x (left_nodes x i);
    rights = λ x y i j. s.rights x y (left_from x t.others i) (left_nodes y j);
    tables = λ x i. s.tables x (left_nodes x i);
    no_lines_but_the_root = λ x i. s.no_lines_but_the_root x (left_from x t.others i);
    words = λ g. words_at g (has (flat_map config (below t a)) g) refl;
    lines = s.lines;
    numbers = λ g i l. cleared_small (flat_map config (below t a)) t.words g i (s.numbers g i l);
  }

pub delete-sound : (t : Tree) (running : List ℕ) (p d : ℕ) → IsSound t → IsSound (delete_partition t running p d).tree
delete-sound t running p d s = go (first_met cs) refl
  where
    cs : List (Bool × Status)
    cs = delete_refusals t running p d

    at_child : (o : Option Node) → child_at t p d ≡ o → is_none (child_at t p d) ≡ false
        → IsSound (tree_without_subtree t (child_name t p d))
    at_child None k e = absurd (grind (arith, k, e))
    at_child (Some c) k e =
        let f = child_found t p d c k in
        let is : child_name t p d ≡ c.name = rw k in
        subst (λ q. IsSound (tree_without_subtree t q)) (sym is)
        (without_subtree-sound t c.name s (λ q. not_root t s c f.0 (sym q)))

    go : (o : Option Status) → first_met cs ≡ o → IsSound (answer_unless t o
        (record { status = S.Ok; value = 0; tree = tree_without_subtree t (child_name t p d) })).tree
    go (Some q) e = s
    go None e = at_child (child_at t p d) refl (passed cs e S.NotChild)
