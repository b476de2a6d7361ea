-- The laws of deletePartition.
use Rattle.std.proofs.Common.{◌≡◌, ◌≢◌, ℕ, inl, inr, Bool, true, false, cond, List, [], ◌∷◌, refl, sym, ap, ◌∙◌, subst}
use Rattle.std.proofs.Common.{arith, Option, Some, None}
use Rattle.std.specs.Prelude.{flat_map}
use Rattle.std.proofs.lemmas.Bool.{false_from_ne_true}
use Rattle.pip_base.specs.declared.outcome.Status.{Status}
use Rattle.pip_base.specs.declared.outcome.Status.TheVariants as S
use Rattle.pip_model.specs.Answers.{Five, accept, child_name, first_met, some_null, some_unaligned}
use Rattle.pip_model.specs.Boot.{zero_words}
use Rattle.pip_model.specs.DeletePartition.{delete_partition, delete_refusals, some_run, tree_without_subtree}
use Rattle.pip_model.specs.declared.call_name.MemoryCall.TheVariants.{DeletePartition}
use Rattle.pip_model.specs.Lists.{In, has}
use Rattle.pip_model.specs.Local.{IsBelow, IsOutside}
use Rattle.pip_model.specs.Sound.{IsSound}
use Rattle.pip_model.specs.Tree.{Node, Tree, ancestry, below, child_at, config, hidden, node, nodes, row_pages, word_of}
use Rattle.pip_model.specs.Worlds.{World, running}
use Rattle.pip_model.proofs.OnLists.Members.{In-append_left, In-filter, In-filter_from, In-flat, In-flat_from}
use Rattle.pip_model.proofs.OnLists.Members.{In-map_from, any_from, any_some, has_in, in_has}
use Rattle.pip_model.proofs.Trees.Ancestors.{holds_up, name_in, not_root}
use Rattle.pip_model.proofs.Trees.Ancestry.{ancestry_down, ancestry_moves, ancestry_over, ancestry_trans, named_node}
use Rattle.pip_model.proofs.Trees.Free.{IsName, hidden_by, node_found, passed, tests_agree}
use Rattle.pip_model.specs.Happens.{answer}
use Rattle.std.proofs.Common.{◌↔◌}
use Rattle.pip_model.proofs.Calls.Delete as D
use Rattle.pip_model.proofs.Calls.Delete.{delete-sound}
use Rattle.pip_model.proofs.Locality.Agree.{AgreeAnswers, AgreeTrees, Agreeing, agree_at_child, agree_unless}
use Rattle.pip_model.proofs.Locality.Agree.{child_name-same, child_not_above, refused-same}
use Rattle.pip_model.proofs.Locality.Leaves.{LeavesTree}
use Rattle.pip_model.proofs.Trees.Children.{child_in, IsNamed, named_child, named_is}
use Rattle.pip_model.proofs.Calls.Laws.{Keeps, MemoryLaws, unless}

-- the configuration of a subtree
pub gone_in : (t : Tree) (c g : ℕ) (x : Node) → IsBelow t c x → In g (config x) → In g (flat_map config (below t c))
gone_in t c g x (i, l) h =
    let j = In-filter (λ x. has (ancestry t x.name) c) x (nodes t) i (in_has c (ancestry t x.name) l) in
    In-flat config g x (below t c) j h

gone_out : (t : Tree) (c g : ℕ) → In g (flat_map config (below t c)) → (x : Node) × IsBelow t c x × In g (config x)
gone_out t c g h =
    let (x, i, k) = In-flat_from config g (below t c) h in
    let f = In-filter_from (λ x. has (ancestry t x.name) c) x (nodes t) i in
    (x, (f.0, has_in c (ancestry t x.name) f.1), k)

-- a page that is no page of it keeps its words
words_kept : (t : Tree) (c g : ℕ) → ((x : Node) → IsBelow t c x → In g (config x) → ⊥)
    → (tree_without_subtree t c).words g ≡ t.words g
words_kept t c g h = rw (false_from_ne_true _ (λ q. let (x, b, k) = gone_out t c g (has_in g _ q) in h x b k))

pub deleted_words : (t : Tree) (c g : ℕ) → hidden t g ≡ false → (tree_without_subtree t c).words g ≡ t.words g
deleted_words t c g h = words_kept t c g (λ x b k. let e = hidden_by t g x b.0 k in absurd (grind (arith, h, e)))

-- the parent of a node that stays does
stays_up : (t : Tree) (c : ℕ) → IsSound t → (x y : Node) → In x t.others → In y (nodes t) → x.up ≡ y.name
    → has (ancestry t x.name) c ≡ false → has (ancestry t y.name) c ≡ false
stays_up t c s x y i j u e = false_from_ne_true _ (λ h.
    let k = in_has c (ancestry t x.name) (ancestry_down t s x y i u c (has_in c (ancestry t y.name) h)) in
    grind (arith, e, k))

module _ (t : Tree) (c : ℕ) (s : IsSound t) (other : c ≢ t.root.name) where
  abbrev left : Tree
  left = tree_without_subtree t c

  left_sound : IsSound left
  left_sound = D.without_subtree-sound t c s other

  -- a partition that stays keeps its line, and its node
  line_left : (x : Node) → In x (nodes t) → has (ancestry t x.name) c ≡ false → (q : ℕ) → In q (ancestry t x.name)
      → In q (ancestry left x.name)
  line_left x i e q h =
      ancestry_moves t left s left_sound (λ x. has (ancestry t x.name) c ≡ false) (stays_up t c s)
      (D.stays_in t c s other) x i e q h

  line_back : (x : Node) → In x (nodes left) → (q : ℕ) → In q (ancestry left x.name) → In q (ancestry t x.name)
  line_back x i q h =
      ancestry_moves left t left_sound s (λ x. Unit {0}) (λ x y i j u h. tt)
      (λ x i h. D.left_nodes t c s other x i) x i tt q h

  line_same : (q n : ℕ) → IsName left q → In n (ancestry t q) ↔ In n (ancestry left q)
  line_same q n i =
      let (y, m, e) = In-map_from (λ y. y.name) q (nodes left) i in
      let old = D.left_nodes t c s other y m in
      let still = D.left_stays t c s other y m in (
        (λ h.
            let k = subst (λ q. In n (ancestry t q)) e h in
            rw e (line_left y old still n k)),
        (λ h.
            let k = subst (λ q. In n (ancestry left q)) e h in
            rw e (line_back y m n k)),
      )

  same_node : (q : ℕ) → IsName left q → node left q ≡ node t q
  same_node q i =
      let (y, j, e) = In-map_from (λ y. y.name) q (nodes left) i in
      cc (named_node left q left_sound y j (sym e), named_node t q s y (D.left_nodes t c s other y j) (sym e))

  -- what runs isn't in the subtree
  stays : (rs : List ℕ) → some_run rs (below t c) ≡ false → (q : ℕ) → In q rs → IsName t q → IsName left q
  stays rs e q i j =
      let (x, k, z) = In-map_from (λ x. x.name) q (nodes t) j in
      let f : has (ancestry t x.name) c ≡ false = false_from_ne_true _ (λ h.
      let y = In-filter (λ x. has (ancestry t x.name) c) x (nodes t) k h in
      let r = any_some (λ x. has rs x.name) x (below t c) y (in_has x.name rs (rw (← z) i)) in
      grind (arith, e, r)) in
      subst (IsName left) (sym z) (name_in x (nodes left) (D.stays_in t c s other x k f))

-- a child of p goes
module _ (t : Tree) (p d : ℕ) (s : IsSound t) (n : IsName t p) (c : Node) (k : IsNamed t p d c) where
  abbrev rest : Tree
  rest = tree_without_subtree t c.name

  not_top : c.name ≢ t.root.name
  not_top q = not_root t s c k.child (sym q)

  p_stays : IsName rest p
  p_stays =
      let f = node_found t p n in
      let e : has (ancestry t (node t p).name) c.name ≡ false = false_from_ne_true _ (λ h.
      let i = subst (λ q. In c.name (ancestry t q)) f.1 (has_in c.name _ h) in
      child_not_above t p s n c k.child k.up i) in
      subst (IsName rest) f.1 (name_in (node t p) (nodes rest) (D.stays_in t c.name s not_top (node t p) f.0 e))

  below_p : (y : Node) → IsBelow t c.name y → In p (ancestry t y.name)
  below_p y b = ancestry_trans t s y b.0 p c.name b.1 (child_in t p s n d c k.found).1

  -- a page of a node that goes is a row of p
  row_of_p : (g : ℕ) (y : Node) → IsBelow t c.name y → In g (config y) → In g (row_pages (node t p))
  row_of_p g y b i =
      let (z, j, e, o) = ancestry_over t s y b.0 p (below_p y b) in
      let q : node t p ≡ z = named_node t p s z j e in
      rw q (elim o [
        | inl same ↦ let l = subst (λ q. In c.name (ancestry t q)) (ap (λ z. z.name) (sym same) ∙ e) b.1 in
            absurd (child_not_above t p s n c k.child k.up l)
        | inr v ↦
            holds_up t g s z y v (In-append_left g (config y) (row_pages y) i)
      ])

  leaves : LeavesTree p t rest
  leaves = record {
    outside = λ y. (to y, from y);
    own = ap {A = Node} (λ z. record z { masked = false }) (sym (same_node t c.name s not_top p p_stays));
    words = λ g h. words_kept t c.name g (λ x b i. h (row_of_p g x b i));
    lines = λ q m j l. line_same t c.name s not_top q m l;
  }
    where
      to : (y : Node) → IsOutside t p y → IsOutside rest p y
      to y (j, h) =
          let e : has (ancestry t y.name) c.name ≡ false = false_from_ne_true _ (λ i.
          h (below_p y (j, has_in c.name _ i))) in
          let l = D.stays_in t c.name s not_top y j e in
          (l, (λ i. h (line_back t c.name s not_top y l p i)))

      from : (y : Node) → IsOutside rest p y → IsOutside t p y
      from y (j, h) =
          let l = D.left_nodes t c.name s not_top y j in
          (l, (λ i. h (line_left t c.name s not_top y l (D.left_stays t c.name s not_top y j) p i)))

module _ (w : World) (p : ℕ) (a : Five) (s : IsSound w.tree) (n : IsName w.tree p) where
  abbrev refusals : List (Bool × Status)
  refusals = delete_refusals w.tree (running w) p a.x0

  accepted : first_met refusals ≡ None
      → Keeps DeletePartition w p a (accept 0 (tree_without_subtree w.tree (child_name w.tree p a.x0)))
  accepted e =
      let (c, k) = named_child w.tree p a.x0 (passed refusals e S.NotChild) in
      let other = not_top w.tree p a.x0 s n c k in
      let still = subst (λ q. some_run (running w) (below w.tree q) ≡ false) k.name (passed refusals e S.Running) in
      subst (λ q. Keeps DeletePartition w p a (accept 0 (tree_without_subtree w.tree q))) (sym k.name) (record {
        stays = stays w.tree c.name s other (running w) still;
        value = omega arith;
        up = λ q i j. rw (same_node w.tree c.name s other q j);
        rows = λ q i j h. rw (same_node w.tree c.name s other q j);
        words = λ l g h i. deleted_words w.tree c.name g h;
        entries = λ h. cc;
        leaves = leaves w.tree p a.x0 s n c k;
      })

  keeps : Keeps DeletePartition w p a (answer DeletePartition w p a)
  keeps = unless accepted

-- a partition below p in the one tree is below it in the other, where the same subtree goes
below_to : (t u : Tree) (p c : ℕ) (s : IsSound t) (r : IsSound u) (other : c ≢ t.root.name) (other' : c ≢ u.root.name)
    → ((y : Node) → IsBelow t p y → IsBelow u p y) → ((y : Node) → IsBelow u c y → IsBelow t c y)
    → (y : Node) → IsBelow (tree_without_subtree t c) p y → IsBelow (tree_without_subtree u c) p y
below_to t u p c s r other other' to from y (i, l) =
    let j = D.left_nodes t c s other y i in
    let e = D.left_stays t c s other y i in
    let b = to y (j, line_back t c s other y i p l) in
    let f : has (ancestry u y.name) c ≡ false = false_from_ne_true _ (λ h.
    let k = in_has c (ancestry t y.name) (from y (b.0, has_in c (ancestry u y.name) h)).1 in
    grind (arith, e, k)) in
    (D.stays_in u c r other' y b.0 f, line_left u c r other' y b.0 f p b.1)

-- the one of two pages of words that are cleared alike
cleared_same : (b d : Bool) (x y : Option (ℕ → ℕ)) (i : ℕ) → b ≡ d → word_of y i ≡ word_of x i
    → word_of (cond d (Some zero_words) y) i ≡ word_of (cond b (Some zero_words) x) i
cleared_same true true x y i e h = refl
cleared_same true false x y i e h = cc
cleared_same false true x y i e h = cc
cleared_same false false x y i e h = h

-- a node that runs in the subtree, in the one tree and in the other
run_to : (t u : Tree) (rs ts : List ℕ) (c : ℕ) → ((x : Node) → IsBelow t c x → IsBelow u c x)
    → ((x : Node) → IsBelow t c x → has rs x.name ≡ has ts x.name)
    → some_run rs (below t c) ≡ true → some_run ts (below u c) ≡ true
run_to t u rs ts c to run h =
    let (x, i, k) = any_from (λ x. has rs x.name) (below t c) h in
    let f = In-filter_from (λ x. has (ancestry t x.name) c) x (nodes t) i in
    let b : IsBelow t c x = (f.0, has_in c (ancestry t x.name) f.1) in
    let v = to x b in
    let l = In-filter (λ x. has (ancestry u x.name) c) x (nodes u) v.0 (in_has c (ancestry u x.name) v.1) in
    any_some (λ x. has ts x.name) x (below u c) l (rw (← run x b) k)

module _ {p : ℕ} {t u : Tree} (g : Agreeing p t u) where
  some_run_same : (rs ts : List ℕ) (c : ℕ) → AgreeTrees c t u
      → ((x : Node) → IsBelow t c x → has rs x.name ≡ has ts x.name) → some_run rs (below t c) ≡ some_run ts (below u c)
  some_run_same rs ts c b run = tests_agree _ _
      (run_to t u rs ts c b.to run) (run_to u t ts rs c b.from (λ x i. sym (run x (b.from x i))))

  -- the child is a child in both
  other_in : (c : Node) → In c t.others → In c (nodes u) → In c u.others
  other_in c i (inl q) =
      let same_root = ap (λ z. z.name) g.sound.boot_root.same ∙ sym (ap (λ z. z.name) g.sound'.boot_root.same) in
      absurd (not_root t g.sound c i (rw (same_root, ← q)))
  other_in c i (inr j) = j

  gone_same : (c : ℕ) → AgreeTrees c t u → (h : ℕ)
      → has (flat_map config (below t c)) h ≡ has (flat_map config (below u c)) h
  gone_same c a h = tests_agree _ _
      (λ q. let (x, k, l) = gone_out t c h (has_in h _ q) in in_has h _ (gone_in u c h x (a.to x k) l))
      (λ q. let (x, k, l) = gone_out u c h (has_in h _ q) in in_has h _ (gone_in t c h x (a.from x k) l))

  agree_deleted : (d : ℕ) (c : Node) → IsNamed t p d c
      → AgreeTrees p (tree_without_subtree t c.name) (tree_without_subtree u c.name)
  agree_deleted d c k =
      let a = (agree_at_child g d c k.found).trees in
      let i = other_in c k.child (g.trees.to c (child_in t p g.sound g.name d c k.found)).0 in
      let other = not_top t p d g.sound g.name c k in
      let other' : c.name ≢ u.root.name = λ q. not_root u g.sound' c i (sym q) in
      let own = same_node t c.name g.sound other p (p_stays t p d g.sound g.name c k) in
      record {
        to = below_to t u p c.name g.sound g.sound' other other' g.trees.to a.from;
        from = below_to u t p c.name g.sound' g.sound other' other g.trees.from a.to;
        words = λ h i j l.
            let same = g.trees.words h i (rw (← own) j) l in
            cleared_same _ _ (t.words h) (u.words h) i (gone_same c.name a h) same;
      }

  module _ (rs ts : List ℕ) (d : ℕ) (run : (x : Node) → IsBelow t p x → has rs x.name ≡ has ts x.name) where
    run_same : (c : Node) → child_at t p d ≡ Some c
        → some_run rs (below t (child_name t p d)) ≡ some_run ts (below u (child_name u p d))
    run_same c k =
        let name = (named_is t p d c k).name in
        let b = child_in t p g.sound g.name d c k in
        let under = λ (x : Node) (w : IsBelow t c.name x).
        run x (w.0, ancestry_trans t g.sound x w.0 p c.name w.1 b.1) in
        cc (some_run_same rs ts c.name (agree_at_child g d c k).trees under, child_name-same g d)

    refusals_same : first_met (delete_refusals t rs p d) ≡ first_met (delete_refusals u ts p d)
    refusals_same = refused-same g (some_unaligned (d ∷ [])) (some_null (d ∷ [])) d _ _ (λ c k.
        ap (λ b. (b, S.Running) ∷ []) (run_same c k))

    agrees : AgreeAnswers p (delete_partition t rs p d) (delete_partition u ts p d)
    agrees = agree_unless g refusals_same (λ h.
        let (c, k) = named_child t p d (passed (delete_refusals t rs p d) h S.NotChild) in
        let gone : ℕ → ℕ → Type 0 = λ q r. AgreeTrees p (tree_without_subtree t q) (tree_without_subtree u r) in
        let same = subst (λ q. gone q q) (sym k.name) (agree_deleted d c k) in
        record { status = refl; value = refl; tree = subst (gone (child_name t p d)) (child_name-same g d) same })

pub laws : MemoryLaws DeletePartition
laws = record {
  sound = λ w p a s n l. delete-sound w.tree (running w) p a.x0 s;
  keeps = keeps;
  agrees = λ w v p a g h. agrees g (running w) (running v) a.x0 (h refl);
  caches = λ w cs p a. refl;
}
