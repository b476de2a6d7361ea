-- Where frames lay out a sound tree, that tree is read off them.
use Rattle.std.proofs.Common.{◌≡◌, ℕ, ◌<◌, ◌&&◌, inl, inr, Bool, true, false, not, cond, List, [], length, refl, sym}
use Rattle.std.proofs.Common.{ap, ap₂, ◌∙◌, Option, Some, None}
use Rattle.std.specs.Prelude.{is_some}
use Rattle.pip_base.specs.Memory.{word_at}
use Rattle.pip_model.specs.Layout.{AreSame, LaysOut}
use Rattle.pip_model.specs.Lists.{In, has}
use Rattle.pip_model.specs.ReadOff.{IsTree, bare_tree, node_read, node_stop, tree_of, tree_of_reading, tree_unless}
use Rattle.pip_model.specs.ReadOff.{tree_of_nodes, visits, walk, words_read}
use Rattle.pip_model.specs.Sound.{IsSound}
use Rattle.pip_model.specs.Tree.{Node, Tree, hidden, row_pages, word_of}
use Rattle.pip_model.proofs.Trees.Ancestry.{root_is_one}
use Rattle.pip_model.proofs.Trees.Free.{tests_agree}
use Rattle.pip_model.proofs.Trees.Free.{hidden_by, hidden_from}
use Rattle.pip_model.proofs.Frames.Laid.{laid_words}
use Rattle.pip_model.proofs.Audit.NodeBack.{node_back, node_passes}
use Rattle.pip_model.proofs.Audit.SameTree.{lays_same, sound_same}
use Rattle.pip_model.proofs.Audit.WalkBack.{tree_walks}

pub is_some_cond : {A : Type 0} (b : Bool) (a : A) → is_some (cond b (Some a) None) ≡ b
is_some_cond true a = refl
is_some_cond false a = refl

-- the tree that is read: what it is, and what it has to do with t
pub record ReadAs (t : Tree) (m : List (List ℕ)) : Type 0 where
  pub tree : Tree
  pub is : tree_of m ≡ IsTree tree
  pub same : AreSame t tree
  pub sound : IsSound tree
  pub lays : LaysOut tree m

module _ (t : Tree) (s : IsSound t) (m : List (List ℕ)) (lays : LaysOut t m) where
  same_with : (others : List Node) → ((z : Node) → In z others → In z t.others)
      → ((z : Node) → In z t.others → In z others) → AreSame t (tree_of_nodes m t.root others)
  same_with others back on = record {
    frames = sym lays.count;
    root = refl;
    to = λ x i. elim i [ inl e ↦ inl e | inr j ↦ inr (on x j) ];
    from = λ x i. elim i [ inl e ↦ inl e | inr j ↦ inr (back x j) ];
    pages = λ g. s.words g ∙ ap (λ h. has (row_pages t.root) g && not h) (hidden_same g)
        ∙ sym (is_some_cond (has (row_pages t.root) g && not (hidden (bare_tree m t.root others) g)) (word_at m g));
    words = λ g i h. word g i h (t.words g) refl;
  }
    where
      hidden_same : (g : ℕ) → hidden t g ≡ hidden (bare_tree m t.root others) g
      hidden_same g = tests_agree (hidden t g) (hidden (bare_tree m t.root others) g)
          (λ q. let (x, i, h) = hidden_from t g q in
          hidden_by (bare_tree m t.root others) g x (elim i [ inl e ↦ inl e | inr j ↦ inr (on x j) ]) h)
          (λ q. let (x, i, h) = hidden_from (bare_tree m t.root others) g q in
          hidden_by t g x (elim i [ inl e ↦ inl e | inr j ↦ inr (back x j) ]) h)

      open_page : (g : ℕ) (o : Option (ℕ → ℕ)) → t.words g ≡ o
          → (has (row_pages t.root) g && not (hidden (bare_tree m t.root others) g)) ≡ is_some o
      open_page g o e =
          rw (← hidden_same g, ← s.words g, e)

      word : (g i : ℕ) → i < 1024 → (o : Option (ℕ → ℕ)) → t.words g ≡ o
          → word_of (t.words g) i ≡ word_of (words_read m (bare_tree m t.root others) g) i
      word g i h None e =
          cc (open_page g None e)
      word g i h (Some w) e = cc (laid_words t s m lays g i w e h, open_page g (Some w) e)

  pub read_back : ReadAs t m
  unfolding tree_of same_with
  read_back =
      let all = tree_walks t s m lays in
      let one = root_is_one t s in
      let count = lays.count in
      let root : node_read m 1 ≡ t.root = rw (← one, node_back t s m lays t.root (inl refl)) in
      let passes : node_stop m 1 ≡ None = rw (← one, node_passes t s m lays t.root (inl refl)) in
      let others = all.others in
      let u : Tree = tree_of_nodes m t.root others in
      let same : AreSame t u = same_with others all.to all.from in
      let e : tree_of m ≡ IsTree u =
      rw (passes, ap₂ (λ r n. tree_of_reading m r (walk m r n (visits m r) [])) root count, all.complete) in
      record {
        tree = u;
        is = e;
        same = same;
        sound = sound_same t u s same all.rooted;
        lays = lays_same t u s same all.rooted m lays;
      }
