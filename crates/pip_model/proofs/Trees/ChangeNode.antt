-- A tree of which one child changes, and maybe words: what is asked of the child so that the tree stays sound.
use Rattle.std.proofs.Common.{◌≡◌, ◌≢◌, ℕ, ◌==◌, ◌&&◌, ◌⊎◌, cond, inl, inr, Bool, true, false, not, List, [], ◌∷◌, refl}
use Rattle.std.proofs.Common.{sym, ap, ◌∙◌, subst, eq-eqb, Option}
use Rattle.std.specs.Prelude.{is_some, ◌<◌}
use Rattle.std.proofs.lemmas.Bool.{cases_eq, ne_eqb}
use Rattle.pip_model.specs.Answers.{child_name}
use Rattle.pip_model.specs.Boot.{boot_root}
use Rattle.pip_model.specs.Lists.{In, has}
use Rattle.pip_model.specs.Sound.{AreApart, AreLines, CanRead, GivesNoMore, RowsHaveTables, IsLentBy, IsNamedByBase}
use Rattle.pip_model.specs.Sound.{IsRooted, IsSound, IsWord, KeepsPagesApart}
use Rattle.pip_model.specs.Tree.{Node, Tree, change_at, change_node, config, hidden, names_of, nodes, row_pages}
use Rattle.pip_model.specs.Tree.{word_of}
use Rattle.pip_model.proofs.Trees.Ancestors.{not_root, same_name}
use Rattle.pip_model.proofs.Trees.Free.{hidden_by, hidden_from}
use Rattle.pip_model.proofs.OnLists.Members.{In-map, In-map_from}
use Rattle.pip_model.proofs.Trees.Changes.{each_child, each_node, each_other, each_siblings, hidden_kept, rooted}

-- what a change of one node keeps of each
pub change-keeps : {A : Type 0} (c : ℕ) (f : Node → Node) (get : Node → A) → ((x : Node) → get (f x) ≡ get x)
    → (x : Node) → get (change_at c f x) ≡ get x
change-keeps {A} c f get same x = go (x.name == c)
  where
    go : (b : Bool) → ◌≡◌ {A = A} (get (cond b (f x) x)) (get x)
    go true = same x
    go false = refl

-- the node of that name changes, and no other does
pub change-here : (c : ℕ) (f : Node → Node) (x : Node) → x.name ≡ c → change_at c f x ≡ f x
change-here c f x e = rw (eq-eqb x.name c e)

pub change-else : (c : ℕ) (f : Node → Node) (x : Node) → x.name ≢ c → change_at c f x ≡ x
change-else c f x ne = rw (ne_eqb x.name c ne)

-- the tree where the child of p with its descriptor at d becomes what f makes of it, with these words
abbrev pub with_child : Tree → ℕ → ℕ → (Node → Node) → (ℕ → Option (ℕ → ℕ)) → Tree
with_child t p d f words = record (change_node (child_name t p d) f t) { words = words }

-- no node but the root is its own parent
up_in : (root : Node) (xs : List Node) (x : Node) → IsRooted root xs → In x xs → x.up ≢ x.name
up_in root [] x r i = absurd i
up_in root (y ∷ ys) x r (inl e) =
    λ same. r.0 (subst (λ k. In k (names_of (root ∷ ys))) (rw (← e, same, e)) r.1)
up_in root (y ∷ ys) x r (inr i) = up_in root ys x r.2 i

pub up-apart : (t : Tree) → IsSound t → (x : Node) → In x t.others → x.up ≢ x.name
up-apart t s x i = up_in t.root t.others x s.parents_come_first i

-- what is asked of the child c that becomes d: by itself, with its parent, its siblings and its children
pub record MayBecome (t : Tree) (c d : Node) : Type 0 where
  pub child : In c t.others
  pub apart : KeepsPagesApart d
  pub named : IsNamedByBase d
  pub readable : CanRead d
  pub tables : RowsHaveTables d
  pub quiet : d.pending ≡ []
  pub lent : (y : Node) → In y (nodes t) → c.up ≡ y.name → IsLentBy y d × GivesNoMore y d
  pub siblings : (y : Node) → In y t.others → y.up ≡ c.up → y.name ≢ c.name → AreApart y d
  pub lends : (x : Node) → In x t.others → x.up ≡ c.name → IsLentBy d x × GivesNoMore d x

module _ (t : Tree) (s : IsSound t) (c : Node) (f : Node → Node) (names : (x : Node)
    → (f x).name ≡ x.name) (ups : (x : Node) → (f x).up ≡ x.up) (k : MayBecome t c (f c)) where
  abbrev F : Node → Node
  F = change_at c.name f

  -- each node is the child, or stays
  pub one-changes : (x : Node) → In x (nodes t)
      → ((x ≡ c) × (change_at c.name f x ≡ f c)) ⊎ ((x.name ≢ c.name) × (change_at c.name f x ≡ x))
  one-changes x i = elim (cases_eq x.name c.name) [
    | inl e ↦ let is = same_name t x c s i (inr k.child) e in inl (is, rw (change-here c.name f x e, is))
    | inr ne ↦ inr (ne, change-else c.name f x ne)
  ]

  pub root-stays : change_at c.name f t.root ≡ t.root
  root-stays = change-else c.name f t.root (not_root t s c k.child)

  -- what is hidden afterwards: by the child's new configuration, or by another node's
  pub hidden-after : (g : ℕ) → hidden (change_node c.name f t) g ≡ true
      → In g (config (f c)) ⊎ ((x : Node) × In x (nodes t) × (x.name ≢ c.name) × In g (config x))
  unfolding one-changes
  hidden-after g h =
      let (y, i, on) = hidden_from (change_node c.name f t) g h in
      let (x, j, e) = In-map_from F y (nodes t) i in
      elim (one-changes x j) [
        | inl d ↦ inl (rw (← d.1, ← e) on)
        | inr d ↦ inr (x, j, d.0, rw (← d.1, ← e) on)
      ]

  pub hidden-child : (g : ℕ) → In g (config (f c)) → hidden (change_node c.name f t) g ≡ true
  hidden-child g on = hidden_by (change_node c.name f t) g (f c) (subst (λ z. In z (nodes (change_node c.name f t)))
      (change-here c.name f c refl) (In-map F c (nodes t) (inr k.child))) on

  pub hidden-other : (g : ℕ) (x : Node) → In x (nodes t) → x.name ≢ c.name → In g (config x)
      → hidden (change_node c.name f t) g ≡ true
  hidden-other g x i ne on = hidden_by (change_node c.name f t) g x
      (subst (λ z. In z (nodes (change_node c.name f t))) (change-else c.name f x ne) (In-map F x (nodes t) i)) on

  -- a property of nodes, and one of children with their parents
  each_of : (P : Node → Type 0) → P (f c) → (x : Node) → In x (nodes t) → P x → P (F x)
  unfolding one-changes
  each_of P new x i old = elim (one-changes x i) [ inl e ↦ rw e.1 new | inr e ↦ rw e.1 old ]

  pair_of : (R : Node → Node → Type 0) → ((y : Node) → In y (nodes t) → c.up ≡ y.name → R y (f c))
      → ((x : Node) → In x t.others → x.up ≡ c.name → R (f c) x)
      → ((x y : Node) → In x t.others → In y (nodes t) → x.up ≡ y.name → R y x) → (x y : Node) → In x t.others
      → In y (nodes t) → x.up ≡ y.name → R (F y) (F x)
  unfolding one-changes
  pair_of R above under old x y i j u = elim (one-changes x (inr i)) [
    | inl e ↦ elim (one-changes y j) [
      | inl d ↦ absurd (up-apart t s c k.child (cc (e.0, d.0)))
      | inr d ↦ rw d.1 (subst (R y) (sym e.1) (above y j (sym (ap (λ z. z.up) e.0) ∙ u)))
    ]
    | inr e ↦ elim (one-changes y j) [
      | inl d ↦ rw d.1 (subst (R (f c)) (sym e.1) (under x i (u ∙ ap (λ z. z.name) d.0)))
      | inr d ↦ rw d.1 (subst (R y) (sym e.1) (old x y i j u))
    ]
  ]

  siblings_of : (x y : Node) → In x t.others → In y t.others → x.up ≡ y.up → x.name ≢ y.name → AreApart (F x) (F y)
  unfolding one-changes
  siblings_of x y i j u ne = elim (one-changes x (inr i)) [
    | inl e ↦ elim (one-changes y (inr j)) [
      | inl d ↦ absurd (ne (rw (e.0, ← d.0)))
      | inr d ↦ rw d.1 (subst (λ z. AreApart z y) (sym e.1)
          (λ g h l. k.siblings y j (sym u ∙ ap (λ z. z.up) e.0) d.0 g l h))
    ]
    | inr e ↦ elim (one-changes y (inr j)) [
      | inl d ↦ rw d.1 (subst (λ z. AreApart z (f c)) (sym e.1) (k.siblings x i (u ∙ ap (λ z. z.up) d.0) e.0))
      | inr d ↦ rw d.1 (subst (λ z. AreApart z y) (sym e.1) (s.siblings_apart x y i j u ne))
    ]
  ]

  -- the tree with other words
  pub change_words-sound : (words : ℕ → Option (ℕ → ℕ))
      → ((g : ℕ) → is_some (words g) ≡ (has (row_pages t.root) g && not (hidden (change_node c.name f t) g)))
      → ((g i : ℕ) → i < 1024 → IsWord (word_of (words g) i))
      → IsSound (record (change_node c.name f t) { words = words })
  unfolding root-stays each_of pair_of siblings_of
  change_words-sound words seen small =
      let name = change-keeps c.name f (λ z. z.name) names in
      let up = change-keeps c.name f (λ z. z.up) ups in
      record {
        parents_come_first = rooted F t name up s.parents_come_first;
        boot_root = record {
          small = s.boot_root.small;
          large = s.boot_root.large;
          same = rw root-stays s.boot_root.same;
        };
        pages_apart = each_node F t KeepsPagesApart (λ x i. each_of KeepsPagesApart k.apart x i (s.pages_apart x i));
        lent = each_child F t name up IsLentBy
            (pair_of IsLentBy (λ y j u. (k.lent y j u).0) (λ x i u. (k.lends x i u).0) s.lent);
        named_by_descriptor =
            each_other F t IsNamedByBase (λ x i. each_of IsNamedByBase k.named x (inr i) (s.named_by_descriptor x i));
        siblings_apart = each_siblings F t name up AreApart siblings_of;
        readable = each_node F t CanRead (λ x i. each_of CanRead k.readable x i (s.readable x i));
        rights = each_child F t name up GivesNoMore
            (pair_of GivesNoMore (λ y j u. (k.lent y j u).1) (λ x i u. (k.lends x i u).1) s.rights);
        tables = each_node F t RowsHaveTables (λ x i. each_of RowsHaveTables k.tables x i (s.tables x i));
        no_lines_but_the_root = each_other F t (λ x. x.pending
            ≡ []) (λ x i. each_of (λ z. z.pending ≡ []) k.quiet x (inr i) (s.no_lines_but_the_root x i));
        words = λ g. seen g ∙ ap (λ z. has (row_pages z) g && not (hidden (change_node c.name f t) g)) (sym root-stays);
        lines = rw root-stays s.lines;
        numbers = small;
      }

  -- where its configuration stays, so do the words
  pub change_node-sound : ((x : Node) → config (f x) ≡ config x) → IsSound (change_node c.name f t)
  unfolding change_words-sound
  change_node-sound same = change_words-sound t.words (λ g. s.words g ∙ ap (λ b. has (row_pages t.root) g && not b)
      (sym (hidden_kept F t (change-keeps c.name f config same) g))) s.numbers
