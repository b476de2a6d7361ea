-- A tree that is the same as a sound one, but for the order of its nodes, is sound and has the same layout.
use Rattle.std.proofs.Common.{◌≡◌, ℕ, ◌<◌, ◌==◌, ◌&&◌, inl, inr, false, not, cond, List, [], refl, sym, ap, ap₂, ◌∙◌}
use Rattle.std.proofs.Common.{subst, arith, eqb-true, Option, Some, None}
use Rattle.std.specs.Prelude.{find, is_some}
use Rattle.pip_model.specs.Boot.{boot_root}
use Rattle.pip_model.specs.Layout.{AreSame, LaysOut, config_word, layout, owned_word}
use Rattle.pip_model.specs.FullRows.{from_word, full_rows, given_by, given_word, vpage_in_parent, place_word, row_word}
use Rattle.pip_model.specs.NodeWords.{role, role_word, Role}
use Rattle.pip_model.specs.Lists.{In, has}
use Rattle.pip_model.specs.Sound.{AreLines, IsRooted, IsSound, IsWord}
use Rattle.pip_model.specs.Tree.{Node, Tree, children, config, find_node, hidden, holder, holds, nodes, row_pages}
use Rattle.pip_model.specs.Tree.{word_of}
use Rattle.pip_model.proofs.Trees.Ancestors.{one_config, root_differs, same_name}
use Rattle.pip_model.proofs.Trees.Free.{tests_agree}
use Rattle.pip_model.proofs.Trees.Free.{hidden_by, hidden_from}
use Rattle.pip_model.proofs.Frames.Laid.{full_same}
use Rattle.pip_model.proofs.Locality.Reads.{holder_unique}
use Rattle.pip_model.proofs.Locality.Reads.{find_agrees}
use Rattle.pip_model.proofs.OnLists.Members.{In-filter, In-filter_from, has_in}

module _ (t u : Tree) (s : IsSound t) (a : AreSame t u) (rooted : IsRooted u.root u.others) where
  other_back : (x : Node) → In x u.others → In x t.others
  other_back x i = elim (a.from x (inr i)) [
    | inr j ↦ j
    | inl e ↦
        absurd (root_differs u.root u.others rooted x i (rw (← a.root, ← e)))
  ]

  other_on : (x : Node) → In x t.others → In x u.others
  other_on x i = elim (a.to x (inr i)) [
    | inr j ↦ j
    | inl e ↦ absurd (root_differs t.root t.others s.parents_come_first x i
        (rw (a.root, ← e)))
  ]

  hidden_same : (g : ℕ) → hidden t g ≡ hidden u g
  hidden_same g = tests_agree (hidden t g) (hidden u g)
      (λ q. let (x, i, h) = hidden_from t g q in hidden_by u g x (a.to x i) h)
      (λ q. let (y, j, h) = hidden_from u g q in hidden_by t g y (a.from y j) h)

  pub sound_same : IsSound u
  unfolding other_back hidden_same
  sound_same =
      let f = a.frames in
      let least = s.boot_root.small in
      let most = s.boot_root.large in
      record {
        parents_come_first = rooted;
        boot_root = record {
          small = omega arith;
          large = omega arith;
          same = rw (← bare a.root, s.boot_root.same, f);
        };
        pages_apart = λ x i. s.pages_apart x (a.from x i);
        lent = λ x y i j e. s.lent x y (other_back x i) (a.from y j) e;
        named_by_descriptor = λ x i. s.named_by_descriptor x (other_back x i);
        siblings_apart = λ x y i j e n. s.siblings_apart x y (other_back x i) (other_back y j) e n;
        readable = λ x i. s.readable x (a.from x i);
        rights = λ x y i j e. s.rights x y (other_back x i) (a.from y j) e;
        tables = λ x i. s.tables x (a.from x i);
        no_lines_but_the_root = λ x i. s.no_lines_but_the_root x (other_back x i);
        words = λ g. rw (← a.pages g, s.words g, ap₂ (λ r h. has (row_pages r) g && not h) a.root (hidden_same g));
        lines = rw (← a.root) s.lines;
        numbers = λ g i h. rw (← a.words g i h) (s.numbers g i h);
      }
    where
      bare : {x y : Node} → x ≡ y
          → ◌≡◌ {A = Node} (record x { masked = false; pending = [] }) (record y { masked = false; pending = [] })
      bare e i = record (e i) { masked = false; pending = [] }

  -- ---- the layout

  find_same : (q : ℕ) → find_node t q ≡ find_node u q
  find_same q = find_agrees (λ x. x.name == q) (nodes t) (nodes u) a.to a.from
      (λ x y i j e f. same_name t x y s i j (cc (eqb-true x.name q e, eqb-true y.name q f)))

  holder_same : (p g : ℕ) → holder t p g ≡ holder u p g
  unfolding other_on other_back
  holder_same p g = find_agrees (λ x. holds x g) (children t p) (children u p)
      (λ x i. let k = In-filter_from (λ z. z.up == p) x t.others i in
      In-filter (λ z. z.up == p) x u.others (other_on x k.0) k.1)
      (λ x i. let k = In-filter_from (λ z. z.up == p) x u.others i in
      In-filter (λ z. z.up == p) x t.others (other_back x k.0) k.1)
      (λ x y i j e f. holder_unique t p g s x y i j e f)

  given_same : (p g : ℕ) → given_word t p g ≡ given_word u p g
  unfolding given_word holder_same
  given_same p g = rw (holder_same p g)

  from_same : (x : Node) (g : ℕ) → from_word t x g ≡ from_word u x g
  unfolding from_word find_same
  from_same x g = ap₂ (λ r o. cond (x.name == r.name) 0 (place_word (vpage_in_parent o g))) a.root (find_same x.up)

  rows_same : (x : Node) (v : ℕ) → full_rows t x v ≡ full_rows u x v
  unfolding hidden_same given_same from_same
  rows_same x v =
      full_same t u x x v refl (λ q e. (hidden_same q.frame, given_same x.name q.frame, from_same x q.frame))

  config_same : (x : Node) (o : Option Role) (i : ℕ) → config_word t x o i ≡ config_word u x o i
  unfolding rows_same
  config_same x None i = refl
  config_same x (Some r) i = ap (λ cells. role_word x cells r i) (λ k level v. row_word level (rows_same x v k))

  owned_same : (f i : ℕ) → owned_word t f i (find (λ x. has (config x) f) (nodes t))
      ≡ owned_word u f i (find (λ x. has (config x) f) (nodes u))
  unfolding config_same
  owned_same f i = ap (owned_word t f i) (find_agrees (λ x. has (config x) f) (nodes t) (nodes u) a.to a.from
      (λ x y j k d e. one_config t f s x y j k (has_in f (config x) d) (has_in f (config y) e)))
      ∙ go (find (λ x. has (config x) f) (nodes u))
    where
      go : (o : Option Node) → owned_word t f i o ≡ owned_word u f i o
      go None = refl
      go (Some x) = config_same x (role x f) i

  pub layout_same : (f i : ℕ) → i < 1024 → layout t f i ≡ layout u f i
  unfolding layout owned_same
  layout_same f i h =
      rw (a.pages f, ap₂ (λ w o. cond (is_some (u.words f)) w o) (a.words f i h) (owned_same f i))

  pub lays_same : (m : List (List ℕ)) → LaysOut t m → LaysOut u m
  unfolding layout_same
  lays_same m lays = record {
    shape = lays.shape;
    count = lays.count ∙ a.frames;
    word = λ f i f_in i_in. let frames = a.frames in
        lays.word f i (omega arith) i_in ∙ layout_same f i i_in;
  }
