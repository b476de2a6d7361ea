-- Trees that are the same up to the order of their nodes have the same text.
use Rattle.std.proofs.Common.{◌≡◌, ℕ, zero, suc, ◌-◌, ◌*◌, ◌≤◌, ◌==◌, ◌⊎◌, inl, inr, List, [], ◌∷◌, ◌++◌, length, refl}
use Rattle.std.proofs.Common.{sym, ap, ap₂, ◌∙◌, subst, arith}
use Rattle.std.specs.Prelude.{codes, filter_map, flat_map, if◌then◌else◌}
use Rattle.std.proofs.lemmas.List.{length-map}
use Rattle.pip_model.specs.Dump.{child_of_row, children_by_rows, head_text, part_line, part_text, rights_text, row_line}
use Rattle.pip_model.specs.Dump.{row_text, tree_text, use_text, nodes_depth_first, walk_from}
use Rattle.pip_model.specs.Laws.{TreesShowAlike}
use Rattle.pip_model.specs.Layout.{AreSame}
use Rattle.pip_model.specs.Lists.{Distinct, In}
use Rattle.pip_model.specs.Sound.{IsSound}
use Rattle.pip_model.specs.Tree.{Node, Row, Tree, chain, children, hidden, names_of, nodes}
use Rattle.pip_model.proofs.Frames.Same.{frames-same}
use Rattle.pip_model.proofs.Locality.Reads.{child_at_same, holder_same}
use Rattle.pip_model.proofs.OnLists.Members.{In-filter, In-filter_from, In-map, In-map_from}
use Rattle.pip_model.proofs.Trees.Ancestors.{chain-node}
use Rattle.pip_model.proofs.Trees.Ancestry.{other_in}
use Rattle.pip_model.proofs.Trees.Free.{IsName, hidden_by, hidden_from, tests_agree}
use Rattle.pip_model.proofs.Trees.Lookup as look
use Rattle.pip_model.proofs.Trees.Siblings.{by_rows}
use Rattle.pip_model.proofs.Trees.Walks.{root_line, walk_in}

-- ---- lists

flat_same : {A B : Type 0} (f g : A → List B) (xs : List A) → ((x : A) → In x xs → f x ≡ g x)
    → flat_map f xs ≡ flat_map g xs
flat_same f g [] h = refl
flat_same f g (x ∷ xs) h = ap₂ (λ u v. u ++ v) (h x (inl refl)) (flat_same f g xs (λ y i. h y (inr i)))

-- without one member
remove : (x : ℕ) (ys : List ℕ) → In x ys
    → (zs : List ℕ) × (length ys ≡ suc (length zs)) × ((g : ℕ) → In g ys → (g ≡ x) ⊎ In g zs)
remove x [] i = absurd i
remove x (y ∷ ys) (inl e) = (
  ys,
  refl,
  λ g i. elim i [
    | inl f ↦ inl (cc)
    | inr j ↦ inr j
  ],
)
remove x (y ∷ ys) (inr i) =
    let (zs, l, f) = remove x ys i in (
      y ∷ zs,
      rw l,
      λ g j. elim j [
        | inl e ↦ inr (inl e)
        | inr k ↦ elim (f g k) [
          | inl e ↦ inl e
          | inr m ↦ inr (inr m)
        ]
      ],
    )

fewer : (xs ys : List ℕ) → Distinct xs → ((g : ℕ) → In g xs → In g ys) → length xs ≤ length ys
fewer [] ys d sub = omega arith
fewer (x ∷ xs) ys d sub =
    let (zs, l, f) = remove x ys (sub x (inl refl)) in
    omega (
      arith,
      fewer xs zs d.1 (λ g i. elim (f g (sub g (inr i)))
          [ inl e ↦ absurd (d.0 (subst (λ z. In z xs) e i)) | inr m ↦ m ]),
    )

-- a tree's nodes, told from the other tree's
names_to : (t u : Tree) → ((x : Node) → In x (nodes t) → In x (nodes u)) → (g : ℕ) → In g (names_of (nodes t))
    → In g (names_of (nodes u))
names_to t u to g i =
    let (x, j, e) = In-map_from (λ x. x.name) g (nodes t) i in
    subst (λ k. In k (names_of (nodes u))) (sym e) (In-map (λ x. x.name) x (nodes u) (to x j))

module _ (t u : Tree) (s : IsSound t) (r : IsSound u) (a : AreSame t u) where
  as_many : length t.others ≡ length u.others
  as_many =
      let m = fewer (names_of (nodes t)) (names_of (nodes u)) (look.names_apart t s) (names_to t u a.to) in
      let n = fewer (names_of (nodes u)) (names_of (nodes t)) (look.names_apart u r) (names_to u t a.from) in
      let p = length-map (nodes t) (λ x. x.name) in
      let q = length-map (nodes u) (λ x. x.name) in
      let e : suc (length t.others) ≡ suc (length u.others) = omega arith in
      omega arith

  other_on : (x : Node) → In x t.others → In x u.others
  other_on x i = other_in t u s r x i (a.to x (inr i))

  other_back : (x : Node) → In x u.others → In x t.others
  other_back x i = other_in u t r s x i (a.from x (inr i))

  kids_on : (p : ℕ) (x : Node) → In x (children t p) → In x (children u p)
  kids_on p x i = let k = In-filter_from (λ z. z.up == p) x t.others i in
      In-filter (λ z. z.up == p) x u.others (other_on x k.0) k.1

  kids_back : (p : ℕ) (x : Node) → In x (children u p) → In x (children t p)
  kids_back p x i = let k = In-filter_from (λ z. z.up == p) x u.others i in
      In-filter (λ z. z.up == p) x t.others (other_back x k.0) k.1

  name_in : (x : Node) → In x (nodes t) → IsName t x.name
  name_in x i = In-map (λ z. z.name) x (nodes t) i

  name_on : (x : Node) → In x (nodes t) → IsName u x.name
  name_on x i = In-map (λ z. z.name) x (nodes u) (a.to x i)

  hidden_same : (g : ℕ) → hidden t g ≡ hidden u g
  hidden_same g = tests_agree (hidden t g) (hidden u g)
      (λ q. let (x, i, h) = hidden_from t g q in hidden_by u g x (a.to x i) h)
      (λ q. let (y, j, h) = hidden_from u g q in hidden_by t g y (a.from y j) h)

  by_rows_same : (x : Node) → In x (nodes t) → children_by_rows t x ≡ children_by_rows u x
  by_rows_same x i =
      let f : (q : Row) → child_of_row t x q ≡ child_of_row u x q = λ q.
      child_at_same t u x.name s r (name_in x i) (name_on x i) (kids_on x.name) (kids_back x.name) (4096 * q.at) in
      λ j. filter_map (λ q. f q j) x.rows

  walk_same : (k : ℕ) (x : Node) → In x (nodes t) → walk_from k t x ≡ walk_from k u x
  walk_same zero x i = refl
  walk_same (suc k) x i = rw (
    flat_same (walk_from k t) (walk_from k u) (children_by_rows t x)
        (λ y j. walk_same k y (inr (look.other_in t y.name y (by_rows t s x y j).0))),
    by_rows_same x i,
  )

  -- ---- how deep a node stands

  depth_same : (n : ℕ) (x : Node) → In x (nodes t) → length (chain t x.name) ≤ n
      → length (chain t x.name) ≡ length (chain u x.name)
  depth_same n x (inl e) few =
      cc (root_line t s, root_line u r, a.root)
  depth_same zero x (inr i) few =
      absurd (omega (arith, ap length (chain-node t s x i), few))
  depth_same (suc n) x (inr i) few =
      let e : length (chain t x.name) ≡ suc (length (chain t x.up)) = rw (chain-node t s x i) in
      let f : length (chain u x.name) ≡ suc (length (chain u x.up)) = rw (chain-node u r x (other_on x i)) in
      let (y, found) = look.parent_found t s x.name x (look.in_other t s x i) in
      let named : y.name ≡ x.up = look.found_name t x.up y found in
      let less : length (chain t y.name) ≤ n =
      rw named (omega (arith, e, few)) in
      let up : length (chain t x.up) ≡ length (chain u x.up) =
      rw (← named) (depth_same n y (look.found_in t x.up y found) less) in
      rw (e, up, ← f)

  -- ---- the text

  row_same : (x : Node) (q : Row) → In x (nodes t) → row_text t x q ≡ row_text u x q
  row_same x q i =
      let h = hidden_same q.frame in
      let o = holder_same t u x.name s r (name_in x i) (name_on x i) (kids_on x.name) (kids_back x.name) q.frame in
      λ j. row_line (4096 * q.at) q.frame (rights_text q.rights) (if h j then codes "hidden" else codes "user")
      (use_text (o j) q.frame)

  head_same : (x : Node) → In x (nodes t) → head_text t x ≡ head_text u x
  head_same x i =
      rw (depth_same (length (chain t x.name)) x i (omega arith))

  part_same : (x : Node) → In x (nodes t) → part_text t x ≡ part_text u x
  part_same x i =
      ap₂ (λ h rows. h ++ rows) (head_same x i) (flat_same (row_text t x) (row_text u x) x.rows (λ q k. row_same x q i))

  same_text : tree_text t ≡ tree_text u
  same_text =
      flat_same (part_text t) (part_text u) (nodes_depth_first t)
      (λ x i. part_same x (walk_in t s (length t.others) t.root x (inl refl) i).0)
      ∙ ap (flat_map (part_text u))
      (walk_same (length t.others) t.root (inl refl) ∙ ap₂ (λ k x. walk_from k u x) as_many a.root)

pub trees_show_alike : TreesShowAlike
trees_show_alike t u m h k = same_text t u h.0 k.0 (frames-same t u m h.0 k.0 h.1 k.1)
