-- The walk comes to every partition, to nothing else, and to none twice.
use Rattle.std.proofs.Common.{◌≡◌, ◌≢◌, ℕ, zero, suc, ◌+◌, ◌-◌, ◌≤◌, ◌<◌, cond, true, inl, inr, List, [], ◌∷◌, ◌++◌}
use Rattle.std.proofs.Common.{map, length, refl, sym, ap, ◌∙◌, subst, arith, eq-eqb, ne_eqb, Some}
use Rattle.std.specs.Prelude.{filter_map, flat_map}
use Rattle.std.specs.List.{cons_option, list_any}
use Rattle.std.proofs.Math.Dec.{eqb}
use Rattle.std.proofs.lemmas.Map.Steps.{length-le_from_distinct_below}
use Rattle.pip_model.specs.Dump.{MeetsAll, child_of_row, children_by_rows, nodes_depth_first, walk_from}
use Rattle.pip_model.specs.Lists.{Distinct, In, Rising}
use Rattle.pip_model.specs.Midway.{OnChain, find_other, here}
use Rattle.pip_model.specs.Sound.{IsSound}
use Rattle.pip_model.specs.Tree.{Node, Row, Tree, chain, chain_in, config, find_node, names_of, nodes, row_pages}
use Rattle.pip_model.proofs.Trees.Ancestors.{name-config, not_root}
use Rattle.pip_model.proofs.Trees.Chains.{chain-trans, chain_linear, chain_parent, chain_up}
use Rattle.pip_model.proofs.Trees.Depth.{any_member, chain_differs, depth, depth_few, depth_up, distinct_by_test}
use Rattle.pip_model.proofs.Trees.Lookup.{by_parents, cases_option, in_found, other_found, other_in, parent_found}
use Rattle.pip_model.proofs.Trees.Lookup.{root_found, same_found}
use Rattle.pip_model.proofs.OnLists.Members.{In-append_cases, In-append_left, In-append_right, In-map, In-map_from}
use Rattle.pip_model.proofs.OnLists.Members.{Rising-low, map_append}
use Rattle.pip_model.proofs.Trees.Numbers.{page_small}
use Rattle.pip_model.proofs.Trees.Siblings.{by_rows, child_in_rows, in_its_row, row_child_is}

-- ---- lists

In-flat_nodes : (f : Node → List Node) (z : Node) (cs : List Node) → In z (flat_map f cs)
    → (c : Node) × In c cs × In z (f c)
In-flat_nodes f z [] i = absurd i
In-flat_nodes f z (c ∷ cs) i = elim (In-append_cases z (f c) (flat_map f cs) i) [
  | inl h ↦ (c, inl refl, h)
  | inr h ↦ let (d, j, k) = In-flat_nodes f z cs h in (d, inr j, k)
]

distinct_append : (xs ys : List ℕ) → Distinct xs → Distinct ys → ((g : ℕ) → In g xs → In g ys → ⊥) → Distinct (xs ++ ys)
distinct_append [] ys d e apart = e
distinct_append (x ∷ xs) ys d e apart = (
  (λ i. elim (In-append_cases x xs ys i) [ inl h ↦ d.0 h | inr h ↦ apart x (inl refl) h ]),
  distinct_append xs ys d.1 e (λ g i j. apart g (inr i) j),
)

distinct_flat : (f : Node → List Node) (cs : List Node) → Distinct (names_of cs)
    → ((c : Node) → In c cs → Distinct (names_of (f c))) → ((c d : Node) → In c cs → In d cs → (g : ℕ)
    → In g (names_of (f c)) → In g (names_of (f d)) → c.name ≡ d.name) → Distinct (names_of (flat_map f cs))
distinct_flat f [] once each apart = tt
distinct_flat f (c ∷ cs) once each apart =
    rw (map_append (λ (x : Node). x.name) (f c) (flat_map f cs))
    (distinct_append (names_of (f c)) (names_of (flat_map f cs)) (each c (inl refl))
    (distinct_flat f cs once.1 (λ d i. each d (inr i)) (λ d e i j. apart d e (inr i) (inr j)))
    (λ g i j. let (z, k, same) = In-map_from (λ (x : Node). x.name) g (flat_map f cs) j in let (d, l, m) =
    In-flat_nodes f z cs k in let there : In g (names_of (f d)) =
    subst (λ n. In n (names_of (f d))) (sym same) (In-map (λ (x : Node). x.name) z (f d) m) in
    let equal : c.name ≡ d.name = apart c d (inl refl) (inr l) g i there in
    once.0 (subst (λ n. In n (names_of cs)) (sym equal)
    (In-map (λ (x : Node). x.name) d cs l))))

in_flat_nodes : (f : Node → List Node) (z c : Node) (cs : List Node) → In c cs → In z (f c) → In z (flat_map f cs)
in_flat_nodes f z c [] i j = absurd i
in_flat_nodes f z c (d ∷ cs) (inl e) j = In-append_left z (f d) (flat_map f cs) (rw (← e) j)
in_flat_nodes f z c (d ∷ cs) (inr i) j = In-append_right z (f d) (flat_map f cs) (in_flat_nodes f z c cs i j)

-- ---- the root's chain

root_chain_in : (root : Node) (xs : List Node) → ((x : Node) → In x xs → root.name ≢ x.name)
    → chain_in root xs root.name ≡ root ∷ []
root_chain_in root [] n = rw (eq-eqb root.name root.name refl)
root_chain_in root (y ∷ ys) n =
    rw (ne_eqb y.name root.name (λ e. n y (inl refl) (sym e)), root_chain_in root ys (λ x i. n x (inr i)))

module _ (t : Tree) (s : IsSound t) where
  pub root_line : chain t t.root.name ≡ t.root ∷ []
  root_line = root_chain_in t.root t.others (not_root t s)

  -- ---- none twice

  rows_once : (x : Node) (low : ℕ) (rows : List Row) → Rising low (map (λ r. r.at) rows)
      → Distinct (names_of (filter_map (child_of_row t x) rows))
  rows_once x low [] rising = tt
  rows_once x low (r ∷ rs) rising = elim (cases_option (child_of_row t x r)) [
    | inl none ↦ rw none (rows_once x (r.at + 1) rs rising.1)
    | inr y ↦ rw y.1 (
      (λ i. let (z, j, same) = In-map_from (λ (c : Node). c.name) y.0.name
          (filter_map (child_of_row t x) rs) i in let (q, k, e) = child_in_rows t x z rs j in let (f, up, born) =
          row_child_is t s x z q e in let (h, over, place) = row_child_is t s x y.0 r y.1 in
          let both : Some z ≡ Some y.0 = sym f ∙ (ap (find_other t) (sym same) ∙ h) in let one : z ≡ y.0 = cc in
          let equal : z.born ≡ y.0.born = ap (λ c. c.born) one in let later : r.at + 1 ≤ q.at =
          Rising-low (r.at + 1) q.at (map (λ w. w.at) rs) rising.1 (In-map (λ w. w.at) q rs k) in
          absurd (omega (arith, born, place, equal, later))),
      rows_once x (r.at + 1) rs rising.1,
    )
  ]

  -- the partition that it comes to is below
  pub walk_in : (k : ℕ) (x z : Node) → In x (nodes t) → In z (walk_from k t x)
      → In z (nodes t) × OnChain t x.name z.name
  walk_in zero x z i (inl e) =
      (subst (λ n. In n (nodes t)) (sym e) i, rw e here)
  walk_in zero x z i (inr j) = absurd j
  walk_in (suc k) x z i (inl e) =
      (subst (λ n. In n (nodes t)) (sym e) i, rw e here)
  walk_in (suc k) x z i (inr j) =
      let (c, h, l) = In-flat_nodes (walk_from k t) z (children_by_rows t x) j in
      let (f, up) = by_rows t s x c h in
      let (m, chain) = walk_in k c z (inr (other_in t c.name c f)) l in
      (m, chain-trans t x.name c.name z.name (rw up at (chain_parent t c.name c f)) chain)

  -- two children of one parent are never one above the other
  apart_children : (x c d : Node) (z : ℕ) → In c (children_by_rows t x) → In d (children_by_rows t x)
      → OnChain t c.name z → OnChain t d.name z → c.name ≡ d.name
  apart_children x c d z i j a b =
      let (f, up) = by_rows t s x c i in
      let (h, over) = by_rows t s x d j in
      elim (chain_linear t c.name d.name z a b) [
        | inl q ↦ elim (chain_up t c.name d.name d h q) [
          | inl e ↦ e
          | inr r ↦ absurd (chain_differs t s c.name c.name c f (rw (up, ← over) r) refl)
        ]
        | inr q ↦ elim (chain_up t d.name c.name c f q) [
          | inl e ↦ sym e
          | inr r ↦ absurd (chain_differs t s d.name d.name d h (rw (over, ← up) r) refl)
        ]
      ]

  walk_below : (k : ℕ) (c : Node) (g : ℕ) → In c (nodes t) → In g (names_of (walk_from k t c)) → OnChain t c.name g
  unfolding walk_in
  walk_below k c g i j =
      let (z, l, e) = In-map_from (λ (y : Node). y.name) g (walk_from k t c) j in
      subst (OnChain t c.name) (sym e) (walk_in k c z i l).1

  -- and to none twice
  pub walk_once : (k : ℕ) (x : Node) → In x (nodes t) → Distinct (names_of (walk_from k t x))
  unfolding rows_once apart_children walk_below
  walk_once zero x i = ((λ j. j), tt)
  walk_once (suc k) x i = (
    (λ j.
        let (z, l, e) = In-map_from (λ (y : Node). y.name) x.name (flat_map (walk_from k t) (children_by_rows t x)) j in
        let (c, h, m) = In-flat_nodes (walk_from k t) z (children_by_rows t x) l in
        let (f, up) = by_rows t s x c h in
        let chain = (walk_in k c z (inr (other_in t c.name c f)) m).1 in
        chain_differs t s c.name c.name c f (simp (up, e) chain) refl),
    distinct_flat (walk_from k t) (children_by_rows t x) (rows_once x 0 x.rows (s.pages_apart x i).places)
        (λ c h. walk_once k c (inr (other_in t c.name c (by_rows t s x c h).0)))
        (λ c d h l g a b. apart_children x c d g h l (walk_below k c g (inr (other_in t c.name c (by_rows t s x c h).0))
        a) (walk_below k d g (inr (other_in t d.name d (by_rows t s x d l).0)) b)),
  )

  -- so it is no longer than the frames
  pub walk_short : length (nodes_depth_first t) ≤ t.frames
  unfolding walk_in walk_once
  walk_short = rw (← length_names (nodes_depth_first t))
      (length-le_from_distinct_below (names_of (nodes_depth_first t)) t.frames
      (distinct_by_test (names_of (nodes_depth_first t)) (walk_once (length t.others) t.root (inl refl))) small)
    where
      length_names : (xs : List Node) → length (names_of xs) ≡ length xs
      length_names [] = refl
      length_names (x ∷ xs) = rw (length_names xs)

      small : (q : ℕ) → list_any (eqb q) (names_of (nodes_depth_first t)) ≡ true → q < t.frames
      small q h =
          let (x, j, e) = In-map_from (λ (z : Node). z.name) q (nodes_depth_first t)
          (any_member q (names_of (nodes_depth_first t)) h) in
          let i = (walk_in (length t.others) t.root x (inl refl) j).0 in
          rw e (page_small t x.name s x i (In-append_left x.name (config x) (row_pages x) (name-config t s x i)))

  -- ---- every one

  -- so all below it are in the walk, where it is
  Within : ℕ → Type 0
  Within a = (x : Node) → find_node t a ≡ Some x → (z : Node) → In z (walk_from (length (nodes t) - depth t a) t x)
      → In z (nodes_depth_first t)

  from_root : Within t.root.name
  unfolding Within depth
  from_root x found z i =
      let same : x ≡ t.root = same_found t t.root.name x t.root found (root_found t) in
      let one : length (nodes t) - length (chain t t.root.name) ≡ length t.others =
      (omega (arith, ap (λ (l : List Node). length l) root_line)) in
      rw (← one) (subst (λ n. In z (walk_from (length (nodes t) - length (chain t t.root.name)) t n)) same i)

  from_parent : (b : ℕ) (y : Node) → find_other t b ≡ Some y → Within y.up → Within b
  unfolding Within
  from_parent b y other up x found z i =
      let (p, parent) = parent_found t s b y other in
      let same : x ≡ y = same_found t b x y found (other_found t s b y other) in
      let deep = depth_up t s b y other in
      let few = depth_few t b in
      let step : length (nodes t) - depth t y.up ≡ suc (length (nodes t) - depth t b) = omega arith in
      up p parent z (rw step (inr (in_flat_nodes (walk_from (length (nodes t) - depth t b) t) z y (children_by_rows t p)
      (in_its_row t s b p y other parent) (subst (λ n. In z (walk_from (length (nodes t) - depth t b) t n)) same
      i))))

  head_in : (k : ℕ) (x : Node) → In x (walk_from k t x)
  head_in zero x = inl refl
  head_in (suc k) x = inl refl

  pub walk_all : (x : Node) → In x (nodes t) → In x (nodes_depth_first t)
  unfolding Within from_root from_parent head_in
  walk_all x i = by_parents t s Within from_root from_parent x.name x (in_found t s x i) x (in_found t s x i) x
      (head_in (length (nodes t) - depth t x.name) x)

  pub meets_all : MeetsAll t
  unfolding walk_in walk_once walk_all
  meets_all = record {
    once = walk_once (length t.others) t.root (inl refl);
    all = walk_all;
    no_others = λ z i. (walk_in (length t.others) t.root z (inl refl) i).0;
  }
