-- What a change of each node keeps.
use Rattle.std.proofs.Common.{◌≡◌, ◌≢◌, ℕ, ◌||◌, List, [], ◌∷◌, map, refl, sym, ap, ◌∙◌, subst}
use Rattle.std.specs.List.{list_any}
use Rattle.pip_model.specs.Lists.{In, has}
use Rattle.pip_model.specs.Sound.{EachChild, EachNode, EachOther, EachSiblings, IsRooted}
use Rattle.pip_model.specs.Tree.{Node, Tree, config, hidden, names_of, nodes, on_nodes}
use Rattle.pip_model.proofs.OnLists.Members.{In-map_from}

module _ (f : Node → Node) (t : Tree) where
  pub each_node : (P : Node → Type 0) → ((x : Node) → In x (nodes t) → P (f x)) → EachNode P (on_nodes f t)
  each_node P h x i = let (z, j, e) = In-map_from f x (nodes t) i in rw e (h z j)

  pub each_other : (P : Node → Type 0) → ((x : Node) → In x t.others → P (f x)) → EachOther P (on_nodes f t)
  each_other P h x i = let (z, j, e) = In-map_from f x t.others i in rw e (h z j)

  module _ (names : (x : Node) → (f x).name ≡ x.name) (ups : (x : Node) → (f x).up ≡ x.up) where
    pub each_child : (R : Node → Node → Type 0)
        → ((x y : Node) → In x t.others → In y (nodes t) → x.up ≡ y.name → R (f y) (f x)) → EachChild R (on_nodes f t)
    each_child R h x y i j u =
        let (z, k, e) = In-map_from f x t.others i in
        let (w, l, q) = In-map_from f y (nodes t) j in
        let u' : z.up ≡ w.name = cc (ups z, names w) in
        rw q (subst (λ n. R (f w) n) (sym e) (h z w k l u'))

    pub each_siblings : (R : Node → Node → Type 0) → ((x y : Node) → In x t.others → In y t.others → x.up ≡ y.up
        → x.name ≢ y.name → R (f x) (f y)) → EachSiblings R (on_nodes f t)
    each_siblings R h x y i j u d =
        let (z, k, e) = In-map_from f x t.others i in
        let (w, l, q) = In-map_from f y t.others j in
        let u' : z.up ≡ w.up = cc (ups z, ups w) in
        let d' : z.name ≢ w.name =
        λ v. d (rw (e, names z, v, ← names w, ← q)) in
        rw q (subst (λ n. R n (f w)) (sym e) (h z w k l u' d'))

    pub names_kept : (xs : List Node) → names_of (map f xs) ≡ names_of xs
    names_kept [] = refl
    names_kept (x ∷ xs) = λ i. names x i ∷ names_kept xs i

    rooted_in : (root : Node) (xs : List Node) → IsRooted root xs → IsRooted (f root) (map f xs)
    rooted_in root [] r = cc (ups root, names root)
    rooted_in root (x ∷ xs) r = (
      (λ i.
          r.0 (subst (λ v. In v (names_of (root ∷ xs))) (names x) (subst (In (f x).name) (names_kept (root ∷ xs)) i))),
      subst (In (f x).up) (sym (names_kept (root ∷ xs))) (subst (λ v. In v (names_of (root ∷ xs))) (sym (ups x)) r.1),
      rooted_in root xs r.2,
    )

    pub rooted : IsRooted t.root t.others → IsRooted (f t.root) (map f t.others)
    rooted r = rooted_in t.root t.others r

  pub any_hidden : ((x : Node) → config (f x) ≡ config x) → (g : ℕ) (xs : List Node)
      → list_any (λ x. has (config x) g) (map f xs) ≡ list_any (λ x. has (config x) g) xs
  any_hidden same g [] = refl
  any_hidden same g (x ∷ xs) = λ i. has (same x i) g || any_hidden same g xs i

  pub hidden_kept : ((x : Node) → config (f x) ≡ config x) → (g : ℕ) → hidden (on_nodes f t) g ≡ hidden t g
  hidden_kept same g = any_hidden same g (nodes t)
