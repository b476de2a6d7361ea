-- What the calls read is the same in two worlds that agree below p.
use Rattle.std.proofs.Common.{◌≡◌, ℕ, ◌==◌, inl, inr, Bool, true, List, ◌∷◌, map, refl, sym, ap, ◌∙◌, subst, arith}
use Rattle.std.proofs.Common.{eqb-true, Option, Some, None}
use Rattle.std.specs.Prelude.{is_none, find}
use Rattle.std.proofs.lemmas.Bool.{cases_eq}
use Rattle.pip_model.specs.Ancestors.{Above, further, parent}
use Rattle.pip_model.specs.Lists.{In}
use Rattle.pip_model.specs.Sound.{IsSound}
use Rattle.pip_model.specs.Tree.{Node, Row, Tree, ancestry, child_at, children, free, held_pages, holder, holds}
use Rattle.pip_model.specs.Tree.{is_free_row, node, nodes, page_at, row_at, vpage}
use Rattle.pip_model.proofs.OnLists.Members.{In-filter_from, has_in, find_in, find_none}
use Rattle.pip_model.proofs.Trees.Ancestors.{same_name, chain-node}
use Rattle.pip_model.proofs.Trees.Free.{IsName, node_found}

-- what is below a node has that node in its ancestry
pub above_in_ancestry : (t : Tree) → IsSound t → (y x : Node) → In y (nodes t) → Above t y x
    → In y.name (ancestry t y.name) → In y.name (ancestry t x.name)
above_in_ancestry t s y x j (parent i k e) h =
    rw (chain-node t s x i, e) (inr h)
above_in_ancestry t s y x j (further {z = z} i k e a) h =
    rw (chain-node t s x i, e) (inr (above_in_ancestry t s y z j a h))

-- a found member is the same in two lists that have the same members, where one member passes the test
pub find_agrees : {A : Type 0} (p : A → Bool) (xs ys : List A) → ((x : A) → In x xs → In x ys) → ((x : A) → In x ys
    → In x xs) → ((x y : A) → In x xs → In y xs → p x ≡ true → p y ≡ true → x ≡ y) → find p xs ≡ find p ys
find_agrees {A = A} p xs ys f g one = go (find p xs) (find p ys) refl refl
  where
    go : (a b : Option A) → find p xs ≡ a → find p ys ≡ b → a ≡ b
    go None None e h = refl
    go None (Some y) e h = let k = find_in p y ys h in let n = find_none p y xs e (g y k.0) in let m = k.1 in
        absurd (grind (arith, n, m))
    go (Some x) None e h = let k = find_in p x xs e in let n = find_none p x ys h (f x k.0) in let m = k.1 in
        absurd (grind (arith, n, m))
    go (Some x) (Some y) e h = let k = find_in p x xs e in let l = find_in p y ys h in
        rw (one x y k.0 (g y l.0) k.1 l.1)

-- a child's birthplace has one child
pub child_unique : (t : Tree) (p : ℕ) → IsSound t → IsName t p → (x y : Node) → In x (children t p)
    → In y (children t p) → x.born ≡ y.born → x ≡ y
child_unique t p s n x y i j e =
    let a = In-filter_from (λ x. x.up == p) x t.others i in
    let b = In-filter_from (λ x. x.up == p) y t.others j in
    let q = node_found t p n in
    let ua : x.up ≡ (node t p).name = eqb-true x.up p a.1 ∙ sym q.1 in
    let ub : y.up ≡ (node t p).name = eqb-true y.up p b.1 ∙ sym q.1 in
    let pa = (s.lent x (node t p) a.0 q.0 ua).placed x.base.descriptor (inl refl) in
    let pb = (s.lent y (node t p) b.0 q.0 ub).placed y.base.descriptor (inl refl) in
    let na = s.named_by_descriptor x a.0 in
    let nb = s.named_by_descriptor y b.0 in
    let va : x.base.descriptor.va ≡ y.base.descriptor.va = cc (na.born, nb.born) in
    let c : Some x.base.descriptor.frame ≡ Some y.base.descriptor.frame =
    rw (← pa, va, pb) in
    let d : x.base.descriptor.frame ≡ y.base.descriptor.frame = cc in
    same_name t x y s (inr a.0) (inr b.0) (cc (na.name, nb.name))

-- a page of p has one child that holds it
pub holder_unique : (t : Tree) (p g : ℕ) → IsSound t → (x y : Node) → In x (children t p) → In y (children t p)
    → holds x g ≡ true → holds y g ≡ true → x ≡ y
holder_unique t p g s x y i j h k =
    let a = In-filter_from (λ x. x.up == p) x t.others i in
    let b = In-filter_from (λ x. x.up == p) y t.others j in
    elim (cases_eq x.name y.name) [
      | inl e ↦ same_name t x y s (inr a.0) (inr b.0) e
      | inr n ↦ absurd (s.siblings_apart x y a.0 b.0 (cc (eqb-true x.up p a.1, eqb-true y.up p b.1)) n g
          (has_in g (held_pages x) h) (has_in g (held_pages y) k))
    ]

module _ (t u : Tree) (p : ℕ) (s : IsSound t) (r : IsSound u) (n : IsName t p) (m : IsName u p) (kids : (x : Node)
    → In x (children t p) → In x (children u p)) (back : (x : Node) → In x (children u p) → In x (children t p)) where
  pub child_at_same : (d : ℕ) → child_at t p d ≡ child_at u p d
  child_at_same d = find_agrees (λ x. x.born == d) (children t p) (children u p) kids back
      (λ x y i j a b. child_unique t p s n x y i j (cc (eqb-true x.born d a, eqb-true y.born d b)))

  pub holder_same : (g : ℕ) → holder t p g ≡ holder u p g
  holder_same g = find_agrees (λ x. holds x g) (children t p) (children u p) kids back
      (λ x y i j a b. holder_unique t p g s x y i j a b)

  pub free_same : node t p ≡ node u p → (v : ℕ) → free t p v ≡ free u p v
  free_same e v = rw (at (row_at (node t p).rows v), e)
    where
      at : (o : Option Row) → is_free_row t p o ≡ is_free_row u p o
      at None = refl
      at (Some q) = rw (holder_same q.frame)
