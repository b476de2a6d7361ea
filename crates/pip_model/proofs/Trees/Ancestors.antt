-- Which partition is above which, and what an ancestor holds.
use Rattle.std.proofs.Common.{◌≡◌, ◌≢◌, ℕ, ◌==◌, cond, eq-eqb, ◌⊎◌, inl, inr, true, List, [], ◌∷◌, refl, sym, ap, ◌∙◌}
use Rattle.std.proofs.Common.{subst, arith}
use Rattle.std.proofs.lemmas.Bool.{cases_eq, ne_eqb}
use Rattle.pip_model.specs.Ancestors.{Above, further, parent}
use Rattle.pip_model.specs.Lists.{In}
use Rattle.pip_model.specs.Sound.{IsRooted, IsSound}
use Rattle.pip_model.specs.Tree.{Node, Tree, chain, chain_in, config, held_pages, names_of, nodes, row_pages}
use Rattle.pip_model.proofs.OnLists.Members.{In-append_left, In-append_right, In-map, In-map_from, Distinct-apart}

pub name_in : (x : Node) (xs : List Node) → In x xs → In x.name (names_of xs)
name_in x xs i = In-map (λ y. y.name) x xs i

-- names are distinct, so a name has one node
names_distinct : (root : Node) (xs : List Node) → IsRooted root xs → (x y : Node) → In x (root ∷ xs) → In y (root ∷ xs)
    → x.name ≡ y.name → x ≡ y
names_distinct root [] r x y (inl i) (inl j) e = cc
names_distinct root [] r x y (inl i) (inr j) e = absurd j
names_distinct root [] r x y (inr i) j e = absurd i
names_distinct root (z ∷ xs) r x y i j e =
    grind (arith, names_distinct root xs r.2 x y, name_in x (root ∷ xs), name_in y (root ∷ xs), r.0)

pub same_name : (t : Tree) (x y : Node) → IsSound t → In x (nodes t) → In y (nodes t) → x.name ≡ y.name → x ≡ y
same_name t x y s i j e = names_distinct t.root t.others s.parents_come_first x y i j e

-- every node but the root has its parent in the tree
pub parent_in : (root : Node) (xs : List Node) → IsRooted root xs → (x : Node) → In x xs
    → (y : Node) × In y (root ∷ xs) × (x.up ≡ y.name)
parent_in root [] r x i = absurd i
parent_in root (z ∷ xs) r x (inl i) = let (y, j, e) = In-map_from (λ w. w.name) z.up (root ∷ xs) r.1 in
    (y, grind (arith, j), rw i e)
parent_in root (z ∷ xs) r x (inr i) = let (y, j, e) = parent_in root xs r.2 x i in (y, grind (arith, j), e)

-- what a node holds is in rows of all its ancestors
pub holds_up : (t : Tree) (g : ℕ) → IsSound t → (y x : Node) → Above t y x → In g (held_pages x) → In g (row_pages y)
holds_up t g s y x (parent i j e) h = (s.lent x y i j e).rows g h
holds_up t g s y x (further {z = z} i j e a) h =
    holds_up t g s y z a (In-append_right g (config z) (row_pages z) ((s.lent x z i j e).rows g h))

-- the child on the way down
pub child_on_way : (t : Tree) (y x : Node) → Above t y x
    → (c : Node) × In c t.others × (c.up ≡ y.name) × ((c ≡ x) ⊎ Above t c x)
child_on_way t y x (parent i j e) = (x, i, e, inl refl)
child_on_way t y x (further {z = z} i j e a) =
    let (c, k, d, w) = child_on_way t y z a in
    (c, k, d, elim w [ inl q ↦ inr (parent i (inr k) (cc)) | inr b ↦ inr (further i j e b) ])

-- a part of the nodes, with the root
abbrev Within : Tree → List Node → Type 0
Within t xs = (x : Node) → In x xs → In x t.others

in_nodes : (t : Tree) (xs : List Node) → Within t xs → (x : Node) → In x (t.root ∷ xs) → In x (nodes t)
in_nodes t xs w x (inl e) = inl e
in_nodes t xs w x (inr i) = inr (w x i)

abbrev pub IsTop : Tree → Node → Type 0
IsTop t x = (t.root ≡ x) ⊎ Above t t.root x

top_through : (t : Tree) (x y : Node) → In x t.others → In y (nodes t) → x.up ≡ y.name → IsTop t y → IsTop t x
top_through t x y i j e (inl r) = inr (parent i (inl refl) (rw (e, ← r)))
top_through t x y i j e (inr a) = inr (further i j e a)

top_in : (t : Tree) (xs : List Node) → IsRooted t.root xs → Within t xs → (x : Node) → In x (t.root ∷ xs) → IsTop t x
top_in t [] r w x (inl e) = inl (sym e)
top_in t [] r w x (inr i) = absurd i
top_in t (z ∷ xs) r w x (inl e) = inl (sym e)
top_in t (z ∷ xs) r w x (inr (inr i)) = top_in t xs r.2 (λ y j. w y (inr j)) x (inr i)
top_in t (z ∷ xs) r w x (inr (inl e)) =
    let (y, j, u) = In-map_from (λ n. n.name) z.up (t.root ∷ xs) r.1 in
    let w' : Within t xs = λ v k. w v (inr k) in
    top_through t x y (w x (inl e)) (in_nodes t xs w' y j) (rw e u) (top_in t xs r.2 w' y j)

-- the root is above every other node
pub root_is_top : (t : Tree) → IsSound t → (x : Node) → In x (nodes t) → IsTop t x
root_is_top t s x i = top_in t t.others s.parents_come_first (λ y j. j) x i

abbrev pub AreRelated : Tree → Node → Node → Type 0
AreRelated t x y = (x ≡ y) ⊎ (Above t x y ⊎ Above t y x)

above_child : (t : Tree) (x y : Node) → In x t.others → In y (nodes t) → x.up ≡ y.name → (z : Node)
    → (z ≡ y) ⊎ Above t z y → Above t z x
above_child t x y i j e z (inl q) = parent i (subst (λ n. In n (nodes t)) (sym q) j) (rw (e, ← q))
above_child t x y i j e z (inr a) = further i j e a

-- x and b hold a page, y is x's parent and is above b: x is the child on the way, or is above
through_sibling : (t : Tree) (g : ℕ) → IsSound t → (x y b : Node) → In x t.others → In y (nodes t) → x.up ≡ y.name
    → In g (held_pages x) → In g (held_pages b) → Above t y b → AreRelated t x b
through_sibling t g s x y b i j e h k a = go (child_on_way t y b a)
  where
    same : (c : Node) → In c t.others → c.up ≡ y.name → In g (held_pages c) → x ≡ c
    same c l u m = elim (cases_eq x.name c.name) [
      | inl q ↦ same_name t x c s (inr i) (inr l) q
      | inr n ↦ absurd (s.siblings_apart x c i l (cc) n g h m)
    ]

    go : (c : Node) × In c t.others × (c.up ≡ y.name) × ((c ≡ b) ⊎ Above t c b) → AreRelated t x b
    go (c, l, u, w) = elim w [
      | inl q ↦ inl (same c l u (rw q k) ∙ q)
      | inr d ↦ inr (inl (rw (same c l u (In-append_right g (config c) (row_pages c) (holds_up t g s c b d k))) d))
    ]

related_through : (t : Tree) (g : ℕ) → IsSound t → (x y b : Node) → In x t.others → In y (nodes t) → x.up ≡ y.name
    → In g (held_pages x) → In g (held_pages b) → AreRelated t y b → AreRelated t x b
related_through t g s x y b i j e h k (inl q) = inr (inr (above_child t x y i j e b (inl (sym q))))
related_through t g s x y b i j e h k (inr (inl a)) = through_sibling t g s x y b i j e h k a
related_through t g s x y b i j e h k (inr (inr a)) = inr (inr (further i j e a))

related_in : (t : Tree) (g : ℕ) → IsSound t → (b : Node) → In b (nodes t) → In g (held_pages b) → (xs : List Node)
    → IsRooted t.root xs → Within t xs → (x : Node) → In x (t.root ∷ xs) → In g (held_pages x) → AreRelated t x b
related_in t g s b j k xs r w x (inl e) h =
    elim (root_is_top t s b j) [ inl q ↦ inl (cc) | inr a ↦ inr (inl (rw e a)) ]
related_in t g s b j k [] r w x (inr i) h = absurd i
related_in t g s b j k (z ∷ xs) r w x (inr (inr i)) h = related_in t g s b j k xs r.2 (λ v l. w v (inr l)) x (inr i) h
related_in t g s b j k (z ∷ xs) r w x (inr (inl e)) h =
    let (y, l, u) = In-map_from (λ n. n.name) z.up (t.root ∷ xs) r.1 in
    let w' : Within t xs = λ v m. w v (inr m) in
    let u' : x.up ≡ y.name = rw e u in
    let l' = in_nodes t xs w' y l in
    let i' = w x (inl e) in
    let hy = In-append_right g (config y) (row_pages y) ((s.lent x y i' l' u').rows g h) in
    related_through t g s x y b i' l' u' h k (related_in t g s b j k xs r.2 w' y l hy)

-- two nodes hold a common page only where they are one, or one is above the other
pub holders-related : (t : Tree) (g : ℕ) → IsSound t → (x y : Node) → In x (nodes t) → In y (nodes t)
    → In g (held_pages x) → In g (held_pages y) → AreRelated t x y
holders-related t g s x y i j h k = related_in t g s y j k t.others s.parents_come_first (λ v l. l) x i h

pub not_both : (t : Tree) (g : ℕ) → IsSound t → (x : Node) → In x (nodes t) → In g (config x) → In g (row_pages x) → ⊥
not_both t g s x i h k = Distinct-apart g (config x) (row_pages x) (s.pages_apart x i).pages h k

-- a partition that has a page of x's configuration in a row is above x
pub row_above : (t : Tree) (g : ℕ) → IsSound t → (x y : Node) → In x (nodes t) → In y (nodes t) → In g (config x)
    → In g (row_pages y) → Above t y x
row_above t g s x y i j h k = elim (holders-related t g s x y i j (In-append_left g (config x) (row_pages x) h)
    (In-append_right g (config y) (row_pages y) k)) [
      | inl e ↦ absurd (not_both t g s x i h (rw e k))
      | inr (inl a) ↦
          absurd (not_both t g s x i h (holds_up t g s x y a (In-append_right g (config y) (row_pages y) k)))
      | inr (inr a) ↦ a
    ]

-- a page is configuration of one node
pub one_config : (t : Tree) (g : ℕ) → IsSound t → (x y : Node) → In x (nodes t) → In y (nodes t) → In g (config x)
    → In g (config y) → x ≡ y
one_config t g s x y i j h k = elim (holders-related t g s x y i j (In-append_left g (config x) (row_pages x) h)
    (In-append_left g (config y) (row_pages y) k)) [
      | inl e ↦ e
      | inr (inl a) ↦ absurd (not_both t g s x i h (holds_up t g s x y a (In-append_left g (config y) (row_pages y) k)))
      | inr (inr a) ↦ absurd (not_both t g s y j k (holds_up t g s y x a (In-append_left g (config x) (row_pages x) h)))
    ]

-- a node's name is its first page
pub name-config : (t : Tree) → IsSound t → (x : Node) → In x (nodes t) → In x.name (config x)
name-config t s x (inl e) =
    let b : t.root.name ≡ t.root.base.descriptor.frame =
    ap (λ n. n.name) s.boot_root.same ∙ sym (ap (λ n. n.base.descriptor.frame) s.boot_root.same) in
    inl (rw (e, b, ← e))
name-config t s x (inr i) = inl (s.named_by_descriptor x i).name

pub root_differs : (root : Node) (xs : List Node) → IsRooted root xs → (x : Node) → In x xs → root.name ≢ x.name
root_differs root [] r x i e = i
root_differs root (z ∷ xs) r x (inl i) e = r.0 (inl (rw (← i, ← e)))
root_differs root (z ∷ xs) r x (inr i) e = root_differs root xs r.2 x i e

pub not_root : (t : Tree) → IsSound t → (x : Node) → In x t.others → t.root.name ≢ x.name
not_root t s x i = root_differs t.root t.others s.parents_come_first x i

-- the chain of a node goes on with that of its parent
chain_miss : (root y : Node) (ys : List Node) (p : ℕ) → y.name ≢ p → chain_in root (y ∷ ys) p ≡ chain_in root ys p
chain_miss root y ys p n = rw (ne_eqb y.name p n)

chain_hit : (root y : Node) (ys : List Node) (p : ℕ) → y.name ≡ p → chain_in root (y ∷ ys) p ≡ y ∷ chain_in root ys y.up
chain_hit root y ys p e = rw (eq-eqb y.name p e)

up_named : (root : Node) (xs : List Node) → IsRooted root xs → (x : Node) → In x xs → In x.up (names_of (root ∷ xs))
up_named root xs r x i = let (y, j, e) = parent_in root xs r x i in
    subst (λ n. In n (names_of (root ∷ xs))) (sym e) (name_in y (root ∷ xs) j)

chain_in-node : (root : Node) (xs : List Node) → IsRooted root xs → (x : Node) → In x xs
    → chain_in root xs x.name ≡ x ∷ chain_in root xs x.up
chain_in-node root [] r x i = absurd i
chain_in-node root (y ∷ ys) r x (inl e) =
    let n : y.name ≢ y.up = λ q. r.0 (subst (λ k. In k (names_of (root ∷ ys))) (sym q) r.1) in
    let h : chain_in root (y ∷ ys) y.name ≡ y ∷ chain_in root (y ∷ ys) y.up =
    cc (chain_hit root y ys y.name refl, chain_miss root y ys y.up n) in
    rw e h
chain_in-node root (y ∷ ys) r x (inr i) =
    let n : y.name ≢ x.name = λ q. r.0 (subst (λ k. In k (names_of (root ∷ ys))) (sym q) (inr (name_in x ys i))) in
    let m : y.name ≢ x.up = λ q. r.0 (subst (λ k. In k (names_of (root ∷ ys))) (sym q) (up_named root ys r.2 x i)) in
    cc (chain_miss root y ys x.name n, chain_in-node root ys r.2 x i, chain_miss root y ys x.up m)

pub chain-node : (t : Tree) → IsSound t → (x : Node) → In x t.others → chain t x.name ≡ x ∷ chain t x.up
chain-node t s x i = chain_in-node t.root t.others s.parents_come_first x i

Reaches : Tree → Node → Node → Type 0
Reaches t z x = (z ≡ x) ⊎ Above t z x

-- one step of the next law
chain_step : (t : Tree) (s : IsSound t) (y : Node) (ys : List Node) → IsRooted t.root (y ∷ ys) → Within t (y ∷ ys)
    → (z x : Node) → In x (t.root ∷ y ∷ ys) → In z (chain_in t.root (y ∷ ys) x.name) → ((v : Node) → In v (t.root ∷ ys)
    → In z (chain_in t.root ys v.name) → (z ≡ v) ⊎ Above t z v) → (z ≡ x) ⊎ Above t z x
chain_step t s y ys r w z x i h ih = elim (cases_eq y.name x.name) [ inl e ↦ hit e | inr n ↦ miss n ]
  where
    w' : Within t ys
    w' v k = w v (inr k)

    here : In y t.others
    here = w y (inl refl)

    hit : y.name ≡ x.name → (z ≡ x) ⊎ Above t z x
    hit e =
        let q : y ≡ x = same_name t y x s (inr here) (in_nodes t (y ∷ ys) w x i) e in
        let (v, j, u) = In-map_from (λ n. n.name) y.up (t.root ∷ ys) r.1 in
        elim (rw (chain_hit t.root y ys x.name e) at h) [
          | inl a ↦ inl (cc)
          | inr b ↦ inr (rw (← q) (above_child t y v here (in_nodes t ys w' v j) u z
              (ih v j (subst (λ p. In z (chain_in t.root ys p)) u b))))
        ]

    miss : (y.name ≡ x.name → ⊥) → (z ≡ x) ⊎ Above t z x
    miss n = elim i [
      | inl e ↦ ih x (inl e) (rw (← chain_miss t.root y ys x.name n) h)
      | inr k ↦ elim k [
        | inl e ↦ absurd (n (rw (← e)))
        | inr l ↦ ih x (inr l) (rw (← chain_miss t.root y ys x.name n) h)
      ]
    ]

in_chain : (t : Tree) (s : IsSound t) (xs : List Node) → IsRooted t.root xs → Within t xs → (z x : Node)
    → In x (t.root ∷ xs) → In z (chain_in t.root xs x.name) → (z ≡ x) ⊎ Above t z x
in_chain t s [] r w z x (inl e) h = let k : (t.root.name == x.name) ≡ true =
    eq-eqb t.root.name x.name (rw (← e)) in
    elim (rw k at h) [ inl q ↦ inl (cc) | inr j ↦ absurd j ]
in_chain t s [] r w z x (inr i) h = absurd i
in_chain t s (y ∷ ys) r w z x i h = chain_step t s y ys r w z x i h (in_chain t s ys r.2 (λ v k. w v (inr k)) z)

-- a node's chain has itself and its ancestors
pub chain-above : (t : Tree) → IsSound t → (z x : Node) → In x (nodes t) → In z (chain t x.name) → (z ≡ x) ⊎ Above t z x
chain-above t s z x i h = in_chain t s t.others s.parents_come_first (λ v l. l) z x i h

-- no node is above the root
above-child : (t : Tree) (y x : Node) → Above t y x → In x t.others
above-child t y x (parent i j e) = i
above-child t y x (further i j e a) = i

pub root_alone : (t : Tree) → IsSound t → (z : Node) → In z (chain t t.root.name) → z ≡ t.root
root_alone t s z h = elim (chain-above t s z t.root (inl refl) h)
    [ inl e ↦ e | inr a ↦ absurd (not_root t s t.root (above-child t z t.root a) refl) ]

pub name-page : (t : Tree) → IsSound t → (x : Node) → In x (nodes t) → x.name ≡ x.base.descriptor.frame
name-page t s x (inl e) = ap (λ n. n.name) e ∙ ap (λ n. n.name) s.boot_root.same
    ∙ sym (ap (λ n. n.base.descriptor.frame) s.boot_root.same) ∙ sym (rw e)
name-page t s x (inr i) = (s.named_by_descriptor x i).name
