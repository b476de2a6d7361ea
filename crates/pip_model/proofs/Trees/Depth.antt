-- How deep a partition is: what a loop up the chain counts.
use Rattle.std.proofs.Common.{◌≡◌, ◌≢◌, ℕ, suc, ◌≤◌, ◌<◌, ◌==◌, cond, inl, inr, Bool, true, false, List, [], ◌∷◌, map}
use Rattle.std.proofs.Common.{length, refl, sym, ◌∙◌, ap, subst, arith, ne_eqb, eqb-true, Some}
use Rattle.std.specs.List.{AllByRecursion, IsDistinct, list_any}
use Rattle.std.proofs.Math.Dec.{eqb}
use Rattle.std.proofs.lemmas.Map.Steps.{length-le_from_distinct_below}
use Rattle.pip_model.specs.Lists.{Distinct, In}
use Rattle.pip_model.specs.Midway.{OnChain, find_other, here, over}
use Rattle.pip_model.specs.Sound.{IsSound}
use Rattle.pip_model.specs.Tree.{Node, Tree, chain, chain_in, config, find_node, names_of, nodes, row_pages}
use Rattle.pip_model.proofs.OnLists.Members.{In-append_left, In-map_from, any_from}
use Rattle.pip_model.proofs.Trees.Ancestors.{chain-node, name-config}
use Rattle.pip_model.proofs.Trees.Ancestry.{not_own_parent, own_ancestry}
use Rattle.pip_model.proofs.Trees.Numbers.{page_small}
use Rattle.pip_model.proofs.Trees.Lookup.{found_in, found_name, names_apart, other_in, other_name, root_or_other}

-- how many nodes there are from a partition up to the root, both counted
unfoldable pub depth : Tree → ℕ → ℕ
depth t a = length (chain t a)

-- a parent is one step higher
pub depth_up : (t : Tree) → IsSound t → (b : ℕ) (y : Node) → find_other t b ≡ Some y → depth t b ≡ suc (depth t y.up)
unfolding depth
depth_up t s b y e = rw (← other_name t b y e) (ap length (chain-node t s y (other_in t b y e)))

long : {A : Type 0} (f : A → ℕ) (q : ℕ) (xs : List A) → In q (map f xs) → 1 ≤ length xs
long f q [] i = absurd i
long f q (x ∷ xs) i = omega arith

-- each partition is counted
pub depth_some : (t : Tree) → IsSound t → (a : ℕ) (x : Node) → find_node t a ≡ Some x → 1 ≤ depth t a
unfolding depth
depth_some t s a x e = rw (← found_name t a x e) (long (λ z. z.name) x.name (chain t x.name)
    (own_ancestry t s x (found_in t a x e)))

chain_short : (root : Node) (xs : List Node) (p : ℕ) → length (chain_in root xs p) ≤ suc (length xs)
chain_short root [] p = go (root.name == p)
  where
    go : (b : Bool) → length (cond b (root ∷ []) []) ≤ 1
    go true = omega arith
    go false = omega arith
chain_short root (x ∷ xs) p = go (x.name == p) (chain_short root xs x.up) (chain_short root xs p)
  where
    go : (b : Bool) → length (chain_in root xs x.up) ≤ suc (length xs) → length (chain_in root xs p) ≤ suc (length xs)
        → length (cond b (x ∷ chain_in root xs x.up) (chain_in root xs p)) ≤ suc (suc (length xs))
    go true h k = omega arith
    go false h k = omega arith

-- no chain has more nodes than the tree
pub depth_few : (t : Tree) (a : ℕ) → depth t a ≤ length (nodes t)
unfolding depth
depth_few t a = chain_short t.root t.others a

-- a partition on a chain is no deeper
pub chain_depth : (t : Tree) → IsSound t → (a b : ℕ) → OnChain t a b → depth t a ≤ depth t b
chain_depth t s a _ here = omega arith
chain_depth t s a b (over y e r) = omega (arith, chain_depth t s a y.up r, depth_up t s b y e)

-- a partition isn't on the chain of its parent
pub chain_differs : (t : Tree) → IsSound t → (a b : ℕ) (y : Node) → find_other t b ≡ Some y → OnChain t a y.up → a ≢ b
chain_differs t s a b y e r = λ q. let h = chain_depth t s a y.up r in let k = depth_up t s b y e in
    let same : depth t a ≡ depth t b = rw q in absurd (omega arith)

-- no node but the root is its own parent
pub own_parent : (t : Tree) → IsSound t → (a : ℕ) (x : Node) → find_node t a ≡ Some x → x.up ≡ a → x ≡ t.root
own_parent t s a x e u = elim (root_or_other t a x e) [
  | inl r ↦ r
  | inr o ↦ absurd (not_own_parent t s x (other_in t a x o) (cc (found_name t a x e)))
]

none_equal : (a : ℕ) (xs : List ℕ) → (In a xs → ⊥) → AllByRecursion (λ y. eqb a y ≡ false) xs
none_equal a [] n = tt
none_equal a (x ∷ xs) n = (ne_eqb a x (λ e. n (inl e)), none_equal a xs (λ i. n (inr i)))

pub distinct_by_test : (xs : List ℕ) → Distinct xs → IsDistinct eqb xs
unfolding IsDistinct
distinct_by_test [] d = tt
distinct_by_test (x ∷ xs) d = (none_equal x xs d.0, distinct_by_test xs d.1)

equal_by_test : (a x : ℕ) → eqb a x ≡ true → a ≡ x
equal_by_test a x e = grind (arith, eqb-true)

pub any_member : (a : ℕ) (xs : List ℕ) → list_any (eqb a) xs ≡ true → In a xs
any_member a xs e = let (x, i, h) = any_from (eqb a) xs e in rw (equal_by_test a x h) i

length-names : (xs : List Node) → length (names_of xs) ≡ length xs
length-names [] = refl
length-names (x ∷ xs) = rw (length-names xs)

-- there are no more partitions than frames
pub few_nodes : (t : Tree) → IsSound t → length (nodes t) ≤ t.frames
few_nodes t s =
    rw (← length-names (nodes t)) (length-le_from_distinct_below (names_of (nodes t)) t.frames
    (distinct_by_test (names_of (nodes t)) (names_apart t s)) small)
  where
    small : (q : ℕ) → list_any (eqb q) (names_of (nodes t)) ≡ true → q < t.frames
    small q h =
        let (x, j, e) = In-map_from (λ z. z.name) q (nodes t) (any_member q (names_of (nodes t)) h) in
        rw e (page_small t x.name s x j (In-append_left x.name (config x) (row_pages x) (name-config t s x j)))
