-- Nodes by their names: what a look-up finds is a node of the tree, and each node is found.
use Rattle.std.proofs.Common.{◌≡◌, ◌≢◌, ℕ, ◌==◌, cond, ◌⊎◌, inl, inr, Bool, true, false, List, [], ◌∷◌, map, refl, sym}
use Rattle.std.proofs.Common.{ap, ◌∙◌, subst, eqb-true, eq-eqb, Option, Some, None}
use Rattle.std.specs.Prelude.{find, option_map, unwrap_or}
use Rattle.pip_model.specs.Lists.{Distinct, In}
use Rattle.pip_model.specs.Midway.{find_other}
use Rattle.pip_model.specs.Sound.{IsRooted, IsSound}
use Rattle.pip_model.specs.Tree.{Node, Tree, find_node, names_of, node, nodes, on_nodes}
use Rattle.pip_model.proofs.OnLists.Members.{In-map_from, find_in, find_member}
use Rattle.pip_model.proofs.Trees.Ancestors.{name_in, not_root, parent_in}

-- a value that may be none
pub cases_option : {A : Type 0} (o : Option A) → (o ≡ None) ⊎ ((x : A) × (o ≡ Some x))
cases_option None = inl refl
cases_option (Some x) = inr (x, refl)

names_apart_in : (root : Node) (xs : List Node) → IsRooted root xs → Distinct (names_of (root ∷ xs))
names_apart_in root [] r = ((λ i. i), tt)
names_apart_in root (z ∷ xs) r =
    let d = names_apart_in root xs r.2 in
    ((λ i. elim i [ inl e ↦ r.0 (inl (sym e)) | inr j ↦ d.0 j ]), ((λ i. r.0 (inr i)), d.1))

-- the names of a sound tree differ
pub names_apart : (t : Tree) → IsSound t → Distinct (names_of (nodes t))
names_apart t s = names_apart_in t.root t.others s.parents_come_first

-- what is found has the name
pub found_name : (t : Tree) (a : ℕ) (x : Node) → find_node t a ≡ Some x → x.name ≡ a
found_name t a x e = eqb-true x.name a (find_in (λ x. x.name == a) x (nodes t) e).1

-- what is found is a node of the tree
pub found_in : (t : Tree) (a : ℕ) (x : Node) → find_node t a ≡ Some x → In x (nodes t)
found_in t a x e = (find_in (λ x. x.name == a) x (nodes t) e).0

-- what is found among the others has the name
pub other_name : (t : Tree) (b : ℕ) (y : Node) → find_other t b ≡ Some y → y.name ≡ b
other_name t b y e = eqb-true y.name b (find_in (λ x. x.name == b) y t.others e).1

-- what is found among the others is one of them
pub other_in : (t : Tree) (b : ℕ) (y : Node) → find_other t b ≡ Some y → In y t.others
other_in t b y e = (find_in (λ x. x.name == b) y t.others e).0

-- each node is found by its name
pub in_found : (t : Tree) → IsSound t → (x : Node) → In x (nodes t) → find_node t x.name ≡ Some x
in_found t s x i = find_member (λ y. y.name) x (nodes t) (names_apart t s) i

-- each node but the root is found among the others
pub in_other : (t : Tree) → IsSound t → (y : Node) → In y t.others → find_other t y.name ≡ Some y
in_other t s y i = find_member (λ z. z.name) y t.others (names_apart t s).1 i

-- so one name has one node
pub same_found : (t : Tree) (a : ℕ) (x y : Node) → find_node t a ≡ Some x → find_node t a ≡ Some y → x ≡ y
same_found t a x y e d = cc

-- the root is found
pub root_found : (t : Tree) → find_node t t.root.name ≡ Some t.root
root_found t =
    rw (eq-eqb t.root.name t.root.name refl)

-- what is found among the others is found among all nodes
pub other_found : (t : Tree) → IsSound t → (b : ℕ) (y : Node) → find_other t b ≡ Some y → find_node t b ≡ Some y
other_found t s b y e =
    subst (λ k. find_node t k ≡ Some y) (other_name t b y e) (in_found t s y (inr (other_in t b y e)))

-- and its name is not the name of the root
pub other_differs : (t : Tree) → IsSound t → (b : ℕ) (y : Node) → find_other t b ≡ Some y → t.root.name ≢ b
other_differs t s b y e = λ q. not_root t s y (other_in t b y e) (cc (other_name t b y e))

-- a node is the root or another
pub root_or_other : (t : Tree) (a : ℕ) (x : Node) → find_node t a ≡ Some x → (x ≡ t.root) ⊎ (find_other t a ≡ Some x)
root_or_other t a x e = go (t.root.name == a) e
  where
    go : (b : Bool) → cond b (Some t.root) (find_other t a) ≡ Some x → (x ≡ t.root) ⊎ (find_other t a ≡ Some x)
    go true k = inl cc
    go false k = inr k

-- the look-up that is a node wherever it is made
pub node_is : (t : Tree) (a : ℕ) (x : Node) → find_node t a ≡ Some x → node t a ≡ x
node_is t a x e = rw e

-- what is found has a name of the tree
pub found_is_name : (t : Tree) (a : ℕ) (x : Node) → find_node t a ≡ Some x → In a (names_of (nodes t))
found_is_name t a x e =
    subst (λ k. In k (names_of (nodes t))) (found_name t a x e) (name_in x (nodes t) (found_in t a x e))

-- each name of the tree has a node
pub name_found : (t : Tree) → IsSound t → (a : ℕ) → In a (names_of (nodes t)) → (x : Node) × (find_node t a ≡ Some x)
name_found t s a i = let (x, j, e) = In-map_from (λ x. x.name) a (nodes t) i in
    (x, subst (λ k. find_node t k ≡ Some x) (sym e) (in_found t s x j))

-- the parent is there
pub parent_found : (t : Tree) → IsSound t → (b : ℕ) (y : Node) → find_other t b ≡ Some y
    → (p : Node) × (find_node t y.up ≡ Some p)
parent_found t s b y e =
    let (p, j, u) = parent_in t.root t.others s.parents_come_first y (other_in t b y e) in
    (p, subst (λ k. find_node t k ≡ Some p) (sym u) (in_found t s p j))

root_up_in : (root : Node) (xs : List Node) → IsRooted root xs → root.up ≡ root.name
root_up_in root [] r = r
root_up_in root (z ∷ xs) r = root_up_in root xs r.2

-- the root is its own parent
pub root_up : (t : Tree) → IsSound t → t.root.up ≡ t.root.name
root_up t s = root_up_in t.root t.others s.parents_come_first

-- so each node's parent is there
pub up_found : (t : Tree) → IsSound t → (a : ℕ) (x : Node) → find_node t a ≡ Some x
    → (p : Node) × (find_node t x.up ≡ Some p)
up_found t s a x e = elim (root_or_other t a x e) [
  | inl r ↦ (t.root, subst (λ k. find_node t k ≡ Some t.root) (rw (← root_up t s, ← r)) (root_found t))
  | inr o ↦ parent_found t s a x o
]

module _ (t : Tree) (s : IsSound t) (P : ℕ → Type 0) (top : P t.root.name)
    (step : (b : ℕ) (y : Node) → find_other t b ≡ Some y → P y.up → P b) where
  down : (xs : List Node) → IsRooted t.root xs → ((x : Node) → In x xs → In x t.others) → (x : Node)
      → In x (t.root ∷ xs) → P x.name
  down xs r w x (inl e) = rw e top
  down [] r w x (inr i) = absurd i
  down (z ∷ xs) r w x (inr (inr i)) = down xs r.2 (λ y j. w y (inr j)) x (inr i)
  down (z ∷ xs) r w x (inr (inl e)) =
      let (y, j, u) = In-map_from (λ z. z.name) z.up (t.root ∷ xs) r.1 in
      let h = down xs r.2 (λ y j. w y (inr j)) y j in
      step x.name x (in_other t s x (w x (inl e))) (rw (e, u) h)

  -- what holds of the root, and of each other node where it holds of the parent, holds of every node
  pub by_parents : (a : ℕ) (x : Node) → find_node t a ≡ Some x → P a
  unfolding down
  by_parents a x e = rw (← found_name t a x e) (down t.others s.parents_come_first (λ y j. j) x (found_in t a x e))

-- ---- a tree whose nodes are changed, each under its name

find_mapped : (f : Node → Node) → ((x : Node) → (f x).name ≡ x.name) → (a : ℕ) (xs : List Node)
    → find (λ x. x.name == a) (map f xs) ≡ option_map f (find (λ x. x.name == a) xs)
find_mapped f names a [] = refl
find_mapped f names a (x ∷ xs) = cc (names x, go (x.name == a) (find_mapped f names a xs))
  where
    go : (b : Bool) → find (λ z. z.name == a) (map f xs) ≡ option_map f (find (λ z. z.name == a) xs) → cond b
        (Some (f x)) (find (λ z. z.name == a) (map f xs)) ≡ option_map f (cond b (Some x) (find (λ z. z.name == a) xs))
    go true h = refl
    go false h = h

-- a look-up in the changed tree is the change of the look-up
pub find_changed : (f : Node → Node) (t : Tree) → ((x : Node) → (f x).name ≡ x.name) → (a : ℕ)
    → find_node (on_nodes f t) a ≡ option_map f (find_node t a)
find_changed f t names a = find_mapped f names a (nodes t)

-- so is one among the others
pub find_other_changed : (f : Node → Node) (t : Tree) → ((x : Node) → (f x).name ≡ x.name) → (b : ℕ)
    → find_other (on_nodes f t) b ≡ option_map f (find_other t b)
find_other_changed f t names b = find_mapped f names b t.others

-- what is found there is the change of what was found before
pub changed_back : (f : Node → Node) (t : Tree) → ((x : Node) → (f x).name ≡ x.name) → (a : ℕ) (x : Node)
    → find_node (on_nodes f t) a ≡ Some x → (z : Node) × (find_node t a ≡ Some z) × (x ≡ f z)
changed_back f t names a x e = go (find_node t a) refl (rw (← find_changed f t names a) e)
  where
    go : (o : Option Node) → find_node t a ≡ o → option_map f o ≡ Some x
        → (z : Node) × (find_node t a ≡ Some z) × (x ≡ f z)
    go None k h = cc
    go (Some z) k h = let same : x ≡ f z = cc in (z, k, same)
