-- The ancestry of a node: which partitions are above it.
use Rattle.std.proofs.Common.{◌≡◌, ◌≢◌, ℕ, ◌==◌, ◌⊎◌, inl, inr, Bool, true, false, cond, List, [], ◌∷◌, map, refl, sym}
use Rattle.std.proofs.Common.{ap, ap₂, ◌∙◌, subst, eqb-true, eq-eqb, Option, Some, None}
use Rattle.std.specs.Prelude.{find, unwrap_or, option_map}
use Rattle.std.proofs.lemmas.Bool.{ne_eqb}
use Rattle.pip_model.specs.Ancestors.{Above, further, parent}
use Rattle.pip_model.specs.Lists.{In}
use Rattle.pip_model.specs.Local.{IsBelow}
use Rattle.pip_model.specs.Sound.{IsRooted, IsSound}
use Rattle.pip_model.specs.Tree.{Node, Tree, ancestry, chain, chain_in, children, config, held_pages, names_of, node}
use Rattle.pip_model.specs.Tree.{nodes, on_nodes, row_pages}
use Rattle.pip_model.proofs.OnLists.Members.{In-append_left, In-append_right, In-map_from, In-filter_from}
use Rattle.pip_model.proofs.Trees.Ancestors.{name_in, same_name, not_root, chain-node, chain-above, holds_up}
use Rattle.pip_model.proofs.Trees.Ancestors.{name-config, holders-related}
use Rattle.pip_model.proofs.Trees.Free.{IsName, node_found}
use Rattle.pip_model.proofs.Locality.Reads.{above_in_ancestry}

pub chain_members : (root : Node) (xs : List Node) (p : ℕ) (z : Node) → In z (chain_in root xs p) → In z (root ∷ xs)
chain_members root [] p z i = first (root.name == p) i
  where
    first : (b : Bool) → In z (cond b (root ∷ []) []) → In z (root ∷ [])
    first true j = j
    first false j = absurd j
chain_members root (x ∷ xs) p z i = next (x.name == p) i (chain_members root xs x.up z) (chain_members root xs p z)
  where
    up : In z (root ∷ xs) → In z (root ∷ x ∷ xs)
    up (inl e) = inl e
    up (inr j) = inr (inr j)

    next : (b : Bool) → In z (cond b (x ∷ chain_in root xs x.up) (chain_in root xs p)) → (In z (chain_in root xs x.up)
        → In z (root ∷ xs)) → (In z (chain_in root xs p) → In z (root ∷ xs)) → In z (root ∷ x ∷ xs)
    next true (inl e) f g = inr (inl e)
    next true (inr j) f g = up (f j)
    next false j f g = up (g j)

-- a node itself is in its ancestry
pub own_ancestry : (t : Tree) → IsSound t → (x : Node) → In x (nodes t) → In x.name (ancestry t x.name)
own_ancestry t s x (inr i) = rw (chain-node t s x i) (inl refl)
own_ancestry t s x (inl e) =
    rw e (root_in t.root t.others s.parents_come_first)
  where
    root_in : (root : Node) (xs : List Node) → IsRooted root xs
        → In root.name (map (λ z. z.name) (chain_in root xs root.name))
    root_in root [] r = rw (eq-eqb root.name root.name refl) (inl refl)
    root_in root (y ∷ ys) r =
        rw (ne_eqb y.name root.name (λ q. r.0 (inl q))) (root_in root ys r.2)

pub above_in : (t : Tree) (y x : Node) → Above t y x → In y (nodes t)
above_in t y x (parent i j e) = j
above_in t y x (further {z = z} i j e a) = above_in t y z a

pub above_trans : (t : Tree) (z y x : Node) → Above t z y → Above t y x → Above t z x
above_trans t z y x a (parent i j e) = further i j e a
above_trans t z y x a (further {z = v} i j e b) = further i j e (above_trans t z y v a b)

-- z is x or is above it
abbrev pub IsOver : Tree → Node → Node → Type 0
IsOver t z x = (z ≡ x) ⊎ Above t z x

pub over_trans : (t : Tree) (z y x : Node) → IsOver t z y → IsOver t y x → IsOver t z x
over_trans t z y x (inl e) o = rw e o
over_trans t z y x (inr a) (inl e) = inr (rw (← e) a)
over_trans t z y x (inr a) (inr b) = inr (above_trans t z y x a b)

pub over_ancestry : (t : Tree) → IsSound t → (z x : Node) → In z (nodes t) → IsOver t z x
    → In z.name (ancestry t x.name)
over_ancestry t s z x i (inl e) = rw (← e) (own_ancestry t s z i)
over_ancestry t s z x i (inr a) = above_in_ancestry t s z x i a (own_ancestry t s z i)

pub ancestry_over : (t : Tree) → IsSound t → (x : Node) → In x (nodes t) → (q : ℕ) → In q (ancestry t x.name)
    → (z : Node) × In z (nodes t) × (z.name ≡ q) × IsOver t z x
ancestry_over t s x i q h =
    let (z, j, e) = In-map_from (λ z. z.name) q (chain t x.name) h in
    (z, chain_members t.root t.others x.name z j, sym e, chain-above t s z x i j)

-- what is above a name in x's ancestry is in x's ancestry
pub ancestry_trans : (t : Tree) → IsSound t → (x : Node) → In x (nodes t) → (p q : ℕ) → In q (ancestry t x.name)
    → In p (ancestry t q) → In p (ancestry t x.name)
ancestry_trans t s x i p q h k =
    let (z, j, e, o) = ancestry_over t s x i q h in
    let (y, l, f, v) = ancestry_over t s z j p (rw e k) in
    rw (← f) (over_ancestry t s y x l (over_trans t y z x v o))

-- the ancestry of a child has that of its parent
pub ancestry_down : (t : Tree) → IsSound t → (x y : Node) → In x t.others → x.up ≡ y.name → (p : ℕ)
    → In p (ancestry t y.name) → In p (ancestry t x.name)
ancestry_down t s x y i u p h =
    rw (chain-node t s x i, u) (inr h)

-- two that are above one node are related
pub over_related : (t : Tree) → IsSound t → (z y x : Node) → In z (nodes t) → In y (nodes t) → In x (nodes t)
    → IsOver t z x → IsOver t y x → (z ≡ y) ⊎ (Above t z y ⊎ Above t y z)
over_related t s z y x i j k a b = holders-related t x.name s z y i j (holds z a) (holds y b)
  where
    holds : (v : Node) → IsOver t v x → In x.name (held_pages v)
    holds v (inl e) = rw e (In-append_left x.name (config x) (row_pages x) (name-config t s x k))
    holds v (inr c) = In-append_right x.name (config v) (row_pages v)
        (holds_up t x.name s v x c (In-append_left x.name (config x) (row_pages x) (name-config t s x k)))

pub root_is_one : (t : Tree) → IsSound t → t.root.name ≡ 1
root_is_one t s = ap (λ z. z.name) s.boot_root.same

-- a node that is no root is none in another tree
pub other_in : (t u : Tree) → IsSound t → IsSound u → (x : Node) → In x t.others → In x (nodes u) → In x u.others
other_in t u s r x i (inl e) =
    absurd (not_root t s x i (rw (root_is_one t s, ← root_is_one u r, ← e)))
other_in t u s r x i (inr j) = j

-- nodes of a kind that goes on upward, all of which are in u
module _ (t u : Tree) (s : IsSound t) (r : IsSound u) (P : Node → Type 0) (up : (x y : Node) → In x t.others
    → In y (nodes t) → x.up ≡ y.name → P x → P y) (into : (x : Node) → In x (nodes t) → P x → In x (nodes u)) where
  pub above_moves : (y x : Node) → Above t y x → P x → Above u y x
  above_moves y x (parent i j e) h = parent (other_in t u s r x i (into x (inr i) h)) (into y j (up x y i j e h)) e
  above_moves y x (further {z = z} i j e a) h = further (other_in t u s r x i (into x (inr i) h))
      (into z j (up x z i j e h)) e (above_moves y z a (up x z i j e h))

  pub ancestry_moves : (x : Node) → In x (nodes t) → P x → (q : ℕ) → In q (ancestry t x.name) → In q (ancestry u x.name)
  ancestry_moves x i h q m =
      let (z, j, e, o) = ancestry_over t s x i q m in
      rw (← e) (elim o [
        | inl d ↦ subst (λ v. In v.name (ancestry u x.name)) (sym d) (own_ancestry u r x (into x i h))
        | inr a ↦ let b = above_moves z x a h in over_ancestry u r z x (above_in u z x b) (inr b)
      ])

-- a change that keeps names and parents keeps every line
pub ancestry_in : (f : Node → Node) → ((x : Node) → (f x).name ≡ x.name) → ((x : Node) → (f x).up ≡ x.up)
    → (root : Node) (xs : List Node) (p : ℕ)
    → map (λ z. z.name) (chain_in (f root) (map f xs) p) ≡ map (λ z. z.name) (chain_in root xs p)
ancestry_in f names ups root [] p =
    cc (names root, one (root.name == p))
  where
    one : (b : Bool) → map (λ z. z.name) (cond b (f root ∷ []) []) ≡ map (λ z. z.name) (cond b (root ∷ []) [])
    one true = rw (names root)
    one false = refl
ancestry_in f names ups root (x ∷ xs) p = ap (λ n.
    map (λ z. z.name) (cond (n == p) (f x ∷ chain_in (f root) (map f xs) (f x).up) (chain_in (f root) (map f xs) p)))
    (names x) ∙ one (x.name == p) (ancestry_in f names ups root xs x.up) (ancestry_in f names ups root xs p)
  where
    one : (b : Bool) → map (λ z. z.name) (chain_in (f root) (map f xs) x.up) ≡ map (λ z. z.name) (chain_in root xs x.up)
        → map (λ z. z.name) (chain_in (f root) (map f xs) p) ≡ map (λ z. z.name) (chain_in root xs p)
        → map (λ z. z.name) (cond b (f x ∷ chain_in (f root) (map f xs) (f x).up) (chain_in (f root) (map f xs) p))
        ≡ map (λ z. z.name) (cond b (x ∷ chain_in root xs x.up) (chain_in root xs p))
    one true h k =
        ap₂ (λ n l. n ∷ l) (names x) (rw (ups x, h))
    one false h k = k

find_on : (f : Node → Node) → ((x : Node) → (f x).name ≡ x.name) → (p : ℕ) (xs : List Node)
    → find (λ x. x.name == p) (map f xs) ≡ option_map f (find (λ x. x.name == p) xs)
find_on f names p [] = refl
find_on f names p (x ∷ xs) = cc (names x, one (x.name == p) (find_on f names p xs))
  where
    one : (b : Bool) → find (λ x. x.name == p) (map f xs) ≡ option_map f (find (λ x. x.name == p) xs) → cond b
        (Some (f x)) (find (λ x. x.name == p) (map f xs)) ≡ option_map f (cond b (Some x) (find (λ x. x.name == p) xs))
    one true h = refl
    one false h = h

-- the node of a name, after a change of each node
pub node_on : (f : Node → Node) → ((x : Node) → (f x).name ≡ x.name) → (t : Tree) (p : ℕ)
    → node (on_nodes f t) p ≡ f (node t p)
node_on f names t p =
    rw (find_on f names p (nodes t), one (find (λ x. x.name == p) (nodes t)))
  where
    one : (o : Option Node) → unwrap_or (option_map f o) (f t.root) ≡ f (unwrap_or o t.root)
    one None = refl
    one (Some x) = refl

pub not_own_parent : (t : Tree) → IsSound t → (c : Node) → In c t.others → c.up ≢ c.name
not_own_parent t s c i e = in_list t.root t.others s.parents_come_first c i e
  where
    in_list : (root : Node) (xs : List Node) → IsRooted root xs → (c : Node) → In c xs → c.up ≢ c.name
    in_list root [] r c i e = i
    in_list root (x ∷ xs) r c (inl q) e =
        r.0 (subst (λ k. In k (names_of (root ∷ xs))) (rw (← q, e, q)) r.1)
    in_list root (x ∷ xs) r c (inr i) e = in_list root xs r.2 c i e

-- a partition's node, by its name
pub named_node : (t : Tree) (p : ℕ) → IsSound t → (x : Node) → In x (nodes t) → x.name ≡ p → node t p ≡ x
named_node t p s x i e =
    let n : IsName t p = subst (IsName t) e (name_in x (nodes t) i) in
    let f = node_found t p n in
    same_name t (node t p) x s f.0 i (cc (f.1))

pub child_below : (t : Tree) (p : ℕ) → IsSound t → IsName t p → (x : Node) → In x (children t p) → IsBelow t p x
child_below t p s n x i =
    let k = In-filter_from (λ x. x.up == p) x t.others i in
    let up : x.up ≡ p = eqb-true x.up p k.1 in
    let f = node_found t p n in
    let o : In p (ancestry t p) = rw (← f.1) (own_ancestry t s (node t p) f.0) in (
      inr k.0,
      rw (chain-node t s x k.0, up) (inr o),
    )
