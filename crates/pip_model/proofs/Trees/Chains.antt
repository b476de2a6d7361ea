-- Chains of names: which partition is above which, by look-ups, and which pages they share.
use Rattle.std.proofs.Common.{◌≡◌, ◌≢◌, ℕ, ◌⊎◌, inl, inr, refl, sym, ap, ◌∙◌, subst, Some}
use Rattle.pip_model.specs.Ancestors.{Above, further, parent}
use Rattle.pip_model.specs.Lists.{In}
use Rattle.pip_model.specs.Midway.{OnChain, find_other, here, over}
use Rattle.pip_model.specs.Sound.{IsSound}
use Rattle.pip_model.specs.Tree.{Node, Tree, config, find_node, held_pages, row_pages}
use Rattle.pip_model.proofs.OnLists.Members.{In-append_right}
use Rattle.pip_model.proofs.Trees.Ancestors.{holds_up, one_config, holders-related}
use Rattle.pip_model.proofs.Trees.Ancestry.{IsOver}
use Rattle.pip_model.proofs.Trees.Lookup.{by_parents, found_in, found_name, in_other, other_differs, other_found}
use Rattle.pip_model.proofs.Trees.Lookup.{other_in, parent_found, same_found}

-- a chain goes on upward
pub chain-trans : (t : Tree) (a b c : ℕ) → OnChain t a b → OnChain t b c → OnChain t a c
chain-trans t a b _ h here = h
chain-trans t a b c h (over y e r) = over y e (chain-trans t a b y.up h r)

-- a parent is on the chain
pub chain_parent : (t : Tree) (b : ℕ) (y : Node) → find_other t b ≡ Some y → OnChain t y.up b
chain_parent t b y e = over y e here

-- of two names on a chain, one is on the chain of the other
pub chain_linear : (t : Tree) (a b c : ℕ) → OnChain t a c → OnChain t b c → OnChain t a b ⊎ OnChain t b a
chain_linear t a b _ h here = inl h
chain_linear t a b c here (over y e r) = inr (over y e r)
chain_linear t a b c (over z d q) (over y e r) = let same : z ≡ y = cc in
    chain_linear t a b y.up (rw (← same) q) r

-- a name on a chain is its first, or is on the chain of the parent
pub chain_up : (t : Tree) (a b : ℕ) (y : Node) → find_other t b ≡ Some y → OnChain t a b → (a ≡ b) ⊎ OnChain t a y.up
chain_up t a _ y e here = inl refl
chain_up t a b y e (over z d r) = let same : z ≡ y = cc in inr (rw (← same) r)

-- the first step down a chain: a child of its top
pub first_step : (t : Tree) (a b : ℕ) → OnChain t a b
    → (b ≡ a) ⊎ ((w : ℕ) × (z : Node) × (find_other t w ≡ Some z) × (z.up ≡ a) × OnChain t w b)
first_step t a _ here = inl refl
first_step t a b (over y e r) = elim (first_step t a y.up r) [
  | inl same ↦ inr (b, y, e, same, here)
  | inr s ↦ inr (s.0, s.1, s.2, s.3, over y e s.4)
]

-- every chain comes to the root
pub from_root : (t : Tree) → IsSound t → (a : ℕ) (x : Node) → find_node t a ≡ Some x → OnChain t t.root.name a
from_root t s a x e = by_parents t s (OnChain t t.root.name) here (λ b y d r. over y d r) a x e

-- an ancestor is on the chain
pub above_chain : (t : Tree) → IsSound t → (y x : Node) → Above t y x → OnChain t y.name x.name
above_chain t s y x (parent i j e) = over x (in_other t s x i) (rw e here)
above_chain t s y x (further {z = z} i j e a) =
    over x (in_other t s x i) (rw e (above_chain t s y z a))

-- and a name on the chain is that of the node or of an ancestor
pub chain_over : (t : Tree) → IsSound t → (a b : ℕ) → OnChain t a b → (y x : Node) → find_node t a ≡ Some y
    → find_node t b ≡ Some x → IsOver t y x
chain_over t s a _ here y x d e = inl (same_found t a y x d e)
chain_over t s a b (over z k r) y x d e =
    let same : x ≡ z = same_found t b x z e (other_found t s b z k) in
    let (p, q) = parent_found t s b z k in
    let up : x.up ≡ p.name = rw same (sym (found_name t z.up p q)) in
    let i : In x t.others = rw same (other_in t b z k) in
    elim (chain_over t s a z.up r y p d q) [
      | inl w ↦ inr (parent i (found_in t a y d) (rw (up, ← w)))
      | inr w ↦ inr (further i (found_in t z.up p q) up w)
    ]

-- what a node holds is held all up its chain
pub held_up : (t : Tree) → IsSound t → (a b g : ℕ) → OnChain t a b → (y x : Node) → find_node t a ≡ Some y
    → find_node t b ≡ Some x → In g (held_pages x) → In g (held_pages y)
held_up t s a b g r y x d e h = elim (chain_over t s a b r y x d e) [
  | inl w ↦ rw w h
  | inr w ↦ In-append_right g (config y) (row_pages y) (holds_up t g s y x w h)
]

-- two nodes with a common page are on one chain
pub common_chain : (t : Tree) → IsSound t → (a b g : ℕ) (x y : Node) → find_node t a ≡ Some x → find_node t b ≡ Some y
    → In g (held_pages x) → In g (held_pages y) → OnChain t a b ⊎ OnChain t b a
common_chain t s a b g x y d e h k = elim (holders-related t g s x y (found_in t a x d) (found_in t b y e) h k) [
  | inl w ↦
      inl (rw (← found_name t a x d, w, found_name t b y e) here)
  | inr (inl w) ↦ inl (named a b x y d e (above_chain t s x y w))
  | inr (inr w) ↦ inr (named b a y x e d (above_chain t s y x w))
]
  where
    named : (p q : ℕ) (v w : Node) → find_node t p ≡ Some v → find_node t q ≡ Some w → OnChain t v.name w.name
        → OnChain t p q
    named p q v w i j r =
        rw (← found_name t p v i) (subst (OnChain t v.name) (found_name t q w j) r)

-- a page of configuration has one owner
pub one_owner : (t : Tree) → IsSound t → (a b f : ℕ) (x y : Node) → find_node t a ≡ Some x → find_node t b ≡ Some y
    → In f (config x) → In f (config y) → a ≡ b
one_owner t s a b f x y d e h k = sym (found_name t a x d)
    ∙ ap (λ n. n.name) (one_config t f s x y (found_in t a x d) (found_in t b y e) h k) ∙ found_name t b y e

-- so two nodes have no page of configuration in common
pub config_apart : (t : Tree) → IsSound t → (a b f : ℕ) (x y : Node) → find_node t a ≡ Some x → find_node t b ≡ Some y
    → a ≢ b → In f (config x) → In f (config y) → ⊥
config_apart t s a b f x y d e n h k = n (one_owner t s a b f x y d e h k)

-- the chain of the root is the root alone
pub root_chain : (t : Tree) → IsSound t → (a : ℕ) → OnChain t a t.root.name → a ≡ t.root.name
root_chain t s a r = at t.root.name r refl
  where
    at : (b : ℕ) → OnChain t a b → b ≡ t.root.name → a ≡ t.root.name
    at _ here e = e
    at b (over y k q) e = absurd (other_differs t s b y k (sym e))
