-- The way up from a partition to whoever takes a vector.
use Rattle.pip_switch.specs.Plain.{plain_world}
use Rattle.std.proofs.Common.{◌≡◌, ◌≢◌, ℕ, ◌+◌, ◌≤◌, cond, inl, inr, Bool, true, false, List, [], ◌∷◌, length, refl}
use Rattle.std.proofs.Common.{sym, ap, ap₂, ◌∙◌, subst, arith, eq-eqb, ne_eqb, Option, Some, None}
use Rattle.pip_model.specs.Deliver.{nearest_above, nearest_among, nearest_taker, taker_or}
use Rattle.pip_model.specs.Handlers.{handler}
use Rattle.pip_model.specs.Midway.{find_other}
use Rattle.pip_model.specs.Lists.{has}
use Rattle.pip_model.specs.Sound.{IsRooted, IsSound}
use Rattle.pip_model.specs.Tree.{Node, Tree, chain, chain_in, find_node}
use Rattle.pip_model.specs.Worlds.{World, running}
use Rattle.pip_base.specs.declared.types.Ctx.{Ctx}
use Rattle.pip_model.specs.declared.processors.Taker.{Taker}
use Rattle.pip_switch.specs.Takers.{free_handler}
use Rattle.pip_model.proofs.Trees.Ancestors.{chain-node}
use Rattle.pip_model.proofs.Trees.Depth.{depth, depth_few, depth_some, depth_up, few_nodes, own_parent}
use Rattle.pip_model.proofs.Trees.Lookup.{found_name, other_in, other_name, root_or_other, root_up, up_found}

-- ---- chains

root_chain_in : (root : Node) (xs : List Node) → IsRooted root xs → chain_in root xs root.name ≡ root ∷ []
root_chain_in root [] r = ap (λ b. cond b (root ∷ []) []) (eq-eqb root.name root.name refl)
root_chain_in root (y ∷ ys) r = ap (λ b. cond b (y ∷ chain_in root ys y.up) (chain_in root ys root.name))
    (ne_eqb y.name root.name (λ e. r.0 (inl e))) ∙ root_chain_in root ys r.2

-- the root's chain is it alone
root_chain_is : (t : Tree) → IsSound t → chain t t.root.name ≡ t.root ∷ []
root_chain_is t s = root_chain_in t.root t.others s.parents_come_first

-- a node's chain begins with it
chain_first : (t : Tree) → IsSound t → (a : ℕ) (x : Node) → find_node t a ≡ Some x
    → (qs : List Node) × (chain t a ≡ x ∷ qs)
chain_first t s a x found = elim (root_or_other t a x found) [
  | inl e ↦ (
    [],
    subst (λ z. chain t a ≡ z ∷ []) (sym e)
        (ap (chain t) (sym (found_name t a x found) ∙ ap (λ z. z.name) e) ∙ root_chain_is t s),
  )
  | inr o ↦ (chain t x.up, ap (chain t) (sym (other_name t a x o)) ∙ chain-node t s x (other_in t a x o))
]

-- ---- the way up

-- this many steps up from a partition, and none took the vector so far
pub record Rise (t : Tree) (w : World) (k part at steps : ℕ) : Type 0 where
  pub x : Node
  pub x_is : find_node t at ≡ Some x
  pub long : steps + depth t at ≡ depth t part
  pub same : nearest_taker w part k ≡ nearest_above w k (chain t at)

module _ (t : Tree) (s : IsSound t) (w : World) (tree : w.tree ≡ t) (k part : ℕ) where
  pub rise_start : (x : Node) → find_node t part ≡ Some x → Rise t w k part part 0
  rise_start x found = record {
    x = x;
    x_is = found;
    long = omega arith;
    same = ap (λ u. nearest_above w k (chain u part)) tree;
  }

  module _ (at steps : ℕ) (r : Rise t w k part at steps) where
    -- the next is there
    pub rise_up : (up : ℕ) → up ≡ r.x.up → (q : Node) × (find_node t up ≡ Some q)
    rise_up up up_is = let (q, q_is) = up_found t s at r.x r.x_is in (q, ap (find_node t) up_is ∙ q_is)

    -- at the root nobody is left
    pub rise_end : (up : ℕ) → up ≡ r.x.up → up ≡ at → None ≡ nearest_taker w part k
    rise_end up up_is top =
        let root = own_parent t s at r.x r.x_is (sym up_is ∙ top) in
        let here : chain t at ≡ t.root ∷ [] =
        ap (chain t) (sym (found_name t at r.x r.x_is) ∙ ap (λ z. z.name) root) ∙ root_chain_is t s in
        sym (r.same ∙ ap (nearest_above w k) here)

    module _ (up : ℕ) (up_is : up ≡ r.x.up) (moved : up ≢ at) where
      is_other : find_other t at ≡ Some r.x
      is_other = elim (root_or_other t at r.x r.x_is) [
        | inl root ↦ absurd (moved (up_is ∙ ap (λ z. z.up) root ∙ root_up t s ∙ sym (ap (λ z. z.name) root)
            ∙ found_name t at r.x r.x_is))
        | inr o ↦ o
      ]

      -- the next decides, or those above it
      next : (q : Node) → find_node t up ≡ Some q → (qs : List Node) × (chain t up ≡ q ∷ qs) × (nearest_taker w part k
          ≡ taker_or (has (running w) up) (handler t up k) q r.x.born (nearest_above w k (chain t up)))
      next q found =
          let (qs, chain_is) = chain_first t s up q found in
          let here : chain t at ≡ r.x ∷ q ∷ qs = ap (chain t) (sym (other_name t at r.x is_other)) ∙ chain-node t s r.x
          (other_in t at r.x is_other) ∙ ap (λ c. r.x ∷ c) (ap (chain t) (sym up_is) ∙ chain_is) in
          let name : q.name ≡ up = found_name t up q found in (
            qs,
            chain_is,
            r.same ∙ ap (nearest_above w k) here ∙ ap (λ n.
                taker_or (has (running w) n) (handler w.tree n k) q r.x.born (nearest_among w k q.born qs)) name
                ∙ ap (λ u. taker_or (has (running w) up) (handler u up k) q r.x.born (nearest_among w k q.born qs)) tree
                ∙ ap (λ c. taker_or (has (running w) up) (handler t up k) q r.x.born (nearest_above w k c))
                (sym chain_is),
          )

      -- whoever runs or has no handler is passed
      passed : (b : Bool) (o : Option Ctx) (q : Node) (born : ℕ) (rest : Option Taker) → None ≡ cond b None o
          → taker_or b o q born rest ≡ rest
      passed true o q born rest h = refl
      passed false None q born rest h = refl
      passed false (Some y) q born rest h = cc

      taken : (b : Bool) (o : Option Ctx) (y : Ctx) (q : Node) (born : ℕ) (rest : Option Taker) → Some y ≡ cond b None o
          → taker_or b o q born rest ≡ Some (record { to = q.name; handler = y; born = born })
      taken true o y q born rest h = cc
      taken false None y q born rest h = cc
      taken false (Some z) y q born rest h = let one : y ≡ z = cc in
          ap (λ v. Some (record { to = q.name; handler = v; born = born })) (sym one)

      pub rise_on : None ≡ free_handler (plain_world t w.cpus) up k → Rise t w k part up (steps + 1)
      rise_on not_taken =
          let (q, q_is) = up_found t s at r.x r.x_is in
          let found : find_node t up ≡ Some q = ap (find_node t) up_is ∙ q_is in
          let (qs, chain_is, is) = next q found in
          let low = depth_up t s at r.x is_other in
          let long = r.long in
          let same : depth t up ≡ depth t r.x.up = ap (depth t) up_is in
          record {
            x = q;
            x_is = found;
            long = omega arith;
            same =
                is ∙ passed (has (running w) up) (handler t up k) q r.x.born (nearest_above w k (chain t up)) not_taken;
          }

      -- the nearest that does not run and has a handler takes it
      pub rise_taken : (h : Ctx) → Some h ≡ free_handler (plain_world t w.cpus) up k → (born : ℕ) → born ≡ r.x.born
          → Some (record { to = up; handler = h; born = born }) ≡ nearest_taker w part k
      rise_taken h has_it born born_is =
          let (q, q_is) = up_found t s at r.x r.x_is in
          let found : find_node t up ≡ Some q = ap (find_node t) up_is ∙ q_is in
          let (qs, chain_is, is) = next q found in
          let name : q.name ≡ up = found_name t up q found in
          sym (is ∙ taken (has (running w) up) (handler t up k) h q r.x.born (nearest_above w k (chain t up)) has_it
          ∙ ap₂ (λ n b. Some (record { to = n; handler = h; born = b })) name (sym born_is))

    pub rise_full : steps ≡ t.frames → ⊥
    rise_full e = let few = few_nodes t s in let long = r.long in let all = depth_few t part in
        let some = depth_some t s at r.x r.x_is in omega arith

    -- nor more than there are partitions from here up to the root
    pub rise_chain : steps + 1 ≤ length (chain t part)
    unfolding depth
    rise_chain = let long = r.long in let some = depth_some t s at r.x r.x_is in omega arith
