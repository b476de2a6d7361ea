-- The way up from a partition, by which a vector is delivered.
use Rattle.std.proofs.Common.{◌≡◌, ◌≢◌, ℕ, ◌+◌, ◌&&◌, ◌||◌, inl, inr, Bool, true, false, List, [], ◌∷◌, refl, sym, ap}
use Rattle.std.proofs.Common.{◌∙◌, arith, Option, Some}
use Rattle.pip_model.specs.Lists.{has}
use Rattle.pip_model.specs.Sound.{IsSound}
use Rattle.pip_model.specs.Tree.{Node, Tree, chain, find_node}
use Rattle.pip_model.specs.Worlds.{running}
use Rattle.pip_model.specs.declared.processors.Occupant.{Occupant}
use Rattle.pip_model.proofs.Trees.Ancestors.{chain-node}
use Rattle.pip_model.proofs.Trees.Depth.{depth, depth_few, depth_some, depth_up, few_nodes, own_parent}
use Rattle.pip_model.proofs.Trees.Lookup.{found_name, other_in, other_name, root_or_other, root_up, up_found}
use Rattle.pip_model.proofs.Trees.Walks.{root_line}
use Rattle.pip_guests.specs.Sights.{Sight}
use Rattle.pip_guests.specs.Sights as T
use Rattle.pip_switch.specs.Plain.{plain_world}

-- a chain begins with its node
chain_first : (t : Tree) → IsSound t → (a : ℕ) (x : Node) → find_node t a ≡ Some x
    → (qs : List Node) × (chain t a ≡ x ∷ qs)
chain_first t s a x found = elim (root_or_other t a x found) [
  | inl e ↦ (
    [],
    ap (chain t) (sym (found_name t a x found) ∙ ap (λ z. z.name) e) ∙ root_line t s
        ∙ ap (λ z. z ∷ []) (sym e),
  )
  | inr o ↦ (chain t x.up, ap (chain t) (sym (other_name t a x o)) ∙ chain-node t s x (other_in t a x o))
]

module _ (own : List ℕ) (sight : Sight) (t : Tree) (s : IsSound t) (cs : List (Option Occupant)) (k part : ℕ)
  where
    abbrev above : ℕ → Bool
    above p = T.above_pass own sight (plain_world t cs) k (chain t p)

    -- a number of steps up, and all that were passed miss
    pub record Ascent (at steps : ℕ) : Type 0 where
      pub x : Node
      pub x_is : find_node t at ≡ Some x
      pub long : steps + depth t at ≡ depth t part
      pub same : above part ≡ above at

    pub ascent_start : (x : Node) → find_node t part ≡ Some x → Ascent part 0
    ascent_start x found = record { x = x; x_is = found; long = omega arith; same = refl }

    module _ (at steps : ℕ) (r : Ascent at steps) (up : ℕ) (up_is : up ≡ r.x.up) where
      -- at the root nobody is left
      pub ascent_end : up ≡ at → true ≡ above part
      ascent_end top =
          let root = own_parent t s at r.x r.x_is (sym up_is ∙ top) in
          let here : chain t at ≡ t.root ∷ [] =
          ap (chain t) (sym (found_name t at r.x r.x_is) ∙ ap (λ z. z.name) root) ∙ root_line t s in
          sym (r.same ∙ ap (T.above_pass own sight (plain_world t cs) k) here)

      pub ascent_up : (q : Node) × (find_node t up ≡ Some q)
      ascent_up = let (q, q_is) = up_found t s at r.x r.x_is in (q, ap (find_node t) up_is ∙ q_is)

      module _ (moved : up ≢ at) where
        -- the next is looked at, and then those above it
        next : above at ≡ ((has (running (plain_world t cs)) up || T.handler_passes own sight t up k) && above up)
        next = elim (root_or_other t at r.x r.x_is) [
          | inl root ↦ absurd (moved (up_is ∙ ap (λ z. z.up) root ∙ root_up t s ∙ sym (ap (λ z. z.name) root)
              ∙ found_name t at r.x r.x_is))
          | inr o ↦
              let (q, found) = ascent_up in
              let (qs, chain_is) = chain_first t s up q found in
              let here : chain t at ≡ r.x ∷ q ∷ qs = ap (chain t) (sym (other_name t at r.x o))
              ∙ chain-node t s r.x (other_in t at r.x o) ∙ ap (λ c. r.x ∷ c) (ap (chain t) (sym up_is) ∙ chain_is) in
              ap (T.above_pass own sight (plain_world t cs) k) here
              ∙ ap (λ n. (has (running (plain_world t cs)) n || T.handler_passes own sight t n k)
              && T.handlers_pass own sight (plain_world t cs) k qs) (found_name t up q found)
              ∙ ap (λ c. (has (running (plain_world t cs)) up || T.handler_passes own sight t up k)
              && T.above_pass own sight (plain_world t cs) k c) (sym chain_is)
        ]

        pub ascent_on : true ≡ (has (running (plain_world t cs)) up || T.handler_passes own sight t up k)
            → Ascent up (steps + 1)
        ascent_on passed = elim (root_or_other t at r.x r.x_is) [
          | inl root ↦ absurd (moved (up_is ∙ ap (λ z. z.up) root ∙ root_up t s ∙ sym (ap (λ z. z.name) root)
              ∙ found_name t at r.x r.x_is))
          | inr o ↦
              let (q, found) = ascent_up in
              let low = depth_up t s at r.x o in
              let long = r.long in
              let same : depth t up ≡ depth t r.x.up = ap (depth t) up_is in
              record {
                x = q;
                x_is = found;
                long = omega arith;
                same = r.same ∙ next ∙ ap (λ b. b && above up) (sym passed);
              }
        ]

        pub ascent_met : false ≡ (has (running (plain_world t cs)) up || T.handler_passes own sight t up k)
            → false ≡ above part
        ascent_met met = sym (r.same ∙ next ∙ ap (λ b. b && above up) (sym met))

    pub ascent_full : (at steps : ℕ) → Ascent at steps → steps ≡ t.frames → ⊥
    ascent_full at steps r e = let few = few_nodes t s in let long = r.long in let all = depth_few t part in
        let some = depth_some t s at r.x r.x_is in omega arith
