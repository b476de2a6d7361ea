-- prepare from one step of the code to the next.
use Rattle.std.proofs.Common.{◌≡◌, ◌≢◌, ℕ, ◌+◌, ◌-◌, ◌/◌, ◌<◌, ◌≤◌, ◌^◌, cond, inl, inr, List, [], ◌∷◌, length, refl}
use Rattle.std.proofs.Common.{sym, ap, ◌∙◌, subst, arith, Option, Some, None}
use Rattle.pip_model.specs.Accepted.{MayPrepare}
use Rattle.std.specs.Prelude.{option_map, unwrap_or, zero, suc}
use Rattle.std.proofs.lemmas.Bool.{cases_Bool}
use Rattle.pip_base.specs.declared.outcome.Status.{Status}
use Rattle.pip_base.specs.declared.types.Pair.{Pair}
use Rattle.pip_base.specs.Memory.{Memory}
use Rattle.pip_model.specs.Answers.{accept, answer_unless, child_name, child_of, first_met, pair_at, refuse}
use Rattle.pip_model.specs.CountToMap.{count_refusals, pages_needed}
use Rattle.pip_model.specs.Partitions.{HasPartition, IsHeld}
use Rattle.pip_model.specs.Prepare.{PageChain, Pages, Refused, go_on, next_in_chain, page_chain, page_refusals, prepare}
use Rattle.pip_model.specs.Prepare.{prepare_with, tree_with_table, with_table}
use Rattle.pip_model.specs.Sound.{IsSound}
use Rattle.pip_model.specs.Tree.{change_at, Node, Tree, child_at, dir, find_node, has_table, lists, vpage}
use Rattle.pip_model.proofs.Frames.ChangeRows.{found-changed}
use Rattle.pip_model.proofs.Calls.Add.{child_found}
use Rattle.pip_model.proofs.Trees.Lookup.{found_is_name}
use Rattle.pip_model.proofs.Calls.Prepare.{chain_is, may_prepare}
use Rattle.pip_space.specs.Tables.{page_list}
use Rattle.pip_kern.proofs.Calls.{child_of_is, named_child, refusal-never_ok}
use Rattle.pip_base.specs.declared.outcome.Status.TheVariants as S
use Rattle.pip_grow.specs.Chain.{chain_pages}
use Rattle.pip_grow.specs.Preparing.{CanPrepare, table_of}
use Rattle.pip_grow.specs.declared.chain.TablePages.{TablePages}

-- ---- the number of pages

-- where it isn't 0, it is 3 or 4
pub needed_bounds : (x : Node) (v n : ℕ) → n ≡ pages_needed x v → n ≢ 0 → (3 ≤ n) × (n ≤ 4)
needed_bounds x v n e some = elim (cases_Bool (has_table x v)) [
  | inl on ↦ absurd (some (e ∙ ap (λ b. cond b 0 (3 + lists (length x.tables + 1) - lists (length x.tables))) on))
  | inr off ↦
      let is : n ≡ 3 + lists (length x.tables + 1) - lists (length x.tables) =
      e ∙ ap (λ b. cond b 0 (3 + lists (length x.tables + 1) - lists (length x.tables))) off in
      (omega arith, omega arith)
]

-- ---- the child

pub counted_bounds : (t : Tree) (p d cv n : ℕ) → n ≡ pages_needed (child_of t p d) (vpage cv) → n ≢ 0
    → (3 ≤ n) × (n ≤ 4)
counted_bounds t p d cv n e some = needed_bounds (child_of t p d) (vpage cv) n e some

module _ (t : Tree) (p d cv first : ℕ) where
  -- a condition that comes first is the answer
  pub prepare-refused : (q : Status) → first_met (count_refusals t p d cv) ≡ Some q
      → prepare t p d cv first ≡ refuse t q
  prepare-refused q e =
      ap (λ o. answer_unless t o
      (prepare_with t (child_name t p d) (vpage cv) (pages_needed (child_of t p d) (vpage cv))
      (page_chain t p (pages_needed (child_of t p d) (vpage cv)) [] first))) e

  module _ (c n : ℕ) (tested : (first_met (count_refusals t p d cv) ≡ None) × (option_map (λ (y : Node).
      y.name) (child_at t p d) ≡ Some c)) (n_is : n ≡ pages_needed (child_of t p d) (vpage cv)) where
    -- else the chain decides
    chain_decides : (o : PageChain) → page_chain t p n [] first ≡ o
        → prepare t p d cv first ≡ prepare_with t c (vpage cv) n o
    chain_decides o e =
        ap (λ z. answer_unless t z
        (prepare_with t (child_name t p d) (vpage cv) (pages_needed (child_of t p d) (vpage cv))
        (page_chain t p (pages_needed (child_of t p d) (vpage cv)) [] first))) tested.0
        ∙ (ap (λ k. prepare_with t (child_name t p d) (vpage cv) k (page_chain t p k [] first)) (sym n_is)
        ∙ (ap (λ k. prepare_with t k (vpage cv) n (page_chain t p n [] first)) (ap (λ z. unwrap_or z 0) tested.1)
        ∙ ap (prepare_with t c (vpage cv) n) e))

    -- no page is needed
    pub prepare-nothing : n ≡ 0 → prepare t p d cv first ≡ accept 0 t
    unfolding chain_decides
    prepare-nothing zero_is =
        chain_decides (Pages []) (ap (λ k. page_chain t p k [] first) zero_is) ∙ ap (λ k. accept k t) zero_is

    -- a page is refused
    pub prepare-page_refused : (q : Status) → page_chain t p n [] first ≡ Refused q
        → prepare t p d cv first ≡ refuse t q
    unfolding chain_decides
    prepare-page_refused q e = chain_decides (Refused q) e

    -- all pages are given
    pub prepare-accepted : (g : TablePages) → page_chain t p n [] first ≡ Pages (chain_pages g) → (i : ℕ)
        → i ≡ vpage cv / 1024 → prepare t p d cv first ≡ accept n (tree_with_table t c i (chain_pages g))
    unfolding chain_decides
    prepare-accepted g e i i_is =
        chain_decides (Pages (chain_pages g)) e ∙ ap (λ k. accept n (tree_with_table t c k (chain_pages g))) (sym i_is)

    -- and the child can be given them
    pub can_prepare : IsSound t → (x : Node) → find_node t p ≡ Some x → (g : TablePages)
        → page_chain t p n [] first ≡ Pages (chain_pages g) → (v i born : ℕ) → v < 2 ^ 20 → v ≡ vpage cv → i ≡ v / 1024
        → born ≡ vpage d → CanPrepare t p c born i g
    can_prepare s x found g chain v i born small v_is i_is born_is =
        let (y, child, name, there) = named_child t s p d c tested.1 in
        let (y_in, up, place) = child_found t p d y child in
        let (pages, count) = chain_is t p n [] first (chain_pages g) chain in
        let needed : length (chain_pages g) ≡ pages_needed y v = count ∙ (n_is
        ∙ (ap (λ z. pages_needed z (vpage cv)) (child_of_is t p d y child) ∙ ap (pages_needed y) (sym v_is))) in
        record {
          node = y;
          may = subst (λ k. MayPrepare t p y (table_of k g) (page_list g.list)) (sym i_is) (may_prepare t p y v g.mmu
              g.shadow1 g.shadow2 (page_list g.list) s (found_is_name t p x found) y_in up small pages needed);
          name = name;
          place = born_is ∙ ap vpage (sym place);
        }

-- no page of a chain is refused with the status Ok
pub chain-never_ok : (t : Tree) (p k : ℕ) (seen : List ℕ) (a : ℕ) (q : Status) → page_chain t p k seen a ≡ Refused q
    → q ≢ S.Ok
chain-never_ok t p zero seen a q e = cc
chain-never_ok t p (suc k) seen a q e = go (first_met (page_refusals t p seen a)) (page_chain t p k
    (a ∷ seen) (next_in_chain t p a)) refl e (λ h. chain-never_ok t p k (a ∷ seen) (next_in_chain t p a) q h)
  where
    go : (o : Option Status) (chain : PageChain) → first_met (page_refusals t p seen a) ≡ o
        → go_on o (pair_at t p a) chain ≡ Refused q → (chain ≡ Refused q → q ≢ S.Ok) → q ≢ S.Ok
    go (Some z) chain met is rest = refusal-never_ok (page_refusals t p seen a) q refl (let same : z ≡ q = cc in
        met ∙ ap Some same)
    go None (Refused z) met is rest = rest is
    go None (Pages gs) met is rest = cc

-- ---- the caller afterwards

prepared_found : (t : Tree) (c i p : ℕ) (gs : List Pair) (x : Node) → find_node t p ≡ Some x
    → (z : Node) × (find_node (tree_with_table t c i gs) p ≡ Some z)
prepared_found t c i p [] x e = (x, e)
prepared_found t c i p (a ∷ []) x e = (x, e)
prepared_found t c i p (a ∷ b ∷ []) x e = (x, e)
prepared_found t c i p (a ∷ b ∷ d ∷ rest) x e =
    let f = with_table (record { index = i; mmu = a; shadow1 = b; shadow2 = d }) rest in
    (change_at c f x, found-changed c f t (λ z. refl) p x e)

answer_found : (t : Tree) (c v n p : ℕ) (o : Option Status) (k : PageChain) (x : Node) → find_node t p ≡ Some x
    → (z : Node) × (find_node (answer_unless t o (prepare_with t c v n k)).tree p ≡ Some z)
answer_found t c v n p (Some q) k x e = (x, e)
answer_found t c v n p None (Refused q) x e = (x, e)
answer_found t c v n p None (Pages gs) x e = prepared_found t c (dir v) p gs x e

-- the caller is a node of the new tree, so it can call again
pub prepare-stands : (m n : Memory) (p : ℕ) (s : HasPartition m p) (d cv first : ℕ)
    → IsHeld (prepare s.tree p d cv first).tree n → HasPartition n p
prepare-stands m n p s d cv first after =
    let t = s.tree in
    let k = pages_needed (child_of t p d) (vpage cv) in
    let there = answer_found t (child_name t p d) (vpage cv) k p (first_met (count_refusals t p d cv))
    (page_chain t p k [] first) s.node s.found in
    record { tree = (prepare t p d cv first).tree; node = there.0; sound = after.0; laid = after.1; found = there.1 }
