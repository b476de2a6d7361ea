-- collect from one step of the code to the next.
use Rattle.std.proofs.Common.{◌≡◌, ◌≢◌, ℕ, ◌/◌, inl, inr, true, false, List, refl, sym, ap, ◌∙◌, subst, Option, Some}
use Rattle.std.proofs.Common.{◌+◌, ◌*◌, ◌≤◌, length, None}
use Rattle.std.specs.Prelude.{is_none, option_map, Ok, ⊤}
use Rattle.pip_base.specs.declared.outcome.Status.{Status}
use Rattle.pip_base.specs.declared.outcome.Status.TheVariants as S
use Rattle.pip_base.specs.declared.types.Pair.{Pair}
use Rattle.pip_base.specs.Memory.{Memory}
use Rattle.pip_model.specs.Answers.{accept, answer_unless, child_name, child_of, first_met, refuse}
use Rattle.pip_model.specs.Collect.{collect, collect_refusals, tree_without_table, first_va, returned_pages, table_for}
use Rattle.pip_model.specs.Collect.{without_table}
use Rattle.pip_model.specs.CountToMap.{count_refusals}
use Rattle.pip_model.specs.Layout.{LaysOut}
use Rattle.pip_model.specs.Partitions.{HasPartition, InEach, IsHeld}
use Rattle.pip_model.specs.Sound.{IsSound}
use Rattle.pip_model.specs.Work.{slots_work}
use Rattle.pip_model.specs.Tree.{change_at, Node, Table, Tree, chain, child_at, dir, find_node, table_at, vpage}
use Rattle.pip_model.proofs.Calls.Add.{child_found as child_is}
use Rattle.pip_model.proofs.Frames.ChangeRows.{found-changed}
use Rattle.pip_model.proofs.Frames.Laid.{laid_space}
use Rattle.pip_space.proofs.RootWords.{few_tables}
use Rattle.pip_model.proofs.Trees.Free.{condition-unmet}
use Rattle.pip_model.proofs.Trees.Lookup.{cases_option}
use Rattle.pip_kern.proofs.Calls.{child_name_is, child_of_is, named_child, refusal-never_ok}
use Rattle.pip_kern.proofs.Tested.{first_met-pass, first_met-stop}
use Rattle.pip_kern.specs.Calls.{IsAnswer}
use Rattle.pip_grow.specs.Collecting.{table_tests}
use Rattle.pip_grow.specs.Collecting.{CanCollect}

-- what the code's check_empty says where a test isn't passed, and where all are
abbrev pub EmptyStops : Memory → ℕ → ℕ → Status → Type 0
EmptyStops m part i q = InEach m part (λ t x. first_met (table_tests x i) ≡ Some q)

abbrev pub EmptyPasses : Memory → ℕ → ℕ → Type 0
EmptyPasses m part i = InEach m part (λ t x. (first_met (table_tests x i) ≡ None) × ⊤)

module _ (t : Tree) (p d cv : ℕ) where
  -- the pages that come back, if the call is accepted
  abbrev pages : List Pair
  pages = returned_pages (child_of t p d) (table_for (child_of t p d) (vpage cv))

  decides : (o : Option Status) → first_met (collect_refusals t p d cv) ≡ o → collect t p d cv
      ≡ answer_unless t o (accept (first_va pages) (tree_without_table t (child_name t p d) (dir (vpage cv)) pages))
  decides o e = ap (λ z.
      answer_unless t z (accept (first_va pages) (tree_without_table t (child_name t p d) (dir (vpage cv)) pages))) e

  -- a condition that comes first is the answer
  pub collect-refused : (q : Status) → first_met (count_refusals t p d cv) ≡ Some q → collect t p d cv ≡ refuse t q
  unfolding decides
  collect-refused q e =
      decides (Some q) (first_met-stop (count_refusals t p d cv) (table_tests (child_of t p d) (dir (vpage cv))) q e)

  module _ (s : IsSound t) (m : Memory) (lays : LaysOut t m)
      (c : ℕ) (tested : (first_met (count_refusals t p d cv) ≡ None)
      × (option_map (λ (y : Node). y.name) (child_at t p d) ≡ Some c)) (i : ℕ) (i_is : i ≡ vpage cv / 1024) where
    child : (y : Node) × (child_at t p d ≡ Some y) × (y.name ≡ c) × (find_node t c ≡ Some y)
    child = named_child t s p d c tested.1

    abbrev y : Node
    y = child.0

    y_found : find_node t c ≡ Some y
    y_found = child.3

    -- it has no more tables than a directory has entries
    pub few_slots : slots_work (child_at t p d) ≤ 1024
    unfolding y_found
    few_slots = rw child.1 (few_tables m y _ (laid_space t s m lays c y y_found).node)

    tests_are : first_met (collect_refusals t p d cv) ≡ first_met (table_tests y i)
    tests_are =
        first_met-pass (count_refusals t p d cv) (table_tests (child_of t p d) (dir (vpage cv))) tested.0
        ∙ (ap (λ z. first_met (table_tests z (dir (vpage cv)))) (child_of_is t p d y child.1)
        ∙ ap (λ k. first_met (table_tests y k)) (sym i_is))

    -- then one of the table
    pub collect-table_refused : (q : Status) → EmptyStops m c i q → collect t p d cv ≡ refuse t q
    unfolding decides tests_are y_found
    collect-table_refused q says = decides (Some q) (tests_are ∙ says t y s lays y_found)

    pub table-never_ok : (q : Status) → EmptyStops m c i q → q ≢ S.Ok
    unfolding y_found
    table-never_ok q says = refusal-never_ok (table_tests y i) q refl (says t y s lays y_found)

    module _ (passes : EmptyPasses m c i) where
      none_met : first_met (table_tests y i) ≡ None
      unfolding y_found
      none_met = (passes t y s lays y_found).0

      has_table : (b : Table) × (table_at y.tables i ≡ Some b)
      unfolding none_met
      has_table = elim (cases_option (table_at y.tables i)) [
        | inr b ↦ b
        | inl none ↦ let off : is_none (table_at y.tables i) ≡ false =
            condition-unmet (table_tests y i) _ none_met (inl refl) in
            let on : is_none (table_at y.tables i) ≡ true = ap is_none none in cc
      ]

      -- the table can be taken
      pub can_collect : CanCollect t p c i
      unfolding none_met
      can_collect =
          let (is_in, up, born) = child_is t p d y child.1 in
          record {
            node = y;
            table = has_table.0;
            is_in = is_in;
            up = up;
            name = child.2;
            has = has_table.1;
            empty = condition-unmet (table_tests y i) _ none_met (inr (inl refl));
          }

      -- within a bound on the steps
      pub collects_in : (before after : ℕ) → after ≤ before + 28 * length (chain t p) + length can_collect.node.tables
          → after ≤ before + 28 * length (chain t p) + slots_work (child_at t p d)
      unfolding can_collect
      collects_in before after so = rw child.1 so

      -- and that is the answer
      pub collect-accepted : collect t p d cv
          ≡ accept (first_va (returned_pages can_collect.node (Some can_collect.table)))
          (tree_without_table t c i (returned_pages can_collect.node (Some can_collect.table)))
      unfolding decides tests_are none_met can_collect
      collect-accepted =
          decides None (tests_are ∙ none_met)
          ∙ (ap (λ z. accept (first_va (returned_pages z (table_for z (vpage cv)))) (tree_without_table t (child_name t
          p d) (dir (vpage cv)) (returned_pages z (table_for z (vpage cv))))) (child_of_is t p d y child.1)
          ∙ (ap (λ k. accept (first_va (returned_pages y (table_at y.tables k)))
          (tree_without_table t (child_name t p d) k (returned_pages y (table_at y.tables k)))) (sym i_is)
          ∙ (ap (λ o. accept (first_va (returned_pages y o))
          (tree_without_table t (child_name t p d) i (returned_pages y o))) has_table.1
          ∙ ap (λ k. accept (first_va (returned_pages y (Some has_table.0))) (tree_without_table t k i
          (returned_pages y (Some has_table.0)))) (child_name_is t p d y child.1 ∙ child.2))))

      -- with the address of the first page
      pub is_first : (va : ℕ) → va ≡ first_va (returned_pages can_collect.node (Some can_collect.table))
          → IsAnswer (Ok va) (collect t p d cv)
      unfolding collect-accepted
      is_first va e = (ap (λ z. z.status) collect-accepted, ap (λ z. z.value) collect-accepted ∙ sym e)

      -- in the new tree
      pub collect-tree : (n : Memory)
          → IsHeld (tree_without_table t c i (returned_pages can_collect.node (Some can_collect.table))) n
          → IsHeld (collect t p d cv).tree n
      unfolding collect-accepted
      collect-tree n done = subst (λ z. IsHeld z n) (sym (ap (λ z. z.tree) collect-accepted)) done

-- ---- the caller afterwards

answer_found : (t : Tree) (c i p va : ℕ) (gs : List Pair) (o : Option Status) (x : Node) → find_node t p ≡ Some x
    → (z : Node) × (find_node (answer_unless t o (accept va (tree_without_table t c i gs))).tree p ≡ Some z)
answer_found t c i p va gs (Some q) x e = (x, e)
answer_found t c i p va gs None x e =
    (change_at c (without_table i) x, found-changed c (without_table i) t (λ z. refl) p x e)

-- the caller is a node of the new tree, so it can call again
pub collect-stands : (m n : Memory) (p : ℕ) (s : HasPartition m p) (d cv : ℕ) → IsHeld (collect s.tree p d cv).tree n
    → HasPartition n p
collect-stands m n p s d cv after =
    let t = s.tree in
    let gs = returned_pages (child_of t p d) (table_for (child_of t p d) (vpage cv)) in
    let there = answer_found t (child_name t p d) (dir (vpage cv)) p (first_va gs) gs
    (first_met (collect_refusals t p d cv)) s.node s.found in
    record { tree = (collect t p d cv).tree; node = there.0; sound = after.0; laid = after.1; found = there.1 }
