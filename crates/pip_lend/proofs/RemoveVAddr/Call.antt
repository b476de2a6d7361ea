-- removeVAddr from its tests to its answer and its tree.
use Rattle.std.proofs.Common.{◌≡◌, ℕ, inl, inr, true, refl, sym, ap, ◌∙◌, subst, Some, None}
use Rattle.pip_model.specs.Accepted.{IsUnheld}
use Rattle.std.specs.Prelude.{is_none}
use Rattle.pip_base.specs.Memory.{Memory}
use Rattle.pip_model.specs.Answers.{child_name, child_of, first_met}
use Rattle.pip_model.specs.Layout.{LaysOut}
use Rattle.pip_model.specs.FullRows.{full_rows}
use Rattle.pip_model.specs.Partitions.{HasPartition, IsHeld}
use Rattle.pip_model.specs.RemoveVAddr.{remove_refusals, remove_vaddr, tree_without_row, without_row}
use Rattle.pip_model.specs.Sound.{IsSound}
use Rattle.pip_model.specs.Tree.{Node, Row, Tree, child_at, find_node, free, holder, is_free_row, row_at, vpage}
use Rattle.pip_model.proofs.Calls.Add.{child_found as child_parts}
use Rattle.pip_model.proofs.Trees.Free.{not_false, no_holder-unheld, condition-unmet}
use Rattle.pip_model.proofs.Frames.Laid.{filled}
use Rattle.pip_model.proofs.Trees.Lookup.{node_is}
use Rattle.pip_model.proofs.Frames.ReadBack.{full-at}
use Rattle.pip_model.proofs.Trees.RowLookup.{row_in}
use Rattle.pip_lend.specs.declared.recall.Recall.{Recall}
use Rattle.pip_lend.specs.Lending.{CanRecall, IsRecall}
use Rattle.pip_kern.proofs.Calls.{child_name_is, child_node, child_of_is, none_of, some_of}
use Rattle.pip_lend.proofs.Caller.{caller_stands}

module _ (t : Tree) (p d cv : ℕ) where
  -- the tree without the loan
  abbrev pub left_tree : Tree
  left_tree = tree_without_row t (child_name t p d) (vpage cv)

  module _ (s : IsSound t) (x : Node) (found : find_node t p ≡ Some x)
      (passed : first_met (remove_refusals t p d cv) ≡ None) where
    child : (c : Node) × (child_at t p d ≡ Some c)
    child = some_of (child_at t p d) (condition-unmet (remove_refusals t p d cv) _ passed (inr (inr (inl refl))))

    child_is : child_of t p d ≡ child.0
    child_is = child_of_is t p d child.0 child.1

    name_is : child_name t p d ≡ child.0.name
    name_is = child_name_is t p d child.0 child.1

    row : (q : Row) × (row_at child.0.rows (vpage cv) ≡ Some q)
    unfolding child_is
    row = some_of (row_at child.0.rows (vpage cv)) (ap (λ y. is_none (row_at y.rows (vpage cv))) (sym child_is)
        ∙ condition-unmet (remove_refusals t p d cv) _ passed (inr (inr (inr (inl refl)))))

    -- no child of the child uses the page
    unused : IsUnheld t child.0.name row.0.frame
    unfolding name_is row
    unused =
        let free_there =
        not_false _ (condition-unmet (remove_refusals t p d cv) _ passed (inr (inr (inr (inr (inl refl)))))) in
        let named : free t child.0.name (vpage cv) ≡ true = ap (λ n. free t n (vpage cv)) (sym name_is) ∙ free_there in
        no_holder-unheld t child.0.name row.0.frame (none_of (holder t child.0.name row.0.frame)
        (sym (ap (λ z. is_free_row t child.0.name (row_at z.rows (vpage cv))) (node_is t child.0.name child.0
        (child_node t s p d child.0.name child.0 child.1 refl)) ∙ ap (is_free_row t child.0.name) row.1) ∙ named))

    -- the tests let the caller take the page back
    pub can_recall : (k : Recall) → IsRecall t p d cv k → CanRecall t p k
    unfolding child_is name_is row unused
    can_recall k is =
        let (i, up, born) = child_parts t p d child.0 child.1 in
        let (j, at) = row_in child.0 (vpage cv) row.0 row.1 in
        record {
          sound = s;
          node = x;
          found = found;
          child = child.0;
          named = sym name_is ∙ sym is.child;
          up = up;
          row = row.0;
          at = at ∙ sym is.at;
          may = record { child = i; row = j; unheld = unused };
          from = is.from (filled t child.0 row.0)
              (ap (λ y. full_rows t y (vpage cv)) child_is ∙ full-at t child.0 (vpage cv) (Some row.0) row.1);
        }

    -- and leave the tree without the loan
    pub remove-tree : (k : Recall) → IsRecall t p d cv k → (m : Memory) → LaysOut (tree_without_row t k.child k.at) m
        → LaysOut left_tree m
    remove-tree k is m lays = subst (λ n. LaysOut (tree_without_row t n (vpage cv)) m) is.child
        (subst (λ v. LaysOut (tree_without_row t k.child v) m) is.at lays)

-- the caller can call again
pub remove-stands : (m n : Memory) (p d cv : ℕ) (s : HasPartition m p) → IsHeld (remove_vaddr s.tree p d cv).tree n
    → HasPartition n p
remove-stands m n p d cv s after = caller_stands m n p s (child_name s.tree p d) (without_row (vpage cv)) (λ z. refl) 0
    (first_met (remove_refusals s.tree p d cv)) after
