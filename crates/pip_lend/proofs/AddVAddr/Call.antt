-- addVAddr from its tests to its answer and its tree.
use Rattle.std.proofs.Common.{◌≡◌, ℕ, inl, inr, true, false, refl, sym, ap, ◌∙◌, subst, Some, None}
use Rattle.std.specs.Prelude.{is_some, option_map, unwrap_or}
use Rattle.pip_base.specs.Memory.{Memory}
use Rattle.pip_model.specs.AddVAddr.{add_refusals, add_vaddr, tree_with_row, with_row}
use Rattle.pip_model.specs.Answers.{child_name, first_met, page_of}
use Rattle.pip_model.specs.Partitions.{HasPartition, IsHeld}
use Rattle.pip_model.specs.Sound.{IsSound}
use Rattle.pip_model.specs.Tree.{Node, Row, Tree, child_at, find_node, row_at, vpage}
use Rattle.pip_model.proofs.Calls.Add.{child_found, may_add}
use Rattle.pip_model.proofs.Trees.Free.{not_false, condition-unmet}
use Rattle.pip_model.proofs.Trees.Lookup.{cases_option, found_is_name, node_is}
use Rattle.pip_lend.specs.declared.loan.Loan.{Loan}
use Rattle.pip_kern.proofs.Calls.{child_name_is, some_of}
use Rattle.pip_lend.proofs.Caller.{caller_stands}
use Rattle.pip_lend.specs.Lending.{CanLend, loan_of}

module _ (t : Tree) (p v d cv rights : ℕ) where
  -- the tree with the loan
  abbrev pub lent_tree : Tree
  lent_tree = tree_with_row t (child_name t p d) (record { at = vpage cv; frame = page_of t p v; rights = rights })

  module _ (s : IsSound t) (x : Node) (found : find_node t p ≡ Some x)
      (passed : first_met (add_refusals t p v d cv rights) ≡ None) where
    child : (c : Node) × (child_at t p d ≡ Some c)
    child = some_of (child_at t p d) (condition-unmet (add_refusals t p v d cv rights) _ passed (inr (inr (inl refl))))

    row : (q : Row) × (row_at x.rows (vpage v) ≡ Some q)
    row = elim (cases_option (row_at x.rows (vpage v))) [
      | inr q ↦ q
      | inl none ↦
          let on =
          not_false _ (condition-unmet (add_refusals t p v d cv rights) _ passed (inr (inr (inr (inl refl))))) in
          let off : is_some (row_at x.rows (vpage v)) ≡ true =
          sym (ap (λ z. is_some (row_at z.rows (vpage v))) (node_is t p x found)) ∙ on in
          let bad : false ≡ true = sym (ap is_some none) ∙ off in
          cc
    ]

    -- the tests let the caller make the loan
    loan_can : CanLend t p (loan_of t p v d cv rights)
    unfolding child row
    loan_can =
        let (c, is) = child in
        let (q, at) = row in
        record {
          sound = s;
          node = x;
          found = found;
          row = q;
          at = at;
          page = sym (ap (λ z. unwrap_or (option_map (λ (w : Row). w.frame) (row_at z.rows (vpage v))) 0)
              (node_is t p x found) ∙ ap (λ o. unwrap_or (option_map (λ (w : Row). w.frame) o) 0) at);
          child = c;
          named = sym (child_name_is t p d c is);
          born = ap vpage (child_found t p d c is).2;
          may = may_add t p v d cv rights c s (found_is_name t p x found) is passed;
        }

    pub can_lend : (l : Loan) → l ≡ loan_of t p v d cv rights → CanLend t p l
    unfolding loan_can
    can_lend l is = subst (CanLend t p) (sym is) loan_can

-- the caller can call again
pub add-stands : (m n : Memory) (p v d cv rights : ℕ) (s : HasPartition m p)
    → IsHeld (add_vaddr s.tree p v d cv rights).tree n → HasPartition n p
add-stands m n p v d cv rights s after =
    caller_stands m n p s (child_name s.tree p d) (with_row (record {
      at = vpage cv;
      frame = page_of s.tree p v;
      rights = rights;
    })) (λ z. refl) 0 (first_met (add_refusals s.tree p v d cv rights)) after
