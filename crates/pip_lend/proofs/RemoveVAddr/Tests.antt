-- The tests of removeVAddr: from what the code answers to the conditions of the model.
use Rattle.std.proofs.Common.{◌≡◌, ◌≢◌, ℕ, cond, inl, inr, Bool, true, false, not, List, [], ◌∷◌, refl, sym, ap, ◌∙◌}
use Rattle.std.proofs.Common.{arith, Option, Some, None}
use Rattle.std.specs.Prelude.{is_none, option_map, unwrap_or}
use Rattle.pip_base.specs.declared.outcome.Status.{Status}
use Rattle.pip_base.specs.declared.outcome.Status.TheVariants as S
use Rattle.pip_base.specs.Words.{shadow2_word}
use Rattle.pip_kern.specs.Tested.{is_ungiven}
use Rattle.pip_kern.proofs.Tested.{first_met-pass, first_met-stop, free-row}
use Rattle.pip_model.specs.Answers.{child_name, child_of, first_met, nobody}
use Rattle.pip_model.specs.FullRows.{FullRow, from_word, full_rows}
use Rattle.pip_model.specs.RemoveVAddr.{remove_refusals}
use Rattle.pip_model.specs.Sound.{IsSound}
use Rattle.pip_model.specs.Tree.{Node, Row, Tree, child_at, find_node, free, row_at, vpage}
use Rattle.pip_model.proofs.Trees.Children.{child_back}
use Rattle.pip_model.proofs.Frames.Laid.{filled, full_back}
use Rattle.pip_model.proofs.Trees.Lookup.{cases_option}
use Rattle.pip_model.proofs.Frames.ReadBack.{full-at}
use Rattle.pip_model.proofs.Trees.RowLookup.{held_row}
use Rattle.pip_model.proofs.Frames.Shadows.{parent_place}
use Rattle.pip_lend.specs.declared.recall.Recall.{Recall}
use Rattle.pip_kern.specs.Tested.{child_tests}
use Rattle.pip_lend.specs.Lending.{IsRecall}
use Rattle.pip_kern.proofs.Calls.{child_name_is, child_node, child_of_is}

-- a test of the addresses or the child that isn't passed is the first
pub remove_misnamed : (t : Tree) (p d cv : ℕ) (q : Status) → first_met (child_tests t p (d ∷ cv ∷ []) d) ≡ Some q
    → first_met (remove_refusals t p d cv) ≡ Some q
remove_misnamed t p d cv q e =
    first_met-stop (child_tests t p (d ∷ cv ∷ []) d) ((is_none (row_at (child_of t p d).rows (vpage cv)), S.Absent)
    ∷ (not (free t (child_name t p d) (vpage cv)), S.LentOn) ∷ []) q e

module _ (t : Tree) (s : IsSound t) (p d cv : ℕ) (passed : first_met (child_tests t p (d ∷ cv ∷ []) d)
    ≡ None) (c : Node) (child : child_at t p d ≡ Some c) where
  found : find_node t c.name ≡ Some c
  found = child_node t s p d c.name c child refl

  abbrev after_child : Option Row → List (Bool × Status)
  after_child o = (is_none o, S.Absent) ∷ (not (free t c.name (vpage cv)), S.LentOn) ∷ []

  by_child : (o : Option Row) → row_at c.rows (vpage cv) ≡ o
      → first_met (remove_refusals t p d cv) ≡ first_met (after_child o)
  by_child o e =
      first_met-pass (child_tests t p (d ∷ cv ∷ []) d) ((is_none (row_at (child_of t p d).rows (vpage cv)), S.Absent)
      ∷ (not (free t (child_name t p d) (vpage cv)), S.LentOn) ∷ []) passed
      ∙ (ap (λ k. first_met ((is_none (row_at (unwrap_or k nobody).rows (vpage cv)), S.Absent)
      ∷ (not (free t (unwrap_or (option_map (λ (y : Node). y.name) k) 0) (vpage cv)), S.LentOn) ∷ [])) child
      ∙ ap (λ k. first_met (after_child k)) e)

  -- no row is Absent
  pub row_absent : full_rows t c (vpage cv) ≡ None → first_met (remove_refusals t p d cv) ≡ Some S.Absent
  unfolding by_child
  row_absent none = by_child None (elim (cases_option (row_at c.rows (vpage cv))) [
    | inl e ↦ e
    | inr q ↦ let bad : None ≡ Some (filled t c q.0) = sym none ∙ full-at t c (vpage cv) (Some q.0) q.1 in cc
  ])

  module _ (r : FullRow) (row : full_rows t c (vpage cv) ≡ Some r) where
    -- then the use of the page decides
    by_use : (b : Bool) → is_ungiven r ≡ b → first_met (remove_refusals t p d cv) ≡ cond (not b) (Some S.LentOn) None
    unfolding found by_child
    by_use b e =
        let (q, at, same) = full_back t c (vpage cv) r row in
        by_child (Some q) at
        ∙ ap (λ k. cond (not k) (Some S.LentOn) None) (free-row t s c.name c found (vpage cv) r row ∙ e)

    pub page_used : is_ungiven r ≡ false → first_met (remove_refusals t p d cv) ≡ Some S.LentOn
    unfolding by_use
    page_used e = by_use false e

    pub page_unused : is_ungiven r ≡ true → first_met (remove_refusals t p d cv) ≡ None
    unfolding by_use
    page_unused e = by_use true e

    -- the page comes from a place in the caller
    pub comes_from : r.from ≢ 0
    comes_from z =
        let (q, at, same) = full_back t c (vpage cv) r row in
        let (o, up, b) = child_back t s p d c child in
        let (x, x_is, w, k, k_is, page, word) = parent_place t s c.name c o q.frame (held_row c (vpage cv) q at) in
        let from : r.from ≡ from_word t c q.frame = ap (λ f. f.from) same in
        omega (arith, z, from, word)

    -- and is taken back from there
    pub recall_is : (k : Recall) → k.child ≡ c.name → k.at ≡ vpage cv → r.from ≡ shadow2_word k.v → IsRecall t p d cv k
    recall_is k name at from = record {
      child = name ∙ sym (child_name_is t p d c child);
      at = at;
      from = λ q e.
          let there : full_rows t c (vpage cv) ≡ Some q =
          sym (ap (λ y. full_rows t y (vpage cv)) (child_of_is t p d c child)) ∙ e in
          let both : Some r ≡ Some q = sym row ∙ there in
          let same : q ≡ r = cc in
          ap (λ f. f.from) same ∙ from;
    }
