-- Rows in the tables of a directory index.
use Rattle.std.proofs.Common.{◌≡◌, ℕ, ◌==◌, ◌↔◌, cond, not, inl, inr, Bool, true, false, refl, sym, ap, ◌∙◌, eq-eqb}
use Rattle.std.proofs.Common.{eqb-true, Option, Some, None}
use Rattle.std.specs.Prelude.{IsTrue, is_none, is_some}
use Rattle.std.proofs.lemmas.Bool.{both_ways, cases_Bool}
use Rattle.pip_base.specs.declared.outcome.Status.TheVariants as S
use Rattle.pip_base.specs.Memory.{Memory}
use Rattle.pip_model.specs.Answers.{first_met}
use Rattle.pip_model.specs.Collect.{has_row_in}
use Rattle.pip_model.specs.Layout.{LaysOut}
use Rattle.pip_model.specs.FullRows.{FullRow, full_rows}
use Rattle.pip_model.specs.declared.level.Level.{Level}
use Rattle.pip_model.specs.NodeIn.{HasNode, NodeIn, Space}
use Rattle.pip_model.specs.Sound.{IsSound}
use Rattle.pip_model.specs.Tree.{Node, Table, Tree, dir, find_node, row_at, table_at}
use Rattle.pip_model.proofs.Frames.Laid.{filled, laid_space}
use Rattle.pip_model.proofs.Trees.Lookup.{cases_option, found_in, found_name}
use Rattle.pip_model.proofs.OnLists.Members.{any_from, any_none}
use Rattle.pip_model.proofs.Frames.ReadBack.{full-at}
use Rattle.pip_model.proofs.Trees.RowLookup.{in_row, row_in}
use Rattle.pip_space.specs.Tables.{HasTables}
use Rattle.pip_grow.specs.Collecting.{table_tests}

module _ (t : Tree) (s : IsSound t) (p : ℕ) (x : Node) (found : find_node t p ≡ Some x) (i : ℕ) where
  -- where no vpage of the directory index is mapped, the child has no row there
  out_of_rows : ((v : ℕ) → dir v ≡ i → full_rows t x v ≡ None) → has_row_in x i ≡ false
  out_of_rows none = elim (cases_Bool (has_row_in x i)) [
    | inr off ↦ off
    | inl on ↦
        let (q, j, h) = any_from (λ z. dir z.at == i) x.rows on in
        let at = in_row x (s.pages_apart x (found_in t p x found)) q j in
        let bad : None ≡ Some (filled t x q) =
        sym (none q.at (eqb-true (dir q.at) i h)) ∙ full-at t x q.at (Some q) at in
        cc
  ]

  -- and the other way round
  pub none_in : has_row_in x i ≡ false → (v : ℕ) → dir v ≡ i → full_rows t x v ≡ None
  none_in off v e = elim (cases_option (row_at x.rows v)) [
    | inl none ↦ full-at t x v None none
    | inr q ↦
        let (j, place) = row_in x v q.0 q.1 in
        absurd (both_ways (dir q.0.at == i) (any_none (λ z. dir z.at == i) q.0 x.rows off j)
        (eq-eqb (dir q.0.at) i (ap dir place ∙ e)))
  ]

  -- the tables are empty exactly where the child has no row there
  empty_is : (b : Bool) → IsTrue b ↔ ((v : ℕ) → dir v ≡ i → full_rows t x v ≡ None) → has_row_in x i ≡ not b
  empty_is true says = out_of_rows (says.0 refl)
  empty_is false says = elim (cases_Bool (has_row_in x i)) [
    | inl on ↦ on
    | inr off ↦ let bad : false ≡ true = says.1 (none_in off) in cc
  ]

  module _ (m : Memory) (lays : LaysOut t m) where
    -- so much for the conditions
    pub no_table_met : false ≡ is_some (table_at x.tables i) → first_met (table_tests x i) ≡ Some S.NoTable
    no_table_met e = ap (λ b. cond b (Some S.NoTable) (cond (has_row_in x i) (Some S.NotEmpty) None))
        (none_some (table_at x.tables i) (sym e))
      where
        none_some : (o : Option Table) → is_some o ≡ false → is_none o ≡ true
        none_some None e = refl
        none_some (Some b) e = cc

    table_passed : true ≡ is_some (table_at x.tables i)
        → first_met (table_tests x i) ≡ cond (has_row_in x i) (Some S.NotEmpty) None
    table_passed e = ap (λ b. cond b (Some S.NoTable) (cond (has_row_in x i) (Some S.NotEmpty) None))
        (some_none (table_at x.tables i) (sym e))
      where
        some_none : (o : Option Table) → is_some o ≡ true → is_none o ≡ false
        some_none None e = cc
        some_none (Some b) e = refl

    pub rows_met : true ≡ is_some (table_at x.tables i) → (b : Bool) → ((z : Node) (rows : ℕ → Option FullRow)
        → Space m z rows → z.name ≡ p → IsTrue b ↔ ((v : ℕ) → dir v ≡ i → rows v ≡ None))
        → first_met (table_tests x i) ≡ cond (not b) (Some S.NotEmpty) None
    unfolding table_passed
    rows_met has b says = table_passed has ∙ ap (λ z. cond z (Some S.NotEmpty) None)
        (empty_is b (says x (full_rows t x) (laid_space t s m lays p x found) (found_name t p x found)))

-- a partition of which it was read that it has tables has them
pub has_tables : (m : Memory) (part i : ℕ) → HasNode m part → (b : Bool) → true ≡ b
    → ((x : Node) (cells : Level → ℕ → ℕ) → NodeIn m x cells → x.name ≡ part → b ≡ is_some (table_at x.tables i))
    → HasTables m part i
has_tables m part i n b on says = record { held = n; tabled = sym (says n.node n.cells n.is_in n.name) ∙ sym on }
