-- The two writes of removeVAddr: what each needs, and the tree that is laid out after both.
use Rattle.std.proofs.Common.{List, ◌≡◌, ◌≢◌, ℕ, ◌==◌, not, inr, sym, ap, ◌∙◌, subst, arith, Option, Some, None}
use Rattle.std.specs.Prelude.{filter}
use Rattle.pip_base.specs.Memory.{Memory}
use Rattle.pip_model.specs.Layout.{LaysOut}
use Rattle.pip_model.specs.FullRows.{FullRow, cells_of, full_rows}
use Rattle.pip_model.specs.declared.level.Level.{Level}
use Rattle.pip_model.specs.NodeIn.{NodeIn, OthersStay, Space, put_row}
use Rattle.pip_model.specs.RemoveVAddr.{tree_without_row}
use Rattle.pip_model.specs.Tree.{Node, Row, Tree, find_node, row_at}
use Rattle.pip_model.proofs.Trees.ChangeNode.{up-apart}
use Rattle.pip_model.proofs.Frames.Laid.{filled, laid_space}
use Rattle.pip_model.proofs.Trees.Lookup.{found_name, in_found, in_other}
use Rattle.pip_model.proofs.Frames.ReadBack.{full-at}
use Rattle.pip_model.proofs.Trees.RowLookup.{held_row, in_row}
use Rattle.pip_model.proofs.Frames.Shadows.{parent_place}
use Rattle.pip_space.specs.Rows.{HasRow}
use Rattle.pip_lend.specs.declared.recall.Recall.{Recall}
use Rattle.pip_lend.specs.Lending.{CanRecall}
use Rattle.pip_lend.proofs.RemoveVAddr.Tree.{left_changes, left_child, left_parent}
use Rattle.pip_lend.proofs.TwoNodes.{second_stays, two_lay}

module _ (t : Tree) (caller : ℕ) (k : Recall) (can : CanRecall t caller k) where
  abbrev c : Node
  c = can.child

  abbrev x : Node
  x = can.node

  found : find_node t can.child.up ≡ Some can.node
  found = ap (find_node t) can.up ∙ can.found

  c_found : find_node t can.child.name ≡ Some can.child
  c_found = in_found t can.sound can.child (inr can.may.child)

  apart : caller ≢ can.child.name
  apart e = up-apart t can.sound can.child can.may.child (can.up ∙ e)

  c_at : row_at can.child.rows can.row.at ≡ Some can.row
  c_at = in_row c (can.sound.pages_apart c (inr can.may.child)) can.row can.may.row

  -- the caller's row of the page
  x_at : (q : Row) × (row_at can.node.rows k.v ≡ Some q) × (q.frame ≡ can.row.frame)
  unfolding found c_at
  x_at =
      let (y, y_is, w, q, q_is, page, word) = parent_place t can.sound c.name c (in_other t can.sound c can.may.child)
      can.row.frame (held_row c can.row.at can.row c_at) in
      let both : Some y ≡ Some x = sym y_is ∙ found in
      let same : y ≡ x = cc in
      let from = can.from in
      let place : w ≡ k.v = omega (arith, from, word) in
      (q, subst (λ z. row_at z.rows k.v ≡ Some q) same (subst (λ n. row_at y.rows n ≡ Some q) place q_is), page)

  module _ (m : Memory) (lays : LaysOut t m) where
    c_space : Space m can.child (full_rows t can.child)
    unfolding c_found
    c_space = laid_space t can.sound m lays c.name c c_found

    -- the child has the row
    pub taken_place : HasRow m k.child k.at
    unfolding c_space c_at
    taken_place = record {
      node = c;
      rows = full_rows t c;
      row = filled t c can.row;
      is_in = c_space;
      name = can.named;
      at = full-at t c k.at (Some can.row) (ap (row_at c.rows) (sym can.at) ∙ c_at);
    }

    module _ (m1 : Memory) (unmaps : (y : Node) (rows : ℕ → Option FullRow) → Space m y rows → y.name ≡ k.child
        → Space m1 y (put_row rows k.at None))
        (others : (y : Node) (cells : Level → ℕ → ℕ) → NodeIn m y cells → y.name ≡ k.child → OthersStay y m m1) where
      space1 : Space m1 can.child (put_row (full_rows t can.child) k.at None)
      unfolding c_space
      space1 = unmaps c (full_rows t c) c_space can.named

      stay1 : OthersStay can.child m m1
      unfolding c_space
      stay1 = others c (cells_of (full_rows t c)) c_space.node can.named

      x_space : Space m1 can.node (full_rows t can.node)
      unfolding c_found apart space1 stay1
      x_space = second_stays t can.sound m m1 lays c.name c c_found stay1 (put_row (full_rows t c) k.at None) space1
          caller x can.found apart

      x_row : full_rows t can.node k.v ≡ Some (filled t can.node x_at.0)
      x_row = full-at t x k.v (Some x_at.0) x_at.1

      -- the caller has its row still
      pub lender_place : HasRow m1 caller k.v
      unfolding x_space x_row
      lender_place = record {
        node = x;
        rows = full_rows t x;
        row = filled t x x_at.0;
        is_in = x_space;
        name = found_name t caller x can.found;
        at = x_row;
      }

      module _ (m2 : Memory) (names : (y : Node) (rows : ℕ → Option FullRow) (r : FullRow) → Space m1 y rows
          → y.name ≡ caller → rows k.v ≡ Some r → Space m2 y (put_row rows k.v (Some (record r { given = 0 }))))
          (stays : (y : Node) (cells : Level → ℕ → ℕ) → NodeIn m1 y cells → y.name ≡ caller → OthersStay y m1 m2) where
        -- after both, the tree without the loan is laid out
        pub remove-lays : LaysOut (tree_without_row t k.child k.at) m2
        unfolding found c_found apart space1 stay1 x_space x_row
        remove-lays =
            let name = found_name t caller x can.found in
            let own : List Row → List Row = λ rows. filter (λ q. not (q.at == can.row.at)) rows in
            subst (λ n. LaysOut (tree_without_row t n k.at) m2) can.named
            (subst (λ v. LaysOut (tree_without_row t c.name v) m2) can.at
            (two_lay t can.sound m m1 lays c.name c c_found stay1 (put_row (full_rows t c) k.at None) space1 m2 caller x
            can.found
            (stays x (cells_of (full_rows t x)) x_space.node name)
            (put_row (full_rows t x) k.v (Some (record (filled t x x_at.0) { given = 0 })))
            (names x (full_rows t x) (filled t x x_at.0) x_space name x_row)
            own can.row.frame (left_changes t can.sound c can.row can.may) (sym can.up)
            (λ w. left_child t can.sound c can.row can.may w ∙ ap (λ v. put_row (full_rows t c) v None w) can.at)
            (λ w. left_parent t can.sound c can.row can.may x found k.v x_at.0 x_at.1 x_at.2 w)))
