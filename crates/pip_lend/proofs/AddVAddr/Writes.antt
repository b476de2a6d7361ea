-- The two writes of addVAddr: what each needs, and the tree that is laid out after both.
use Rattle.std.proofs.Common.{◌≡◌, ◌≢◌, ℕ, ◌/◌, ◌<◌, ◌^◌, inl, inr, true, refl, sym, ap, ◌∙◌, subst, arith, Option}
use Rattle.std.proofs.Common.{Some}
use Rattle.pip_model.specs.Accepted.{MayAdd}
use Rattle.std.proofs.lemmas.Grind.{numeral_and}
use Rattle.pip_base.specs.Rights.{rights_number}
use Rattle.pip_base.specs.Words.{as_lent, shadow1_word, shadow2_word}
use Rattle.pip_base.specs.Memory.{Memory}
use Rattle.pip_model.specs.AddVAddr.{tree_with_row, insert_row, with_row}
use Rattle.pip_model.specs.Layout.{LaysOut}
use Rattle.pip_model.specs.FullRows.{FullRow, cells_of, full_rows}
use Rattle.pip_model.specs.declared.level.Level.{Level}
use Rattle.pip_model.specs.NodeIn.{HasTableFor, IsFullRow, NodeIn, OthersStay, Space, put_row}
use Rattle.pip_model.specs.Tree.{Node, Tree, find_node}
use Rattle.pip_model.proofs.Trees.ChangeNode.{up-apart}
use Rattle.pip_model.proofs.Frames.ChangeRows.{child_after, rows_tree-sound}
use Rattle.pip_model.proofs.Frames.Laid.{born_place, filled, laid_space}
use Rattle.pip_model.proofs.Trees.Lookup.{found_in, found_name, in_found, in_other, other_in}
use Rattle.pip_model.proofs.Trees.Numbers.{at_small, page_small, rights_small}
use Rattle.pip_model.proofs.Frames.ReadBack.{full-at}
use Rattle.pip_model.proofs.Nodes.Roles.{has_index}
use Rattle.pip_model.proofs.Trees.RowLookup.{held_row, row_in}
use Rattle.pip_space.specs.Rows.{HasRow}
use Rattle.pip_lend.specs.declared.loan.Loan.{Loan}
use Rattle.pip_lend.specs.Lending.{CanLend, loan_row}
use Rattle.pip_lend.proofs.AddVAddr.Tree.{lent_changes, lent_child, lent_parent, own_there}
use Rattle.pip_lend.proofs.TwoNodes.{second_stays, two_lay}

module _ (t : Tree) (caller : ℕ) (l : Loan) (can : CanLend t caller l) where
  abbrev c : Node
  c = can.child

  abbrev x : Node
  x = can.node

  -- the child's new row in full
  abbrev pub lent_row : FullRow
  lent_row =
      record { frame = l.frame; rights = rights_number l.rights; user = true; given = 0; from = shadow2_word l.v }

  found : find_node t can.child.up ≡ Some can.node
  found = ap (find_node t) can.may.up ∙ can.found

  may : MayAdd t can.child.up can.child (loan_row l)
  may = subst (λ p. MayAdd t p can.child (loan_row l)) (sym can.may.up) can.may

  c_found : find_node t can.child.name ≡ Some can.child
  c_found = in_found t can.sound can.child (inr can.may.child)

  apart : caller ≢ can.child.name
  apart e = up-apart t can.sound can.child can.may.child (can.may.up ∙ e)

  -- the rights are three bits, since they are a row's of the new tree
  low : rights_number l.rights < 8
  unfolding found may c_found
  low =
      let k = lent_changes t can.sound c x found (loan_row l) may in
      let d = with_row (loan_row l) c in
      rights_small (tree_with_row t c.name (loan_row l)) (rows_tree-sound t can.sound c (insert_row (loan_row l))
      l.frame k) d (inr (other_in (tree_with_row t c.name (loan_row l)) c.name d
      (child_after t can.sound c (insert_row (loan_row l)) l.frame k))) (loan_row l)
      (row_in d l.at (loan_row l) (own_there t can.sound c x found (loan_row l) may)).0

  -- the row can be packed
  pub lent_packed : IsFullRow lent_row
  unfolding low
  lent_packed =
      let i = found_in t caller x can.found in
      let large = can.sound.boot_root.large in
      let below : l.frame < t.frames = subst (λ g. g < t.frames) can.page
      (page_small t can.row.frame can.sound x i (held_row x l.v can.row can.at)) in
      let j = row_in x l.v can.row can.at in
      let here : can.row.at ≡ l.v = j.1 in
      let small = at_small t can.sound x i can.row j.0 in
      record {
        frame = omega (arith, below, large);
        read = sym (numeral_and 0 (rights_number l.rights) refl) ∙ can.may.readable;
        low = low;
        given = inl refl;
        from = inr (omega (arith, here, small), omega arith);
      }

  -- the child's descriptor isn't at vpage 0
  pub born_some : (l.born < 2 ^ 20) × (l.born ≢ 0)
  born_some =
      let b = born_place t can.sound c.name c (in_other t can.sound c can.may.child) in
      let is : c.born / 4096 ≡ l.born = can.born in
      let least = b.1 in
      let most = b.2 in
      (omega (arith, is, most), λ z. omega (arith, is, least, z))

  module _ (m : Memory) (lays : LaysOut t m) where
    c_space : Space m can.child (full_rows t can.child)
    unfolding c_found
    c_space = laid_space t can.sound m lays c.name c c_found

    -- the child has a table for the row
    pub lent_room : HasTableFor m l.child l.at
    unfolding c_space
    lent_room = record {
      held = record {
        node = c;
        cells = cells_of (full_rows t c);
        is_in = c_space.node;
        name = can.named;
      };
      tabled = has_index c l.at can.may.table;
    }

    module _ (m1 : Memory) (maps : (y : Node) (rows : ℕ → Option FullRow) → Space m y rows → y.name ≡ l.child
        → Space m1 y (put_row rows l.at (Some lent_row)))
        (others : (y : Node) (cells : Level → ℕ → ℕ) → NodeIn m y cells → y.name ≡ l.child → OthersStay y m m1) where
      space1 : Space m1 can.child (put_row (full_rows t can.child) l.at (Some lent_row))
      unfolding c_space
      space1 = maps c (full_rows t c) c_space can.named

      stay1 : OthersStay can.child m m1
      unfolding c_space
      stay1 = others c (cells_of (full_rows t c)) c_space.node can.named

      x_space : Space m1 can.node (full_rows t can.node)
      unfolding c_found apart space1 stay1
      x_space = second_stays t can.sound m m1 lays c.name c c_found stay1 (put_row (full_rows t c) l.at (Some lent_row))
          space1 caller x can.found apart

      x_row : full_rows t can.node l.v ≡ Some (filled t can.node can.row)
      x_row = full-at t x l.v (Some can.row) can.at

      -- the caller has the row still
      pub lent_place : HasRow m1 caller l.v
      unfolding x_space x_row
      lent_place = record {
        node = x;
        rows = full_rows t x;
        row = filled t x can.row;
        is_in = x_space;
        name = found_name t caller x can.found;
        at = x_row;
      }

      module _ (m2 : Memory) (names : (y : Node) (rows : ℕ → Option FullRow) (r : FullRow) → Space m1 y rows
          → y.name ≡ caller → rows l.v ≡ Some r
          → Space m2 y (put_row rows l.v (Some (record r { given = shadow1_word as_lent l.born }))))
          (stays : (y : Node) (cells : Level → ℕ → ℕ) → NodeIn m1 y cells → y.name ≡ caller → OthersStay y m1 m2) where
        -- after both, the tree with the loan is laid out
        pub add-lays : LaysOut (tree_with_row t l.child (loan_row l)) m2
        unfolding found may c_found apart space1 stay1 x_space x_row
        add-lays =
            let name = found_name t caller x can.found in
            subst (λ n. LaysOut (tree_with_row t n (loan_row l)) m2) can.named
            (two_lay t can.sound m m1 lays c.name c c_found stay1 (put_row (full_rows t c) l.at (Some lent_row)) space1
            m2 caller x can.found
            (stays x (cells_of (full_rows t x)) x_space.node name)
            (put_row (full_rows t x) l.v (Some (record (filled t x can.row) { given = shadow1_word as_lent l.born })))
            (names x (full_rows t x) (filled t x can.row) x_space name x_row)
            (insert_row (loan_row l)) l.frame (lent_changes t can.sound c x found (loan_row l) may) (sym can.may.up)
            (lent_child t can.sound c x found (loan_row l) may l.v can.row can.at can.page)
            (λ w. lent_parent t can.sound c x found (loan_row l) may l.v can.row can.at can.page w
            ∙ ap (λ b. put_row (full_rows t x) l.v
            (Some (record (filled t x can.row) { given = shadow1_word as_lent b })) w) can.born))
