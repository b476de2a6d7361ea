-- Where frames lay out a sound tree, each node is read off them as it is.
use Rattle.std.proofs.Common.{◌≡◌, ◌≢◌, ℕ, suc, ◌+◌, ◌-◌, ◌*◌, ◌/◌, ◌%◌, ◌^◌, ◌≤◌, ◌<◌, ◌==◌, inl, inr, Bool, true}
use Rattle.std.proofs.Common.{false, not, cond, List, [], ◌∷◌, map, length, refl, sym, ap, ap₂, ◌∙◌, subst, arith}
use Rattle.std.proofs.Common.{ne_eqb, Option, Some, None}
use Rattle.std.specs.Prelude.{nat_le}
use Rattle.std.specs.List.{list_any}
use Rattle.std.proofs.lemmas.Bool.Decides.{nat_tests}
use Rattle.std.proofs.lemmas.Bool.{cases_lt}
use Rattle.std.proofs.Math.Dec.{eqb}
use Rattle.std.proofs.lemmas.Grind.{numeral_and}
use Rattle.std.proofs.lemmas.Map.Steps.{length-le_from_distinct_below}
use Rattle.pip_base.specs.Memory.{word_at}
use Rattle.pip_base.specs.Words.{leaf_word}
use Rattle.pip_model.specs.FullRows.{cells_of, full_row, full_rows, row_word}
use Rattle.pip_model.specs.Layout.{LaysOut}
use Rattle.pip_model.specs.NodeWords.{slots, no_table}
use Rattle.pip_model.specs.declared.level.Level.{Level}
use Rattle.pip_model.specs.declared.level.Level.TheVariants.{Mmu}
use Rattle.pip_model.specs.Lists.{In}
use Rattle.pip_model.specs.NodeIn.{NodeIn, Space}
use Rattle.pip_model.specs.ReadOff.{base_read, cell_in, cell_read, count_stop, gather, leaf_is_read, leaf_stop}
use Rattle.pip_model.specs.ReadOff.{more_read, more_stop, node_from, node_read, node_stop, node_with_base}
use Rattle.pip_model.specs.ReadOff.{node_with_lists, row_of_word, row_read, rows_read, table_rows, stop_unless}
use Rattle.pip_model.specs.ReadOff.{stop_with_base, stop_with_lists, stop_with_tables, table_stop}
use Rattle.pip_model.specs.Sound.{AreAmong, AreLines, IsSound}
use Rattle.pip_model.specs.Tree.{Node, Row, Table, Tree, dir, has_table, hidden, lists, nodes, row_at, table_at}
use Rattle.pip_model.proofs.Trees.Depth.{any_member, distinct_by_test}
use Rattle.pip_model.proofs.Frames.Laid.{laid_space}
use Rattle.pip_model.proofs.Trees.Lookup.{in_found}
use Rattle.pip_model.proofs.OnLists.Members.{In-map_from}
use Rattle.pip_model.proofs.Audit.NodeRead.{base_back, base_passes, count_back, masked_is, more_back, pending_back}
use Rattle.pip_model.proofs.Audit.NodeRead.{slots_pass, tables_back, two, up_back}
use Rattle.pip_model.proofs.Nodes.Reads.{no_table_no_row, read_cell, read_table, row_word-none}
use Rattle.pip_model.proofs.Trees.Numbers.{at_small, page_small, rights_small}
use Rattle.pip_model.proofs.Audit.Over.{first_none, gather_at, gather_empty, gather_pieces, gather_same, gather_none}
use Rattle.pip_model.proofs.Audit.Over.{gather_rises}
use Rattle.pip_model.proofs.Frames.ReadBack.{full-at}
use Rattle.pip_model.proofs.Nodes.Roles.{table_some}
use Rattle.pip_model.proofs.Trees.RowLookup.{held_row, row_in}
use Rattle.pip_model.proofs.Frames.Same.{index_in, rows_equal}

odd : (r : ℕ) → AreAmong 1 r → r % 2 ≡ 1
odd r h = rw (← numeral_and 0 r refl) h

-- ---- a row by its word

leaf_back : (u : Bool) (q : Row) (v : ℕ) → q.rights < 8 → q.at ≡ v
    → row_of_word v (leaf_word q.frame u q.rights) ≡ Some q
leaf_back u q v low at = go u
  where
    some : (u : Bool) (w : ℕ) → w ≢ 0 → w / 4096 ≡ q.frame → w / 4 % 8 ≡ q.rights → row_of_word v w ≡ Some q
    some u w n f r =
        ap (λ b. cond b None (Some (record { at = v; frame = w / 4096; rights = w / 4 % 8 }))) (ne_eqb w 0 n)
        ∙ ap Some (λ i. record { at = sym at i; frame = f i; rights = r i })

    go : (u : Bool) → row_of_word v (leaf_word q.frame u q.rights) ≡ Some q
    go true = some true (leaf_word q.frame true q.rights)
        (λ z. absurd (omega arith)) (omega arith) (omega arith)
    go false = some false (leaf_word q.frame false q.rights)
        (λ z. absurd (omega arith)) (omega arith) (omega arith)

row_here : (v w : ℕ) (r : Row) → row_of_word v w ≡ Some r → r.at ≡ v
row_here v w r = go (w == 0)
  where
    go : (b : Bool) → ◌≡◌ {A = Option Row}
        (cond b None (Some (record { at = v; frame = w / 4096; rights = w / 4 % 8 }))) (Some r) → r.at ≡ v
    go true e = cc
    go false e = cc

-- it is read where its page is a frame and it has READ
leaf_read_in : (u : Bool) (n f r : ℕ) → r < 8 → r % 2 ≡ 1 → f < n → leaf_is_read n (leaf_word f u r) ≡ true
leaf_read_in u n f r low odd inside = go u
  where
    test : (w : ℕ) → w ≢ 0 → w % 4096 < 32 → w % 2 ≡ 1 → w / 4 % 2 ≡ 1 → w / 4096 < n → leaf_is_read n w ≡ true
    test w a b c d e = grind (arith, nat_tests, a, b, c, d, e)

    go : (u : Bool) → leaf_is_read n (leaf_word f u r) ≡ true
    go true = test (leaf_word f true r) (λ z. absurd (omega arith)) (omega arith) (omega (
      arith,
      low,
    )) (omega arith) (omega arith)
    go false = test (leaf_word f false r) (λ z. absurd (omega arith)) (omega arith) (omega (
      arith,
      low,
    )) (omega arith) (omega arith)

-- a vpage whose directory index no table has, has none
untabled : (x : Node) (v : ℕ) → table_at x.tables (dir v) ≡ None → has_table x v ≡ false
untabled x v e = go (has_table x v) refl
  where
    go : (b : Bool) → has_table x v ≡ b → b ≡ false
    go false k = refl
    go true k = let (b, f) = table_some x v k in let bad : None ≡ Some b = cc in cc

-- the rows by their vpages
pub rows_gathered : (m : List (List ℕ)) (ts : List Table) → rows_read m ts ≡ gather (row_read m ts) 0 (2 ^ 20)
unfolding rows_read row_read cell_read table_rows
rows_gathered m ts =
    gather_pieces (row_read m ts) (λ d. table_rows m d (table_at ts d)) 1024 0 1024 (λ d. piece d (table_at ts d) refl)
  where
    piece : (d : ℕ) (o : Option Table) → table_at ts d ≡ o → table_rows m d o ≡ gather (row_read m ts) (1024 * d) 1024
    piece d None e =
        sym (gather_empty (row_read m ts) (1024 * d) 1024 (λ k lo hi. let q : k / 1024 ≡ d = omega arith in
        rw (q, e)))
    piece d (Some b) e = gather_same (λ v. row_of_word v (word_at m b.mmu.frame (v % 1024))) (row_read m ts)
        (1024 * d) 1024 (λ k lo hi. let q : k / 1024 ≡ d = omega arith in
        cc)

module _ (t : Tree) (s : IsSound t) (m : List (List ℕ)) (lays : LaysOut t m) (x : Node) (i : In x (nodes t)) where
  pub space : Space m x (full_rows t x)
  space = laid_space t s m lays x.name x (in_found t s x i)

  -- ---- the rows

  cell_back : (level : Level) (v : ℕ) → v < 2 ^ 20 → cell_read m x.tables level v ≡ row_word level (full_rows t x v)
  unfolding cell_read space
  cell_back level v small = go (table_at x.tables (dir v)) refl
    where
      go : (o : Option Table) → table_at x.tables (dir v) ≡ o → cell_in m level v o ≡ row_word level (full_rows t x v)
      go None e =
          cc (row_word-none level, no_table_no_row m x (full_rows t x) space v (untabled x v e))
      go (Some b) e = read_cell m x (cells_of (full_rows t x)) space.node level v b small e

  row_back : (v : ℕ) → v < 2 ^ 20 → row_read m x.tables v ≡ row_at x.rows v
  unfolding row_read cell_back
  row_back v small = rw (cell_back Mmu v small, go (row_at x.rows v) refl)
    where
      go : (o : Option Row) → row_at x.rows v ≡ o → row_of_word v (row_word Mmu (full_rows t x v)) ≡ o
      go None e = rw (full-at t x v None e)
      go (Some q) e =
          let k = row_in x v q e in
          rw (full-at t x v (Some q) e, leaf_back (not (hidden t q.frame)) q v (rights_small t s x i q k.0) k.1)

  at_here : (v : ℕ) (r : Row) → row_read m x.tables v ≡ Some r → r.at ≡ v
  unfolding row_read
  at_here v r e = row_here v (cell_read m x.tables Mmu v) r e

  pub rows_back : rows_read m x.tables ≡ x.rows
  rows_back = rows_gathered m x.tables ∙ rows_equal 0 (gather (row_read m x.tables) 0 (2 ^ 20)) x.rows
      (gather_rises (row_read m x.tables) at_here 0 (2 ^ 20)) (s.pages_apart x i).places same
    where
      same : (v : ℕ) → row_at (gather (row_read m x.tables) 0 (2 ^ 20)) v ≡ row_at x.rows v
      same v = elim (cases_lt v (2 ^ 20)) [
        | inl h ↦ gather_at (row_read m x.tables) at_here 0 (2 ^ 20) v (omega arith) (omega arith) ∙ row_back v h
        | inr h ↦ gather_none (row_read m x.tables) at_here 0 (2 ^ 20) v (inr (omega (arith, h)))
            ∙ sym (far (row_at x.rows v) refl h)
      ]
        where
          far : (o : Option Row) → row_at x.rows v ≡ o → 2 ^ 20 ≤ v → o ≡ None
          far None e h = refl
          far (Some q) e h = let k = row_in x v q e in absurd (omega (arith, at_small t s x i q k.0, h))

  -- ---- where it could stop

  table_passes : (j : ℕ) → j < length x.tables → table_stop m x.tables j ≡ None
  unfolding table_stop leaf_stop slots space
  table_passes j h = first_none (leaf_stop m (slots x.tables j).mmu.frame) 0 1024
      (λ k lo hi. at (slots x.tables j) k (index_in x.tables j no_table h) (omega arith))
    where
      passes : (f k w : ℕ) → word_at m f k ≡ w → leaf_is_read (length m) w ≡ true
          → stop_unless (leaf_is_read (length m) (word_at m f k)) f k ≡ None
      passes f k w e l = rw (e, l)

      row : (b : Table) (k : ℕ) (o : Option Row) → row_at x.rows (1024 * b.index + k) ≡ o
          → word_at m b.mmu.frame k ≡ row_word Mmu (full_row t x o)
          → stop_unless (leaf_is_read (length m) (word_at m b.mmu.frame k)) b.mmu.frame k ≡ None
      row b k None e w = passes b.mmu.frame k 0 w refl
      row b k (Some q) e w =
          let r = row_in x (1024 * b.index + k) q e in
          let inside = page_small t q.frame s x i (held_row x (1024 * b.index + k) q e) in
          let count = lays.count in
          passes b.mmu.frame k (leaf_word q.frame (not (hidden t q.frame)) q.rights) w
          (leaf_read_in (not (hidden t q.frame)) (length m) q.frame q.rights (rights_small t s x i q r.0)
          (odd q.rights (s.readable x i q r.0)) (omega arith))

      at : (b : Table) (k : ℕ) → In b x.tables → k < 1024
          → stop_unless (leaf_is_read (length m) (word_at m b.mmu.frame k)) b.mmu.frame k ≡ None
      at b k j h =
          row b k (row_at x.rows (1024 * b.index + k)) refl (read_table m x (cells_of (full_rows t x)) space.node Mmu b
          j k h ∙ ap (row_word Mmu) (full-at t x (1024 * b.index + k) (row_at x.rows (1024 * b.index + k)) refl))

  few_tables : length x.tables ≤ 1024
  few_tables = rw (← indexes x.tables) (length-le_from_distinct_below (map (λ b. b.index) x.tables) 1024
      (distinct_by_test (map (λ b. b.index) x.tables) (s.tables x i).differ) small)
    where
      indexes : (bs : List Table) → length (map (λ b. b.index) bs) ≡ length bs
      indexes [] = refl
      indexes (b ∷ bs) = rw (indexes bs)

      small : (q : ℕ) → list_any (eqb q) (map (λ b. b.index) x.tables) ≡ true → q < 1024
      small q h = let (b, j, e) =
          In-map_from (λ b. b.index) q x.tables (any_member q (map (λ b. b.index) x.tables) h) in
          rw e ((s.tables x i).small b j)

  -- ---- all of it

  lines_are : AreLines 0 x.pending
  lines_are = elim i [
    | inl e ↦ rw e s.lines
    | inr j ↦ rw (s.no_lines_but_the_root x j) tt
  ]

  born_is : x.base.descriptor.va ≡ x.born
  born_is = elim i [
    | inl e ↦ sym (ap (λ z. z.born) e ∙ ap (λ z. z.born) s.boot_root.same
        ∙ sym (ap (λ z. z.base.descriptor.va) s.boot_root.same) ∙ sym (ap (λ z. z.base.descriptor.va) e))
    | inr j ↦ sym (s.named_by_descriptor x j).born
  ]

  more_long : lists (length x.tables) - 1 ≡ length x.more
  more_long = sym (s.tables x i).listed

  pub node_back : node_read m x.name ≡ x
  unfolding node_read space
  node_back =
      let n = space.node in
      let cells = cells_of (full_rows t x) in
      let long = (s.tables x i).listed in
      let more : more_read m x.base.list.frame (lists (length x.tables) - 1) ≡ x.more =
      rw (more_long, (more_back m x cells n).0) in
      let up = up_back m x cells n in
      let born = born_is in
      let rows = rows_back in
      let masked = masked_is m x cells n in
      let pending = pending_back m x cells n lines_are in
      let last : node_from m x.name x.base x.more x.tables ≡ x = λ k. record {
        name = x.name;
        up = up k;
        born = born k;
        base = x.base;
        tables = x.tables;
        more = x.more;
        rows = rows k;
        masked = masked k;
        pending = pending k;
      } in
      ap₂ (node_with_base m x.name) (base_back m x cells n) (count_back m x cells n)
      ∙ ap (λ g. node_with_lists m x.name x.base g (length x.tables)) more
      ∙ ap (node_from m x.name x.base x.more) (tables_back m x cells n long)
      ∙ last

  pub node_passes : node_stop m x.name ≡ None
  unfolding node_stop space
  node_passes =
      let n = space.node in
      let cells = cells_of (full_rows t x) in
      let long = (s.tables x i).listed in
      let more : more_read m x.base.list.frame (lists (length x.tables) - 1) ≡ x.more =
      rw (more_long, (more_back m x cells n).0) in
      let stops : more_stop m x.base.list.frame (lists (length x.tables) - 1) ≡ None =
      rw (more_long, (more_back m x cells n).1) in
      let count : count_stop m x.name ≡ None = rw (count_back m x cells n, at_most few_tables) in
      let tables : stop_with_tables m x.tables ≡ None =
      first_none (table_stop m x.tables) 0 (length x.tables) (λ k lo hi. table_passes k (omega arith)) in
      let lists_pass : stop_with_lists m x.base x.more (length x.tables) ≡ None =
      two _ _ (slots_pass m x cells n long) (rw (tables_back m x cells n long, tables)) in
      let base : stop_with_base m (base_read m x.name) (word_at m x.name 12) ≡ None =
      ap₂ (stop_with_base m) (base_back m x cells n) (count_back m x cells n)
      ∙ two _ _ stops (rw (more, lists_pass)) in
      two _ _ (base_passes m x cells n long) (two _ _ count base)
    where
      at_most : {a : ℕ} → a ≤ 1024 → nat_le a 1024 ≡ true
      at_most {a} h = grind (arith, nat_tests, h)
