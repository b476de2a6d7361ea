-- A node's tables are tables of two levels.
use Rattle.std.proofs.Common.{◌≡◌, ℕ, ◌+◌, ◌*◌, ◌<◌, ◌/◌, ◌%◌, ◌^◌, ◌↔◌, inl, inr, true, false, length, refl, sym, ap}
use Rattle.std.proofs.Common.{◌∙◌, subst, arith, Option, Some, None}
use Rattle.std.specs.Prelude.{Bool, List, [], ◌∷◌, is_some, option_map, unwrap_or}
use Rattle.std.proofs.lemmas.Bool.{cases_Bool, cases_eq}
use Rattle.pip_base.specs.Memory.{Memory, put_word, word_at}
use Rattle.pip_base.specs.Words.{directory_word}
use Rattle.pip_model.specs.NodeWords.{DirectoryPage, TablePage, descriptor_word, directory_entry, role, table_page}
use Rattle.pip_model.specs.declared.level.Level.{Level}
use Rattle.pip_model.specs.declared.level.Level.TheVariants.{Mmu, Shadow1, Shadow2}
use Rattle.pip_model.specs.FullRows.{FullRow, cells_of, row_word}
use Rattle.pip_model.specs.NodeIn.{HasTableFor, IsFullRow, IsFirstShadowWord, NodeIn, OthersStay, Space, directory_of}
use Rattle.pip_model.specs.NodeIn.{put_cell, put_row, same_level}
use Rattle.pip_model.specs.Tree.{Node, Table, dir, has_table, table_at}
use Rattle.pip_model.proofs.Trees.Lookup.{cases_option}
use Rattle.pip_model.proofs.Nodes.Reads.{directory_inside, no_table_no_row, put_at, put_others, read_cell}
use Rattle.pip_model.proofs.Nodes.Reads.{read_descriptor, read_directory, role_inside, row_word-none, table_inside}
use Rattle.pip_model.proofs.Nodes.Writes.{NodeIn-same, Space-put, Space-take, one_cell, three_cells}
use Rattle.pip_model.proofs.Nodes.Roles.{entry_found, role_of_directory, role_of_table, table_found, table_has}
use Rattle.pip_model.proofs.Nodes.Roles.{table_some}
use Rattle.pip_table.specs.NextLeaf.{IsNextLeaf}
use Rattle.pip_table.specs.NextWord.{IsFirstTable}
use Rattle.pip_table.specs.Table.{HasTable, IsEmptyTable, IsDirectory, leaf_or_0, table_frame}
use Rattle.pip_table.proofs.Laws.{leaf_at-has, leaf_at-none}
use Rattle.pip_space.specs.Levels.{table_frame_at, descriptor_index}
use Rattle.pip_space.specs.Rows.{HasRow, IsNextRow, IsPacked, full_of}
use Rattle.pip_space.specs.Tables.{HasTables, IsNextTables}
use Rattle.pip_space.specs.declared.row.Row.{Row}
use Rattle.pip_space.proofs.Packed.{leaf_not_zero, not_both}

-- a descriptor's word is the directory's frame
pub place_word : (x : Node) (l : Level)
    → descriptor_word x (descriptor_index l) ≡ (directory_of l x.base).frame
place_word x Mmu = refl
place_word x Shadow1 = refl
place_word x Shadow2 = refl

pub place_below : (l : Level) → descriptor_index l < 1024
place_below Mmu = omega arith
place_below Shadow1 = omega arith
place_below Shadow2 = omega arith

-- the table whose page is found
pub page_table : (level : Level) (x : Node) (i f : ℕ) → table_frame_at level x i ≡ Some f
    → (b : Table) × (table_at x.tables i ≡ Some b) × ((table_page level b).frame ≡ f)
page_table level x i f e = go (table_at x.tables i) refl e
  where
    go : (o : Option Table) → table_at x.tables i ≡ o → option_map (λ b. (table_page level b).frame) o ≡ Some f
        → (b : Table) × (table_at x.tables i ≡ Some b) × ((table_page level b).frame ≡ f)
    go None k h = cc
    go (Some b) k h = (b, k, cc)

module _ (m : Memory) (x : Node) (cells : Level → ℕ → ℕ) (n : NodeIn m x cells) where
  -- a word of the descriptor, where a partition is named
  pub read_place : (part : ℕ) → x.name ≡ part → (l : Level) (i : ℕ) → i ≡ descriptor_index l
      → word_at m part i ≡ (directory_of l x.base).frame
  read_place part name l i place =
      let low = place_below l in
      rw (← name) (ap (word_at m x.name) place ∙ (read_descriptor m x cells n (descriptor_index l) low ∙ place_word x
      l))

  module _ (level : Level) where
    abbrev pub top : ℕ
    top = (directory_of level x.base).frame

    entry_table : (i : ℕ) → i < 1024 → HasTable m top i
        → (b : Table) × (table_at x.tables i ≡ Some b) × (word_at m top i ≡ directory_word (table_page level b).frame)
    entry_table i h has =
        let e = read_directory m x cells n level i h in
        let found = entry_found level x.tables i (λ z. has (cc)) in
        (found.0, found.1, e ∙ found.2)

    entry_role : (i : ℕ) → i < 1024 → HasTable m top i → role x (table_frame m top i) ≡ Some (TablePage level i)
    entry_role i h has =
        let b = entry_table i h has in
        let f = table_found x.tables i b.0 b.1 in
        let frame : table_frame m top i ≡ (table_page level b.0).frame = omega arith in
        rw (frame, role_of_table x n.once level b.0 f.0, f.1)

    -- the directory of a level and its tables are a table of two levels
    pub is_table : IsDirectory m top
    is_table = record {
      shape = n.shape;
      inside = directory_inside m x cells n level;
      packed = λ i h has. let b = entry_table i h has in omega arith;
      below = λ i h has. role_inside m x cells n (table_frame m top i) (TablePage level i) (entry_role i h has);
      beside = λ i h has e. let a : Some (TablePage level i) ≡ Some (DirectoryPage level) =
          rw (← entry_role i h has, e, role_of_directory x n.once level) in cc;
      apart = λ i j h k has_i has_j e. let a : Some (TablePage level i) ≡ Some (TablePage level j) =
          rw (← entry_role i h has_i, e, entry_role j k has_j) in cc;
    }

    -- what an entry of the directory names is the table's page
    pub entry_none : (i : ℕ) → i < 1024 → word_at m top i ≡ 0 → table_frame_at level x i ≡ None
    entry_none i h zero_is = elim (cases_option (table_at x.tables i)) [
      | inl e ↦ rw e
      | inr b ↦ let w : word_at m top i ≡ directory_word (table_page level b.0).frame =
          rw (read_directory m x cells n level i h, b.1) in absurd (omega arith)
    ]

    pub entry_some : (i f : ℕ) → i < 1024 → word_at m top i ≡ directory_word f → table_frame_at level x i ≡ Some f
    entry_some i f h e =
        let b = entry_table i h (λ z. absurd (omega arith)) in
        let w = b.2 in
        let same : (table_page level b.0).frame ≡ f = omega arith in
        rw (b.1, same)

    -- the entry of a table that the node has
    entry_has : (i : ℕ) → i < 1024 → is_some (table_at x.tables i) ≡ true → HasTable m top i
    entry_has i h on zero_is = elim (cases_option (table_at x.tables i)) [
      | inl e ↦ let off = ap is_some e in cc
      | inr b ↦ let w : word_at m top i ≡ directory_word (table_page level b.0).frame =
          rw (read_directory m x cells n level i h, b.1) in absurd (omega arith)
    ]

    pub page_inside : (i f : ℕ) → table_frame_at level x i ≡ Some f → f < length m
    page_inside i f e =
        let b = page_table level x i f e in
        let t = table_found x.tables i b.0 b.1 in
        omega (arith, table_inside m x cells n level b.0 t.0)

    module _ (v f : ℕ) (small : v < 2 ^ 20) (e : table_frame_at level x (v / 1024) ≡ Some f) where
      -- the word of a table at a vpage
      pub page_word_is : word_at m f (v % 1024) ≡ cells level v
      page_word_is =
          let b = page_table level x (v / 1024) f e in
          rw (← b.2, read_cell m x cells n level v b.0 small b.1)

      -- writing it changes one cell of the node, and no frame of others
      pub page_put : (w : ℕ)
          → NodeIn (put_word m f (v % 1024) w) x (put_cell cells level v w) × OthersStay x m (put_word m f (v % 1024) w)
      page_put w =
          let b = page_table level x (v / 1024) f e in
          rw (← b.2) (put_at m x cells n level v b.0 small b.1 w, put_others m x cells n level v b.0 small b.1 w)

-- whether there is a table is known by any level's page
pub no_page_no_table : (level : Level) (x : Node) (i : ℕ) → table_frame_at level x i ≡ None
    → table_at x.tables i ≡ None
no_page_no_table level x i e = elim (cases_option (table_at x.tables i)) [
  | inl none ↦ none
  | inr b ↦ absurd (not_both (table_frame_at level x i) (table_page level b.0).frame e
      (rw b.1))
]

-- the next tables by the next entry of the directory
pub next_index : (m : Memory) (x : Node) (cells : Level → ℕ → ℕ) → NodeIn m x cells → (f : ℕ)
    → f ≡ (directory_of Mmu x.base).frame → (from : ℕ) (o : Option ℕ) → IsFirstTable m f from o → IsNextTables x from o
next_index m x cells n f top from None h = λ i low high.
    no_page_no_table Mmu x i (entry_none m x cells n Mmu i high (rw (← top, h i low high)))
next_index m x cells n f top from (Some k) h =
    let (high, some, zeros, low) = h in (
      low,
      high,
      elim (cases_option (table_at x.tables k)) [
        | inr b ↦ rw b.1
        | inl none ↦ absurd (some (rw (top, read_directory m x cells n Mmu k high, none)))
      ],
      λ i above below. no_page_no_table Mmu x i (entry_none m x cells n Mmu i
          (omega arith) (rw (← top, zeros i above below))),
    )

-- a node of no tables has none at an index
pub none_at_all : (ts : List Table) → 0 ≡ length ts → (i : ℕ) → table_at ts i ≡ None
none_at_all [] e i = refl
none_at_all (t ∷ ts) e i = absurd (omega arith)

-- the directory of a node that has tables for directory index i has an entry for them
pub tables_entry : (m : Memory) (part i f : ℕ) → i < 1024 → HasTables m part i
    → ((x : Node) (cells : Level → ℕ → ℕ) → NodeIn m x cells → x.name ≡ part → f ≡ (directory_of Mmu x.base).frame)
    → HasTable m f i
tables_entry m part i f low t at =
    let n = t.held in
    rw (at n.node n.cells n.is_in n.name) (entry_has m n.node n.cells n.is_in Mmu i low t.tabled)

-- whether there is a table is known by any level's page
pub page_some : (level : Level) (x : Node) (i : ℕ)
    → is_some (table_frame_at level x i) ≡ is_some (table_at x.tables i)
page_some level x i = elim (cases_option (table_at x.tables i)) [
  | inl e ↦ cc
  | inr b ↦ cc (b.1, b.1)
]

-- what has_table answers, of a vpage
pub has_table_found : (x : Node) (v : ℕ) → has_table x v ≡ is_some (table_at x.tables (dir v))
has_table_found x v = elim (cases_option (table_at x.tables (dir v))) [
  | inr b ↦ cc (table_has x v b.0 b.1, b.1)
  | inl e ↦ elim (cases_Bool (has_table x v)) [
    | inr off ↦ cc
    | inl on ↦ let b = table_some x v on in absurd (not_both (table_at x.tables (dir v)) b.0 e b.1)
  ]
]

-- the page for a vpage that has a table
pub page_for : (level : Level) (x : Node) (v : ℕ) → has_table x v ≡ true
    → (f : ℕ) × (table_frame_at level x (v / 1024) ≡ Some f)
page_for level x v on = let b = table_some x v on in
    ((table_page level b.0).frame, rw b.1)

pub page_has : (level : Level) (x : Node) (v f : ℕ) → table_frame_at level x (v / 1024) ≡ Some f
    → has_table x v ≡ true
page_has level x v f e = let b = page_table level x (v / 1024) f e in table_has x v b.0 b.1

pub no_page : (level : Level) (x : Node) (v : ℕ) → table_frame_at level x (v / 1024) ≡ None → has_table x v ≡ false
no_page level x v e = elim (cases_Bool (has_table x v)) [
  | inr off ↦ off
  | inl on ↦ let p = page_for level x v on in absurd (not_both (table_frame_at level x (v / 1024)) p.0 e p.1)
]

module _ (m : Memory) (x : Node) (rows : ℕ → Option FullRow) (space : Space m x rows) where
  -- each row is packed
  pub packed_row : (v : ℕ) → IsPacked (rows v)
  packed_row v = go (rows v) refl
    where
      go : (r : Option FullRow) → rows v ≡ r → IsPacked r
      go None e = tt
      go (Some r) e = space.packed v r e

  -- the word of a row at each level
  pub row_of_page : (level : Level) (v number f : ℕ) → number ≡ v → number < 2 ^ 20
      → table_frame_at level x (number / 1024) ≡ Some f → word_at m f (number % 1024) ≡ row_word level (rows v)
  row_of_page level v number f same small e =
      rw (page_word_is m x (cells_of rows) space.node level number f small e, same)

  pub no_page_no_row : (level : Level) (v number : ℕ) → number ≡ v → table_frame_at level x (number / 1024) ≡ None
      → row_word level (rows v) ≡ 0
  no_page_no_row level v number same e =
      rw (← same, no_table_no_row m x rows space number (no_page level x number e), row_word-none level)

  pub row_at_page : (level : Level) (v number f : ℕ) → number ≡ v → number < 2 ^ 20 → table_frame_at level x
      (v / 1024) ≡ Some f → (r : FullRow) → rows v ≡ Some r → word_at m f (number % 1024) ≡ row_word level (Some r)
  row_at_page level v number f same small page r at = row_of_page level v number f same small
      (ap (λ k. table_frame_at level x (k / 1024)) same ∙ page) ∙ ap (row_word level) at

  -- the word of the table of two levels, 0 where there is no table
  leaf_of_row : (level : Level) (v : ℕ) → v < 2 ^ 20
      → leaf_or_0 m (directory_of level x.base).frame v ≡ row_word level (rows v)
  leaf_of_row level v small =
      let t = is_table m x (cells_of rows) space.node level in
      let low : v / 1024 < 1024 = omega arith in
      elim (cases_eq (word_at m (directory_of level x.base).frame (v / 1024)) 0) [
        | inl is ↦ ap (λ o. unwrap_or o 0) (leaf_at-none m (directory_of level x.base).frame v is)
            ∙ sym (no_page_no_row level v v refl (entry_none m x (cells_of rows) space.node level (v / 1024) low is))
        | inr has ↦
            let page = entry_some m x (cells_of rows) space.node level (v / 1024) (table_frame m
            (directory_of level x.base).frame (v / 1024)) low (t.packed (v / 1024) low has) in
            ap (λ o. unwrap_or o 0) (leaf_at-has m (directory_of level x.base).frame v has)
            ∙ row_of_page level v v (table_frame m (directory_of level x.base).frame (v / 1024)) refl small page
      ]

  -- where the word of a row is 0, there is none
  word_no_row : (v : ℕ) → row_word Mmu (rows v) ≡ 0 → rows v ≡ None
  word_no_row v zero_is = elim (cases_option (rows v)) [
    | inl e ↦ e
    | inr r ↦ absurd (leaf_not_zero r.0 (cc (r.1)))
  ]

  -- so there is none where the table's word is 0
  pub zero_no_row : (v : ℕ) → (v < 2 ^ 20 → leaf_or_0 m (directory_of Mmu x.base).frame v ≡ 0) → rows v ≡ None
  zero_no_row v zero_is = elim (cases_option (rows v)) [
    | inl e ↦ e
    | inr r ↦
        let small = (space.tabled v r.0 r.1).0 in
        word_no_row v (cc (leaf_of_row Mmu v small, zero_is small))
  ]

  -- a table is empty exactly where no row is in it
  pub empty_exactly : (f : ℕ) → f ≡ (directory_of Mmu x.base).frame → (i : ℕ) → i < 1024 → HasTable m f i
      → IsEmptyTable m f i ↔ ((v : ℕ) → dir v ≡ i → rows v ≡ None)
  empty_exactly f top i low has = (to, from)
    where
      -- a word of the table
      word : (v : ℕ) → dir v ≡ i → word_at m (table_frame m f i) (v % 1024) ≡ row_word Mmu (rows v)
      word v e =
          let at = subst (λ k. HasTable m k (dir v)) top (rw e has) in
          cc (leaf_at-has m (directory_of Mmu x.base).frame v at, leaf_of_row Mmu v (omega arith))

      to : IsEmptyTable m f i → (v : ℕ) → dir v ≡ i → rows v ≡ None
      to zeros v e = word_no_row v (cc (word v e, zeros (v % 1024) (omega arith)))

      from : ((v : ℕ) → dir v ≡ i → rows v ≡ None) → IsEmptyTable m f i
      from none j small =
          let e : dir (1024 * i + j) ≡ i = omega arith in
          let back : (1024 * i + j) % 1024 ≡ j = omega arith in
          rw (← back, word (1024 * i + j) e, none (1024 * i + j) e)

  -- the next row by the next word
  pub next_found : (f : ℕ) → f ≡ (directory_of Mmu x.base).frame → (after : Option ℕ) (v w : ℕ) (row : Row)
      → IsNextLeaf m f after (Some (v, w)) → Some (full_of row) ≡ rows v → IsNextRow rows after (Some (v, row))
  next_found f top after v w row next is =
      let at = subst (λ k. IsNextLeaf m k after (Some (v, w))) top next in
      (at.0, sym is, λ u above below. zero_no_row u (λ small. at.4 u above below))

  pub next_none : (f : ℕ) → f ≡ (directory_of Mmu x.base).frame → (after : Option ℕ) → IsNextLeaf m f after None
      → IsNextRow rows after None
  next_none f top after next =
      λ u above. zero_no_row u (λ small. subst (λ k. IsNextLeaf m k after None) top next u above small)

  -- a word that isn't 0 is that of a row
  pub next_word : (f : ℕ) → f ≡ (directory_of Mmu x.base).frame → (after : Option ℕ) (v w : ℕ)
      → IsNextLeaf m f after (Some (v, w)) → w ≡ row_word Mmu (rows v)
  next_word f top after v w next =
      let at = subst (λ k. IsNextLeaf m k after (Some (v, w))) top next in
      cc (at.2, leaf_of_row Mmu v at.1)

  pub next_not_none : (f : ℕ) → f ≡ (directory_of Mmu x.base).frame → (after : Option ℕ) (v w : ℕ)
      → IsNextLeaf m f after (Some (v, w)) → None ≡ rows v → ⊥
  next_not_none f top after v w next none = next.3 (rw (next_word f top after v w next, ← none))

-- ---- writes

-- one node's directory is another's of the same name
same_directory : (m : Memory) (x y : Node) (a b : Level → ℕ → ℕ) → NodeIn m x a → NodeIn m y b → x.name ≡ y.name
    → x.base.mmu.frame ≡ y.base.mmu.frame
same_directory m x y a b n k same =
    cc (read_place m x a n y.name same Mmu 3 refl, read_place m y b k y.name refl Mmu 3 refl)

-- where one node of a name has a table, each has
pub room_table : (m : Memory) (part v : ℕ) → v < 2 ^ 20 → HasTableFor m part v → (x : Node) (cells : Level → ℕ → ℕ)
    → NodeIn m x cells → x.name ≡ part → has_table x v ≡ true
room_table m part v small room x cells n name =
    let y = room.held.node in
    let low : v / 1024 < 1024 = omega arith in
    let same = same_directory m x y cells room.held.cells n room.held.is_in (cc (room.held.name)) in
    let p = page_for Mmu y v room.tabled in
    let b = page_table Mmu y (v / 1024) p.0 p.1 in
    let word : word_at m y.base.mmu.frame (v / 1024) ≡ directory_word b.0.mmu.frame =
    rw (read_directory m y room.held.cells room.held.is_in Mmu (v / 1024) low, b.1) in
    page_has Mmu x v b.0.mmu.frame
    (entry_some m x cells n Mmu (v / 1024) b.0.mmu.frame low (rw (same, word)))

-- a vpage that has a row has a table
pub room_of : (m : Memory) (part v : ℕ) → HasRow m part v → HasTableFor m part v
room_of m part v r = record {
  held = search;
  tabled = (r.is_in.tabled v r.row r.at).1;
}

module _ (m n : Memory) (x : Node) where
  -- one word written
  pub level_put : (cells : Level → ℕ → ℕ) → NodeIn m x cells → (level : Level) (v number f w : ℕ) → number ≡ v
      → number < 2 ^ 20 → table_frame_at level x (v / 1024) ≡ Some f → n ≡ put_word m f (number % 1024) w
      → NodeIn n x (put_cell cells level v w) × OthersStay x m n
  level_put cells k level v number f w same small page written =
      let low : v < 2 ^ 20 = omega arith in
      rw (written, same) (page_put m x cells k level v f low page w)

  module _ (rows : ℕ → Option FullRow) (space : Space m x rows) (v : ℕ) where
    -- the three words of a row, or of none
    pub words_put : (r : Option FullRow) → IsPacked r → v < 2 ^ 20 → has_table x v ≡ true → (a b c : ℕ)
        → a ≡ row_word Mmu r → b ≡ row_word Shadow1 r → c ≡ row_word Shadow2 r
        → NodeIn n x (put_cell (put_cell (put_cell (cells_of rows) Mmu v a) Shadow1 v b) Shadow2 v c)
        → Space n x (put_row rows v r)
    words_put r packed small on a b c a_is b_is c_is node =
        let cells = subst (λ w. NodeIn n x (put_cell (put_cell (put_cell (cells_of rows) Mmu v (row_word Mmu r)) Shadow1
        v (row_word Shadow1 r)) Shadow2 v w)) c_is
        (rw (← b_is) (subst (λ w. NodeIn n x (put_cell (put_cell (put_cell (cells_of rows) Mmu v w) Shadow1 v b) Shadow2
        v c)) a_is node)) in
        at_row r packed (NodeIn-same n x _ _ (three_cells rows v r) cells)
      where
        at_row : (r : Option FullRow) → IsPacked r → NodeIn n x (cells_of (put_row rows v r))
            → Space n x (put_row rows v r)
        at_row None p k = Space-take m n x rows space v k
        at_row (Some r) p k = Space-put m n x rows space v r p small on k

    -- the word of one level, where the row differs from the old one there alone
    pub row_put : (level : Level) (old new : FullRow) (w : ℕ) → rows v ≡ Some old → IsFullRow new
        → ((k : Level) → same_level level k ≡ false → row_word k (Some new) ≡ row_word k (Some old))
        → w ≡ row_word level (Some new) → NodeIn n x (put_cell (cells_of rows) level v w)
        → Space n x (put_row rows v (Some new))
    row_put level old new w at packed same word node =
        let there = space.tabled v old at in
        Space-put m n x rows space v new packed there.0 there.1
        (NodeIn-same n x _ _ (one_cell rows level v (Some new) (λ k other. rw (same k other, ← at)))
        (rw (← word) node))

-- a row that is given to another differs in the first shadow alone
pub given_word : (r : FullRow) (w : ℕ) (k : Level) → same_level Shadow1 k ≡ false
    → row_word k (Some (record r { given = w })) ≡ row_word k (Some r)
given_word r w Mmu other = refl
given_word r w Shadow1 other = cc
given_word r w Shadow2 other = refl

-- and one that is opened or hidden in the MMU's table alone
pub user_word : (r : FullRow) (b : Bool) (k : Level) → same_level Mmu k ≡ false
    → row_word k (Some (record r { user = b })) ≡ row_word k (Some r)
user_word r b Mmu other = cc
user_word r b Shadow1 other = refl
user_word r b Shadow2 other = refl

pub with_given : (r : FullRow) (w : ℕ) → IsFullRow r → IsFirstShadowWord w → IsFullRow (record r { given = w })
with_given r w p given = assumption

pub with_user : (r : FullRow) (b : Bool) → IsFullRow r → IsFullRow (record r { user = b })
with_user r b p = assumption
