-- A node in frames when one word is written: into one of its tables, or into frames of another node.
use Rattle.std.proofs.Common.{◌≡◌, ◌≢◌, ℕ, ◌+◌, ◌*◌, ◌<◌, ◌^◌, ◌&&◌, ◌⊎◌, if◌then◌else◌, inl, inr, true, false, List}
use Rattle.std.proofs.Common.{length, refl, sym, ap, ◌∙◌, subst, arith, eq-eqb, ne_eqb, Option, Some, None}
use Rattle.std.proofs.Math.Path.{fun_ext}
use Rattle.std.proofs.lemmas.Bool.{cases_Bool, cases_eq}
use Rattle.pip_base.specs.Memory.{IsMemory, Memory, put_word, word_at}
use Rattle.pip_base.proofs.Memory.{IsMemory-put, length-put_word, word_at-put_frame, word_at-put_index}
use Rattle.pip_base.proofs.Memory.{word_at-put_same}
use Rattle.pip_model.specs.NodeWords.{DescriptorPage, DirectoryPage, ListPage, Role, TablePage, role, role_word}
use Rattle.pip_model.specs.declared.level.Level.{Level}
use Rattle.pip_model.specs.declared.level.Level.TheVariants.{Mmu, Shadow1, Shadow2}
use Rattle.pip_model.specs.FullRows.{FullRow, cells_of, row_word}
use Rattle.pip_model.specs.Lists.{In}
use Rattle.pip_model.specs.NodeIn.{IsFullRow, NodeIn, OthersStay, Space, put_cell, put_row, same_level}
use Rattle.pip_model.specs.Tree.{Node, Row, config, has_table}
use Rattle.pip_model.proofs.Nodes.Roles.{one_table_page, role_config}

-- ---- cells and rows with one replaced

-- the test says that two levels are one
pub same_level-true : (l k : Level) → same_level l k ≡ true → l ≡ k
same_level-true Mmu Mmu e = refl
same_level-true Mmu Shadow1 e = cc
same_level-true Mmu Shadow2 e = cc
same_level-true Shadow1 Mmu e = cc
same_level-true Shadow1 Shadow1 e = refl
same_level-true Shadow1 Shadow2 e = cc
same_level-true Shadow2 Mmu e = cc
same_level-true Shadow2 Shadow1 e = cc
same_level-true Shadow2 Shadow2 e = refl

-- and is true of one
pub same_level-refl : (l : Level) → same_level l l ≡ true
same_level-refl Mmu = refl
same_level-refl Shadow1 = refl
same_level-refl Shadow2 = refl

-- the cell that was put
pub put_cell-same : (cells : Level → ℕ → ℕ) (l : Level) (v w : ℕ) → put_cell cells l v w l v ≡ w
put_cell-same cells l v w = rw (same_level-refl l, eq-eqb v v refl)

-- the cells of other vpages stay
pub put_cell-vpage : (cells : Level → ℕ → ℕ) (l : Level) (v w : ℕ) (k : Level) (u : ℕ) → u ≢ v
    → put_cell cells l v w k u ≡ cells k u
put_cell-vpage cells l v w k u ne = rw (ne_eqb u v ne)
    (elim (same_level l k) as (λ b. (if b && false then w else cells k u) ≡ cells k u) [ true ↦ refl | false ↦ refl ])

-- the cells of other levels stay
pub put_cell-level : (cells : Level → ℕ → ℕ) (l : Level) (v w : ℕ) (k : Level) (u : ℕ) → same_level l k ≡ false
    → put_cell cells l v w k u ≡ cells k u
put_cell-level cells l v w k u off = rw off

-- the row that was put
pub put_row-same : (rows : ℕ → Option FullRow) (v : ℕ) (r : Option FullRow) → put_row rows v r v ≡ r
put_row-same rows v r = rw (eq-eqb v v refl)

-- the other rows stay
pub put_row-other : (rows : ℕ → Option FullRow) (v : ℕ) (r : Option FullRow) (u : ℕ) → u ≢ v
    → put_row rows v r u ≡ rows u
put_row-other rows v r u ne = rw (ne_eqb u v ne)

-- ---- one word written into a table

module _ (m : Memory) (x : Node) (cells : Level → ℕ → ℕ) (n : NodeIn m x cells)
    (l : Level) (d f i w : ℕ) (f_is : role x f ≡ Some (TablePage l d)) (i_in : i < 1024) where
  f_in : f < length m
  f_in = n.inside f (role_config x f (TablePage l d) f_is)

  -- the words of the node's other pages
  other_page : (g j : ℕ) (r : Role) → role x g ≡ Some r → g ≢ f → j < 1024
      → role_word x cells r j ≡ role_word x (put_cell cells l (1024 * d + i) w) r j
  unfolding role_word
  other_page g j DescriptorPage g_is ne j_in = refl
  other_page g j (DirectoryPage k) g_is ne j_in = refl
  other_page g j (ListPage k) g_is ne j_in = refl
  other_page g j (TablePage k e) g_is ne j_in = elim (cases_Bool (same_level l k)) [
    | inr off ↦ sym (put_cell-level cells l (1024 * d + i) w k (1024 * e + j) off)
    | inl on ↦ elim (cases_eq e d) [
      | inr away ↦ let apart : 1024 * e + j ≢ 1024 * d + i = λ z. away (omega arith) in
          sym (put_cell-vpage cells l (1024 * d + i) w k (1024 * e + j) apart)
      | inl same ↦
          let k_is : l ≡ k = same_level-true l k on in
          let g_is2 : role x g ≡ Some (TablePage l d) =
          rw (g_is, ← k_is, same) in
          absurd (ne (one_table_page x n.dirs l d g f g_is2 f_is))
    ]
  ]

  same_page : (j : ℕ) → j < 1024
      → word_at (put_word m f i w) f j ≡ role_word x (put_cell cells l (1024 * d + i) w) (TablePage l d) j
  unfolding role_word
  same_page j j_in = elim (cases_eq j i) [
    | inl here ↦ rw here (cc (word_at-put_same m f i w n.shape f_in i_in, put_cell-same cells l (1024 * d + i) w))
    | inr there ↦
        let apart : 1024 * d + j ≢ 1024 * d + i = λ z. there (omega arith) in
        word_at-put_index m f i w f j n.shape f_in i_in there ∙ (n.each f j (TablePage l d) f_is j_in
        ∙ sym (put_cell-vpage cells l (1024 * d + i) w l (1024 * d + j) apart))
  ]

  -- the memory holds the node with this one cell changed
  pub NodeIn-put : NodeIn (put_word m f i w) x (put_cell cells l (1024 * d + i) w)
  NodeIn-put = record {
    shape = IsMemory-put m f i w n.shape f_in;
    small = rw (length-put_word m f i w) n.small;
    inside = λ g on. rw (length-put_word m f i w) (n.inside g on);
    once = n.once;
    dirs = n.dirs;
    small_dirs = n.small_dirs;
    is_named = n.is_named;
    each = λ g j r g_is j_in. elim (cases_eq g f) [
      | inr ne ↦
          word_at-put_frame m f i w g j n.shape f_in i_in ne ∙ (n.each g j r g_is j_in ∙ other_page g j r g_is ne j_in)
      | inl e ↦
          let r_is : Some (TablePage l d) ≡ Some r = rw (← f_is, ← e, g_is) in
          let same : TablePage l d ≡ r = cc in
          rw (e, same_page j j_in, same)
    ];
  }

-- ---- other frames

-- a word written into a page of the node leaves all frames of others
pub OthersStay-put : (x : Node) (m : Memory) (f i w : ℕ) → IsMemory m → f < length m → i < 1024 → In f (config x)
    → OthersStay x m (put_word m f i w)
OthersStay-put x m f i w shape f_in i_in on = record {
  count = length-put_word m f i w;
  words = λ g j off. word_at-put_frame m f i w g j shape f_in i_in (λ e. off (subst (λ k. In k (config x)) (sym e) on));
}

-- what stays twice stays
pub OthersStay-trans : (x : Node) (a b c : Memory) → OthersStay x a b → OthersStay x b c → OthersStay x a c
OthersStay-trans x a b c ab bc =
    record { count = bc.count ∙ ab.count; words = λ f i off. bc.words f i off ∙ ab.words f i off }

-- a node stays where its frames keep their words
pub NodeIn-kept : (m n : Memory) (x : Node) (cells : Level → ℕ → ℕ) → NodeIn m x cells → IsMemory n
    → length n ≡ length m → ((f i : ℕ) → In f (config x) → i < 1024 → word_at n f i ≡ word_at m f i) → NodeIn n x cells
NodeIn-kept m n x cells k shape count same = record {
  shape = shape;
  small = omega arith;
  inside = λ f on. omega (arith, k.inside f on);
  once = k.once;
  dirs = k.dirs;
  small_dirs = k.small_dirs;
  is_named = k.is_named;
  each = λ f i r is i_in. same f i (role_config x f r is) i_in ∙ k.each f i r is i_in;
}

-- so it stays where another node is written that has no page in common with it
pub NodeIn-stays : (m n : Memory) (x y : Node) (cells : Level → ℕ → ℕ) → NodeIn m x cells → IsMemory n
    → OthersStay y m n → ((f : ℕ) → In f (config x) → In f (config y) → ⊥) → NodeIn n x cells
NodeIn-stays m n x y cells k shape stay apart =
    NodeIn-kept m n x cells k shape stay.count (λ f i on i_in. stay.words f i (apart f on))

-- so do its rows
pub Space-kept : (m n : Memory) (x : Node) (rows : ℕ → Option FullRow) → Space m x rows → IsMemory n
    → length n ≡ length m → ((f i : ℕ) → In f (config x) → i < 1024 → word_at n f i ≡ word_at m f i) → Space n x rows
Space-kept m n x rows k shape count same =
    record { node = NodeIn-kept m n x (cells_of rows) k.node shape count same; packed = k.packed; tabled = k.tabled }

-- so do its rows
pub Space-stays : (m n : Memory) (x y : Node) (rows : ℕ → Option FullRow) → Space m x rows → IsMemory n
    → OthersStay y m n → ((f : ℕ) → In f (config x) → In f (config y) → ⊥) → Space n x rows
Space-stays m n x y rows k shape stay apart =
    Space-kept m n x rows k shape stay.count (λ f i on i_in. stay.words f i (apart f on))

-- ---- the same node said in another way

-- equal cells
pub NodeIn-same : (m : Memory) (x : Node) (a b : Level → ℕ → ℕ) → ((l : Level) (v : ℕ) → a l v ≡ b l v) → NodeIn m x a
    → NodeIn m x b
NodeIn-same m x a b same n = rw (← fun_ext (λ l. fun_ext (λ v. same l v))) n

-- equal rows
pub Space-same : (m : Memory) (x : Node) (a b : ℕ → Option FullRow) → ((v : ℕ) → a v ≡ b v) → Space m x a → Space m x b
Space-same m x a b same n = rw (← fun_ext same) n

-- a node's own rows aren't read: they are in what its tables hold
pub NodeIn-rows : (m : Memory) (x : Node) (cells : Level → ℕ → ℕ) (rows : List Row) → NodeIn m x cells
    → NodeIn m (record x { rows = rows }) cells
unfolding role role_word
NodeIn-rows m x cells rows n = record {
  shape = n.shape;
  small = n.small;
  inside = n.inside;
  once = n.once;
  dirs = n.dirs;
  small_dirs = n.small_dirs;
  is_named = n.is_named;
  each = n.each;
}

-- nor are they read where rows are given
pub Space-rows : (m : Memory) (x : Node) (full : ℕ → Option FullRow) (rows : List Row) → Space m x full
    → Space m (record x { rows = rows }) full
Space-rows m x full rows s =
    record { node = NodeIn-rows m x (cells_of full) rows s.node; packed = s.packed; tabled = s.tabled }

-- ---- a row replaced

put_cases : (rows : ℕ → Option FullRow) (v u : ℕ) (r q : Option FullRow) → put_row rows v r u ≡ q
    → ((u ≡ v) × (r ≡ q)) ⊎ (rows u ≡ q)
put_cases rows v u r q e = elim (cases_eq u v) [
  | inl same ↦ inl (same, rw (eq-eqb u v same) at e)
  | inr ne ↦ inr (rw (ne_eqb u v ne) at e)
]

-- a packed row with a table takes the place of what stood there
pub Space-put : (m n : Memory) (x : Node) (rows : ℕ → Option FullRow) → Space m x rows → (v : ℕ) (r : FullRow)
    → IsFullRow r → v < 2 ^ 20 → has_table x v ≡ true → NodeIn n x (cells_of (put_row rows v (Some r)))
    → Space n x (put_row rows v (Some r))
Space-put m n x rows s v r packed small on node = record {
  node = node;
  packed = λ u q is. elim (put_cases rows v u (Some r) (Some q) is) [
    | inl new ↦ let e : r ≡ q = let z = new.1 in cc in
        rw (← e) packed
    | inr old ↦ s.packed u q old
  ];
  tabled = λ u q is. elim (put_cases rows v u (Some r) (Some q) is) [
    | inl new ↦
        rw new.0 (small, on)
    | inr old ↦ s.tabled u q old
  ];
}

-- a row is taken away
pub Space-take : (m n : Memory) (x : Node) (rows : ℕ → Option FullRow) → Space m x rows → (v : ℕ)
    → NodeIn n x (cells_of (put_row rows v None)) → Space n x (put_row rows v None)
Space-take m n x rows s v node = record {
  node = node;
  packed = λ u q is. elim (put_cases rows v u None (Some q) is) [
    | inl new ↦ let z = new.1 in
        cc
    | inr old ↦ s.packed u q old
  ];
  tabled = λ u q is. elim (put_cases rows v u None (Some q) is) [
    | inl new ↦ let z = new.1 in
        cc
    | inr old ↦ s.tabled u q old
  ];
}

-- ---- rows by their cells

at_levels : (rows : ℕ → Option FullRow) (v : ℕ) (r : Option FullRow) (l : Level)
    → put_cell (put_cell (put_cell (cells_of rows) Mmu v (row_word Mmu r)) Shadow1 v (row_word Shadow1 r)) Shadow2 v
    (row_word Shadow2 r) l v ≡ row_word l r
at_levels rows v r Mmu = rw (eq-eqb v v refl)
at_levels rows v r Shadow1 = rw (eq-eqb v v refl)
at_levels rows v r Shadow2 = rw (eq-eqb v v refl)

off_levels : (rows : ℕ → Option FullRow) (v u : ℕ) (r : Option FullRow) → u ≢ v → (l : Level)
    → put_cell (put_cell (put_cell (cells_of rows) Mmu v (row_word Mmu r)) Shadow1 v (row_word Shadow1 r)) Shadow2 v
    (row_word Shadow2 r) l u ≡ row_word l (rows u)
off_levels rows v u r ne Mmu = rw (ne_eqb u v ne)
off_levels rows v u r ne Shadow1 = rw (ne_eqb u v ne)
off_levels rows v u r ne Shadow2 = rw (ne_eqb u v ne)

-- the three cells of a row put are the row put
pub three_cells : (rows : ℕ → Option FullRow) (v : ℕ) (r : Option FullRow) (l : Level) (u : ℕ)
    → put_cell (put_cell (put_cell (cells_of rows) Mmu v (row_word Mmu r)) Shadow1 v (row_word Shadow1 r)) Shadow2 v
    (row_word Shadow2 r) l u ≡ cells_of (put_row rows v r) l u
three_cells rows v r l u = elim (cases_eq u v) [
  | inl e ↦ rw e (at_levels rows v r l ∙ rw (eq-eqb v v refl))
  | inr ne ↦ off_levels rows v u r ne l ∙ rw (ne_eqb u v ne)
]

-- the cell of one level put is the row put that differs from the old one at this level alone
pub one_cell : (rows : ℕ → Option FullRow) (l : Level) (v : ℕ) (r : Option FullRow)
    → ((k : Level) → same_level l k ≡ false → row_word k r ≡ row_word k (rows v)) → (k : Level) (u : ℕ)
    → put_cell (cells_of rows) l v (row_word l r) k u ≡ cells_of (put_row rows v r) k u
one_cell rows l v r same k u = elim (cases_eq u v) [
  | inr ne ↦
      cc (put_cell-vpage (cells_of rows) l v (row_word l r) k u ne, put_row-other rows v r u ne)
  | inl e ↦ elim (cases_Bool (same_level l k)) [
    | inl on ↦
        let one : l ≡ k = same_level-true l k on in
        rw e (cc (put_cell-same (cells_of rows) l v (row_word l r), put_row-same rows v r))
    | inr off ↦ rw e (cc (put_cell-level (cells_of rows) l v (row_word l r) k v off, same k off, put_row-same rows v r))
  ]
]
