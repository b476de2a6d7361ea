-- What is read of a node in frames: the words of its descriptor, its directories, its tables and its list.
use Rattle.std.proofs.Common.{◌≡◌, ℕ, ◌+◌, ◌*◌, ◌%◌, ◌^◌, ◌<◌, ◌≤◌, inl, inr, true, false, length, refl, ap, ◌∙◌, subst}
use Rattle.std.proofs.Common.{arith, Option, Some, None}
use Rattle.std.proofs.lemmas.Bool.{both_ways}
use Rattle.pip_base.specs.Memory.{Memory, put_word, word_at}
use Rattle.pip_model.specs.NodeWords.{DescriptorPage, DirectoryPage, ListPage, Role, TablePage, descriptor_word}
use Rattle.pip_model.specs.NodeWords.{directory_entry, list_word, role, role_word, table_page}
use Rattle.pip_model.specs.declared.level.Level.{Level}
use Rattle.pip_model.specs.declared.level.Level.TheVariants.{Mmu, Shadow1, Shadow2}
use Rattle.pip_model.specs.FullRows.{FullRow, row_word}
use Rattle.pip_model.specs.Lists.{In}
use Rattle.pip_model.specs.NodeIn.{directory_of, list_page, NodeIn, OthersStay, Space, put_cell}
use Rattle.pip_model.specs.Tree.{Node, Table, dir, has_table, table_at}
use Rattle.pip_model.proofs.Trees.Lookup.{cases_option}
use Rattle.pip_model.proofs.Nodes.Roles.{role_of_descriptor, role_of_directory, role_of_list, role_config, table_found}
use Rattle.pip_model.proofs.Nodes.Roles.{role_of_table}
use Rattle.pip_model.proofs.Nodes.Writes.{NodeIn-put, OthersStay-put}

module _ (m : Memory) (x : Node) (cells : Level → ℕ → ℕ) (n : NodeIn m x cells) where
  -- a page with a role is a frame of the memory
  pub role_inside : (f : ℕ) (r : Role) → role x f ≡ Some r → f < length m
  role_inside f r e = n.inside f (role_config x f r e)

  -- the page that names the node is its descriptor
  pub name_role : role x x.name ≡ Some DescriptorPage
  name_role = cc (n.is_named, role_of_descriptor x n.once)

  -- so the name is a frame of the memory
  pub name_inside : x.name < length m
  unfolding role_inside name_role
  name_inside = role_inside x.name DescriptorPage name_role

  -- so is the directory of each level
  pub directory_inside : (level : Level) → (directory_of level x.base).frame < length m
  unfolding role_inside
  directory_inside level =
      role_inside (directory_of level x.base).frame (DirectoryPage level) (role_of_directory x n.once level)

  -- so is each table
  pub table_inside : (level : Level) (b : Table) → In b x.tables → (table_page level b).frame < length m
  unfolding role_inside
  table_inside level b i =
      role_inside (table_page level b).frame (TablePage level b.index) (role_of_table x n.once level b i)

  -- so is each list page
  pub list_inside : (k : ℕ) → k ≤ length x.more → (list_page x k).frame < length m
  unfolding role_inside
  list_inside k h = role_inside (list_page x k).frame (ListPage k) (role_of_list x n.once k h)

  -- a word of the descriptor
  pub read_descriptor : (i : ℕ) → i < 1024 → word_at m x.name i ≡ descriptor_word x i
  unfolding role_word name_role
  read_descriptor i h = n.each x.name i DescriptorPage name_role h

  -- a word of a directory
  pub read_directory : (level : Level) (i : ℕ) → i < 1024
      → word_at m (directory_of level x.base).frame i ≡ directory_entry level (table_at x.tables i)
  unfolding role_word
  read_directory level i h =
      n.each (directory_of level x.base).frame i (DirectoryPage level) (role_of_directory x n.once level) h

  -- a word of a table
  pub read_table : (level : Level) (b : Table) → In b x.tables → (i : ℕ) → i < 1024
      → word_at m (table_page level b).frame i ≡ cells level (1024 * b.index + i)
  unfolding role_word
  read_table level b j i h =
      n.each (table_page level b).frame i (TablePage level b.index) (role_of_table x n.once level b j) h

  -- a word of a list page
  pub read_list : (k : ℕ) → k ≤ length x.more → (i : ℕ) → i < 1024 → word_at m (list_page x k).frame i ≡ list_word x k i
  unfolding role_word
  read_list k le i h = n.each (list_page x k).frame i (ListPage k) (role_of_list x n.once k le) h

  module _ (level : Level) (v : ℕ) (b : Table) (small : v < 2 ^ 20) (e : table_at x.tables (dir v) ≡ Some b) where
    -- the word of a vpage that has a table
    pub read_cell : word_at m (table_page level b).frame (v % 1024) ≡ cells level v
    unfolding read_table
    read_cell =
        let f = table_found x.tables (dir v) b e in
        let index = f.1 in
        let back : 1024 * b.index + v % 1024 ≡ v = omega arith in
        rw (read_table level b f.0 (v % 1024) (omega arith), back)

    -- writing it changes this one cell
    pub put_at : (w : ℕ) → NodeIn (put_word m (table_page level b).frame (v % 1024) w) x (put_cell cells level v w)
    put_at w =
        let f = table_found x.tables (dir v) b e in
        let index = f.1 in
        let back : 1024 * b.index + v % 1024 ≡ v = omega arith in
        rw back at (NodeIn-put m x cells n level b.index (table_page level b).frame (v % 1024) w
        (role_of_table x n.once level b f.0) (omega arith))

    -- and no frame of another node
    pub put_others : (w : ℕ) → OthersStay x m (put_word m (table_page level b).frame (v % 1024) w)
    unfolding table_inside
    put_others w =
        let f = table_found x.tables (dir v) b e in
        OthersStay-put x m (table_page level b).frame (v % 1024) w n.shape (table_inside level b f.0) (omega arith)
        (role_config x (table_page level b).frame (TablePage level b.index) (role_of_table x n.once level b f.0))

-- where a vpage has no table, it has no row
pub no_table_no_row : (m : Memory) (x : Node) (rows : ℕ → Option FullRow) → Space m x rows → (v : ℕ)
    → has_table x v ≡ false → rows v ≡ None
no_table_no_row m x rows s v off = elim (cases_option (rows v)) [
  | inl e ↦ e
  | inr r ↦ let on : has_table x v ≡ true = (s.tabled v r.0 r.1).1 in absurd (both_ways (has_table x v) off on)
]

-- the word of no row is 0 at each level
pub row_word-none : (level : Level) → row_word level None ≡ 0
row_word-none Mmu = refl
row_word-none Shadow1 = refl
row_word-none Shadow2 = refl
