-- A node whose tables and list pages change.
use Rattle.std.proofs.Common.{◌≡◌, ◌≢◌, ℕ, ◌+◌, ◌*◌, ◌<◌, ◌⊎◌, ◌==◌, if◌then◌else◌, inl, inr, List, length, map, refl}
use Rattle.std.proofs.Common.{sym, ap, ◌∙◌, arith, eq-eqb, ne_eqb, Some}
use Rattle.std.proofs.lemmas.Bool.{cases_eq}
use Rattle.pip_base.specs.declared.types.Pair.{Pair}
use Rattle.pip_base.specs.Memory.{Memory, word_at}
use Rattle.pip_config.specs.Lists.{ListIn}
use Rattle.pip_config.proofs.Nodes.{list_role_words}
use Rattle.pip_model.specs.NodeWords.{DescriptorPage, DirectoryPage, ListPage, Role, TablePage, descriptor_word}
use Rattle.pip_model.specs.NodeWords.{directory_entry, role, role_word, table_page}
use Rattle.pip_model.specs.declared.level.Level.{Level}
use Rattle.pip_model.specs.Lists.{Distinct, In}
use Rattle.pip_model.specs.NodeIn.{NodeIn, directory_of}
use Rattle.pip_model.specs.Tree.{Node, Table, config, table_at}
use Rattle.pip_model.proofs.Nodes.Reads.{read_descriptor, read_directory, read_table}
use Rattle.pip_model.proofs.Nodes.Roles.{descriptor_role_back, directory_role_back, role_of_descriptor}
use Rattle.pip_model.proofs.Nodes.Roles.{role_of_directory, role_of_table, table_role_back}
use Rattle.pip_space.proofs.Entered.{Entered, roles_apart}

-- a descriptor's words but the number of tables
descriptor_same : (x : Node) (ts : List Table) (gs : List Pair) (j : ℕ) → j ≢ 12
    → descriptor_word x j ≡ descriptor_word (record x { tables = ts; more = gs }) j
descriptor_same x ts gs j ne = rw (ne_eqb j 12 ne) refl

-- from the memory m, which holds the node, to m2, where its list is the new one, and to n, where its entries are
module _ (m m2 n : Memory) (x : Node) (cells : Level → ℕ → ℕ) (k : NodeIn m x cells) (ts : List Table)
    (gs : List Pair) (i : ℕ) (w : Level → ℕ)
    (list : ListIn m2 x.base.list.frame gs ts)
    (count : length m2 ≡ length m)
    (kept : (f j : ℕ) (r : Role) → role x f ≡ Some r → ((q : ℕ) → r ≢ ListPage q) → word_at m2 f j ≡ word_at m f j)
    (e : Entered m2 n x i w (length ts))
    (once : Distinct (config (record x { tables = ts; more = gs })))
    (dirs : Distinct (map (λ t. t.index) ts))
    (small_dirs : (t : Table) → In t ts → t.index < 1024)
    (inside : (f : ℕ) → In f (config (record x { tables = ts; more = gs })) → f < length m)
    (entry : (l : Level) (j : ℕ)
    → directory_entry l (table_at ts j) ≡ (if j == i then w l else directory_entry l (table_at x.tables j)))
    (old : (b : Table) → In b ts → In b x.tables ⊎ ((l : Level) (j : ℕ) → j < 1024
    → word_at m2 (table_page l b).frame j ≡ cells l (1024 * b.index + j))) where
  abbrev y : Node
  y = record x { tables = ts; more = gs }

  -- pages of tables and of the list aren't written with the entries
  far : (f j : ℕ) (r : Role) → role y f ≡ Some r → (r ≡ DescriptorPage → ⊥)
      → ((l : Level) → r ≡ DirectoryPage l → ⊥) → word_at n f j ≡ word_at m2 f j
  far f j r is top dir = e.rest f j (roles_apart y f _ r DescriptorPage is (role_of_descriptor y once) top)
      (λ l. roles_apart y f _ r (DirectoryPage l) is (role_of_directory y once l) (dir l))

  descriptor_is : (j : ℕ) → j < 1024 → word_at n x.base.descriptor.frame j ≡ descriptor_word y j
  descriptor_is j low = elim (cases_eq j 12) [
    | inl at ↦ cc (e.tables)
    | inr ne ↦
        e.descriptor j ne
        ∙ (kept x.base.descriptor.frame j DescriptorPage (role_of_descriptor x k.once) (λ q h. cc)
        ∙ (ap (λ f. word_at m f j) (sym k.is_named)
        ∙ (read_descriptor m x cells k j low ∙ descriptor_same x ts gs j ne)))
  ]

  directory_is : (l : Level) (j : ℕ) → j < 1024
      → word_at n (directory_of l x.base).frame j ≡ directory_entry l (table_at ts j)
  directory_is l j low = elim (cases_eq j i) [
    | inl at ↦ cc (e.entry l, eq-eqb j i at, entry l j)
    | inr ne ↦
        e.entries l j ne
        ∙ (kept (directory_of l x.base).frame j (DirectoryPage l) (role_of_directory x k.once l) (λ q h. cc)
        ∙ (read_directory m x cells k l j low
        ∙ sym (entry l j ∙ ap (λ b. if b then w l else directory_entry l (table_at x.tables j)) (ne_eqb j i ne))))
  ]

  table_is : (l : Level) (b : Table) → In b ts → (j : ℕ) → j < 1024
      → word_at n (table_page l b).frame j ≡ cells l (1024 * b.index + j)
  table_is l b b_in j low =
      far (table_page l b).frame j (TablePage l b.index) (role_of_table y once l b b_in) (λ h. cc) (λ q h. cc)
      ∙ elim (old b b_in) [
        | inl there ↦ kept (table_page l b).frame j (TablePage l b.index) (role_of_table x k.once l b there) (λ q h. cc)
            ∙ read_table m x cells k l b there j low
        | inr new ↦ new l j low
      ]

  page_is : (f j : ℕ) (r : Role) → role y f ≡ Some r → j < 1024 → word_at n f j ≡ role_word y cells r j
  unfolding role_word
  page_is f j DescriptorPage is low = rw (descriptor_role_back y f is, descriptor_is j low)
  page_is f j (DirectoryPage l) is low = rw (directory_role_back y l f is, directory_is l j low)
  page_is f j (TablePage l d) is low =
      let (b, b_in, index, frame) = table_role_back y l d f is in
      rw (← frame, table_is l b b_in j low, index)
  page_is f j (ListPage q) is low =
      far f j (ListPage q) is (λ h. cc) (λ l h. cc) ∙ list_role_words m2 y list cells f q j is low

  -- the memory holds the changed node
  pub changed : NodeIn n y cells
  changed = record {
    shape = e.shape;
    small = omega arith;
    inside = λ f on. omega (arith, inside f on);
    once = once;
    dirs = dirs;
    small_dirs = small_dirs;
    is_named = k.is_named;
    each = page_is;
  }
