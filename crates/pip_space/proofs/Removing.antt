-- A node from which a table is taken.
use Rattle.std.proofs.Common.{◌≡◌, ◌≢◌, ℕ, ◌+◌, ◌-◌, ◌*◌, ◌<◌, ◌≤◌, ◌==◌, if◌then◌else◌, inl, inr, Bool, true, false}
use Rattle.std.proofs.Common.{List, [], ◌∷◌, ◌++◌, length, map, refl, sym, ap, ◌∙◌, subst, arith, eq-eqb, ne_eqb}
use Rattle.std.proofs.Common.{Option, Some, None}
use Rattle.std.specs.Prelude.{nat_lt}
use Rattle.std.proofs.lemmas.Bool.{both_ways, cases_eq}
use Rattle.std.proofs.lemmas.List.{append-nil}
use Rattle.pip_base.specs.declared.types.Pair.{Pair}
use Rattle.pip_base.specs.Memory.{IsMemory, Memory, put_word}
use Rattle.pip_config.specs.Lists.{ListIn, ListStays, IsPlaceOfTable}
use Rattle.pip_config.proofs.Nodes.{list_others, listed_room, node_list, node_place, other_roles}
use Rattle.pip_config.proofs.SlotWrites.{ListStays-trans}
use Rattle.pip_model.specs.Collect.{falls, front_of, last_first, last_of, last_pair, returned_pages, swap_out}
use Rattle.pip_model.specs.NodeWords.{DescriptorPage, DirectoryPage, ListPage, Role, TablePage, directory_entry, role}
use Rattle.pip_model.specs.NodeWords.{role_word}
use Rattle.pip_model.specs.declared.level.Level.{Level}
use Rattle.pip_model.specs.declared.level.Level.TheVariants.{Mmu}
use Rattle.pip_model.specs.FullRows.{FullRow, cells_of, row_word}
use Rattle.pip_model.specs.Lists.{Distinct, In}
use Rattle.pip_model.specs.NodeIn.{NodeIn, OthersStay, Space}
use Rattle.pip_model.specs.Sound.{RowsHaveTables}
use Rattle.pip_model.specs.Tree.{Node, Table, config, dir, lists, table_at, table_pairs}
use Rattle.pip_model.proofs.Calls.Collect.{apart_taken, config_taken, in_moved, in_out, tables_taken, total_length}
use Rattle.pip_model.proofs.Calls.Collect.{total_out}
use Rattle.pip_model.proofs.Trees.Lookup.{cases_option}
use Rattle.pip_model.proofs.OnLists.Members.{Distinct-left, In-map, any_some, find_none}
use Rattle.pip_model.proofs.Nodes.Roles.{in_table, role_config, role_of_descriptor, role_of_directory, table_found}
use Rattle.pip_model.proofs.Nodes.Roles.{table_role_back, table_some}
use Rattle.pip_space.specs.Levels.{table_frame_at}
use Rattle.pip_space.specs.Lists.{CanDropPage, CanTakeSlot}
use Rattle.pip_model.specs.Collect.{without_table}
use Rattle.pip_space.specs.Tables.{AreTableRoots, page_list, rows_beside}
use Rattle.pip_space.specs.declared.table_roots.TableRoots.{TableRoots}
use Rattle.pip_space.proofs.Change.{changed}
use Rattle.pip_space.proofs.Entered.{Entered, entered}
use Rattle.pip_space.proofs.RootWords.{few_tables}
use Rattle.pip_space.proofs.ListChanges.{less_pages, page_gone}

-- ---- a list without one

moved_in : (v : Table) (t : Table) (ts : List Table) → In v (t ∷ ts) → In v (last_of t ts ∷ front_of (t ∷ ts))
moved_in v t [] i = i
moved_in v t (u ∷ us) (inl e) = inr (inl e)
moved_in v t (u ∷ us) (inr i) = elim (moved_in v u us i) [ inl e ↦ inl e | inr j ↦ inr (inr j) ]

first_in : (v : Table) (ts : List Table) → In v ts → In v (last_first ts)
first_in v [] i = i
first_in v (t ∷ ts) i = moved_in v t ts i

-- the tables of other indexes stay
out_keeps : (i : ℕ) (c : Table) (ts : List Table) → In c ts → c.index ≢ i → In c (swap_out i ts)
out_keeps i c [] h ne = absurd h
out_keeps i c (t ∷ ts) (inl e) ne = rw (ne_eqb t.index i (λ z. ne (rw (e, z)))) (inl e)
out_keeps i c (t ∷ ts) (inr h) ne = go (t.index == i) (out_keeps i c ts h ne)
  where
    go : (q : Bool) → In c (swap_out i ts) → In c (if q then last_first ts else t ∷ swap_out i ts)
    go true k = first_in c ts h
    go false k = inr k

-- and none of this index
out_gone : (i : ℕ) (c : Table) (ts : List Table) → Distinct (map (λ t. t.index) ts) → In c (swap_out i ts) → c.index ≢ i
out_gone i c [] d h e = h
out_gone i c (t ∷ ts) d h e = elim (cases_eq t.index i) [
  | inl at ↦
      let there : In c (last_first ts) = rw (eq-eqb t.index i at) at h in
      d.0 (rw (at, ← e) (In-map (λ t. t.index) c ts (in_moved c ts there)))
  | inr ne ↦
      let there : In c (t ∷ swap_out i ts) = rw (ne_eqb t.index i ne) at h in
      elim there [
        | inl same ↦ ne (rw (← same, e))
        | inr k ↦ out_gone i c ts d.1 k e
      ]
]

module _ (m : Memory) (x : Node) (cells : Level → ℕ → ℕ) (n : NodeIn m x cells) (i : ℕ) (low : i < 1024) (b :
    Table) (has : table_at x.tables i ≡ Some b) (listed : length x.more ≡ lists (length x.tables) - 1) where
  abbrev y : Node
  y = without_table i x

  abbrev bare : Node
  bare = record x { rows = [] }

  in_tables : In b x.tables
  in_tables = (table_found x.tables i b has).0

  index_is : b.index ≡ i
  index_is = (table_found x.tables i b has).1

  room : lists (length x.tables) ≤ length x.more + 1
  room = listed_room x listed

  old_list : ListIn m x.base.list.frame x.more x.tables
  old_list = node_list m x cells n room

  shorter : length (swap_out i x.tables) + 1 ≡ length x.tables
  shorter =
      omega (arith, total_out (λ t. 1) i b x.tables has, total_length (swap_out i x.tables), total_length x.tables)

  -- the page that is found
  pub found_page : table_frame_at Mmu x i ≡ Some b.mmu.frame
  found_page = rw has
    where
      page_of : Option Table → Option ℕ
      page_of None = None
      page_of (Some t) = Some t.mmu.frame

  -- so it is the one that the code found
  pub same_page : (o : Option ℕ) (f : ℕ) → o ≡ Some f → o ≡ table_frame_at Mmu x i → f ≡ b.mmu.frame
  same_page o f found is = let e : Some f ≡ Some b.mmu.frame = rw (← found, is, found_page) in cc

  -- ---- what the calls ask for and say

  abbrev pub TakeSays : Memory → ℕ → ℕ → ℕ → List Pair → Type 0
  TakeSays g first count page slot = (more : List Pair) (ts : List Table) (c : Table) (k : ℕ) → ListIn m first more ts
      → length ts ≡ count → c.mmu.frame ≡ page → IsPlaceOfTable ts c k
      → (slot ≡ table_pairs c) × ListIn g first more (swap_out c.index ts) × ListStays first more m g

  abbrev pub DropSays : Memory → Memory → ℕ → ℕ → Option Pair → Type 0
  DropSays g q first count gone = (more : List Pair) (ts : List Table) → ListIn g first more ts → length ts ≡ count
      → length more + 1 ≡ lists (count + 1)
      → (page_list gone ≡ page_gone count more) × ListIn q first (less_pages count more) ts × ListStays first more g q

  module _ (h : TableRoots) (a : AreTableRoots x h) (o : Option ℕ) (page : ℕ) (found : o ≡ Some page)
      (is : o ≡ table_frame_at Mmu x i) where
    abbrev first : ℕ
    first = h.list

    abbrev count : ℕ
    count = h.tables

    first_is : first ≡ x.base.list.frame
    first_is = a.list

    count_is : count ≡ length x.tables
    count_is = a.tables

    page_is : page ≡ b.mmu.frame
    page_is = same_page o page found is

    abbrev place : (k : ℕ) × IsPlaceOfTable x.tables b k
    place = node_place m x cells n b in_tables

    pub some_table : 1 ≤ count
    some_table = omega (arith, shorter)

    pub can_take_slot : CanTakeSlot m first count page
    can_take_slot = record {
      more = x.more;
      tables = x.tables;
      is_in = rw first_is old_list;
      count = sym count_is;
      taken = b;
      place = place.0;
      is_place = place.1;
      frame = sym page_is;
    }

    take_done : (g : Memory) (slot : List Pair) → TakeSays g first count page slot
        → (slot ≡ table_pairs b) × ListIn g first x.more (swap_out i x.tables) × ListStays first x.more m g
    take_done g slot take = rw (← index_is) (take x.more x.tables b place.0
        (subst (λ f. ListIn m f x.more x.tables) (sym first_is) old_list) (sym count_is) (sym page_is) place.1)

    less : length (swap_out i x.tables) ≡ count - 1
    less = omega (arith, shorter)

    pages : length x.more + 1 ≡ lists (count - 1 + 1)
    pages = let s = some_table in let l = listed in let e : lists (count - 1 + 1) ≡ lists (length x.tables) =
        ap lists (let z : count - 1 + 1 ≡ length x.tables = omega arith in z) in omega arith

    pub can_drop_page : (g : Memory) (slot : List Pair) → TakeSays g first count page slot
        → CanDropPage g first (count - 1)
    can_drop_page g slot take = record {
      more = x.more;
      tables = swap_out i x.tables;
      is_in = (take_done g slot take).1;
      count = less;
      pages = pages;
      few = omega (arith, few_tables m x cells n);
    }

    falls_is : nat_lt (lists (count - 1)) (lists (count - 1 + 1)) ≡ falls x
    falls_is =
        let s = some_table in
        let same : count - 1 + 1 ≡ length x.tables = omega arith in
        cc

    -- the list with the slot and the page taken, and these
    pub lists_done : (g q : Memory) (slot : List Pair) (gone : Option Pair) → TakeSays g first count page slot
        → DropSays g q first (count - 1) gone
        → (slot ++ page_list gone ≡ returned_pages x (table_at x.tables i)) × ListIn q x.base.list.frame y.more y.tables
        × ListStays x.base.list.frame x.more m q
    lists_done g q slot gone take shrink =
        let one = take_done g slot take in
        let two = shrink x.more (swap_out i x.tables) one.1 less pages in (
          ap (λ s. s ++ page_list gone) one.0 ∙ (ap (λ s. table_pairs b ++ s) (two.0
              ∙ ap (λ (c : Bool). if c then last_pair x.more else []) falls_is) ∙ ap (returned_pages x) (sym has)),
          rw (← first_is) (subst (λ ms. ListIn q first ms y.tables)
              (ap (λ (c : Bool). if c then front_of x.more else x.more) falls_is) two.1),
          rw (← first_is) (ListStays-trans first x.more m g q one.2 two.2),
        )

  -- ---- the node without the table

  once : Distinct (config y)
  once = Distinct-left (config y) [] (apart_taken i bare b
      (record { pages = subst Distinct (sym (append-nil (config x))) n.once; places = tt }) has).pages

  bare_tables : RowsHaveTables (without_table i bare)
  bare_tables = tables_taken i bare b (record {
    first = λ r h. absurd h;
    differ = n.dirs;
    tabled = λ r h. absurd h;
    small = n.small_dirs;
    listed = listed;
  }) has index_is refl

  table_gone : (j : ℕ) → j ≡ i → table_at (swap_out i x.tables) j ≡ None
  table_gone j at = elim (cases_option (table_at (swap_out i x.tables) j)) [
    | inl e ↦ e
    | inr c ↦ let f = table_found (swap_out i x.tables) j c.0 c.1 in
        absurd (out_gone i c.0 x.tables n.dirs f.0 (f.1 ∙ at))
  ]

  table_stays : (j : ℕ) → j ≢ i → table_at (swap_out i x.tables) j ≡ table_at x.tables j
  table_stays j ne = elim (cases_option (table_at x.tables j)) [
    | inr c ↦
        let f = table_found x.tables j c.0 c.1 in
        let there = in_table (swap_out i x.tables) bare_tables.differ c.0
        (out_keeps i c.0 x.tables f.0 (λ z. ne (cc (f.1)))) in
        cc (f.1, c.1)
    | inl none ↦ elim (cases_option (table_at (swap_out i x.tables) j)) [
      | inl e ↦ cc
      | inr c ↦
          let f = table_found (swap_out i x.tables) j c.0 c.1 in
          absurd (both_ways (c.0.index == j) (find_none (λ t. t.index == j) c.0 x.tables none
          (in_out c.0 i x.tables f.0)) (eq-eqb c.0.index j f.1))
    ]
  ]

  entry_is : (l : Level) (j : ℕ) → directory_entry l (table_at (swap_out i x.tables) j)
      ≡ (if j == i then 0 else directory_entry l (table_at x.tables j))
  entry_is l j = elim (cases_eq j i) [
    | inl at ↦ cc (table_gone j at, eq-eqb j i at)
    | inr ne ↦ cc (table_stays j ne, ne_eqb j i ne)
  ]

  module _ (q n2 : Memory) (new_list : ListIn q x.base.list.frame y.more y.tables)
      (stays : ListStays x.base.list.frame x.more m q) (e : Entered q n2 x i (λ l. 0) (length y.tables)) where
    pub removed : NodeIn n2 y cells
    removed = changed m q n2 x cells n y.tables y.more i (λ l. 0) new_list stays.count
        (λ f j r is other. other_roles x m q n.once stays f j r is other) e once bare_tables.differ bare_tables.small
        (λ f on. n.inside f (config_taken i x f on)) entry_is (λ t on. inl (in_out t i x.tables on))

    pub removed_others : OthersStay x m n2
    removed_others =
        let more = list_others x m q n.once stays in
        record {
          count = e.count ∙ stays.count;
          words = λ f j off.
              e.rest f j (λ h. off (role_config x f DescriptorPage (rw (h, role_of_descriptor x n.once))))
              (λ l h. off (role_config x f (DirectoryPage l) (rw (h, role_of_directory x n.once l))))
              ∙ more.words f j off;
        }

  pub entries_gone : (q n2 : Memory) → IsMemory q → length q ≡ length m → (h : TableRoots) → AreTableRoots x h → (t : ℕ)
      → t ≡ h.tables - 1
      → n2 ≡ put_word (put_word (put_word (put_word q h.mmu i 0) h.shadow1 i 0) h.shadow2 i 0) h.part 12 t
      → Entered q n2 x i (λ l. 0) (length y.tables)
  entries_gone q n2 shape count h a t t_is written =
      let s = shorter in
      let tables : t ≡ length y.tables = omega arith in
      let part : h.part ≡ x.base.descriptor.frame = a.part ∙ n.is_named in
      entered x n.once q n2 shape (λ f on. omega (arith, n.inside f on)) i 0 0 0 (length y.tables) low
      (rw (← tables, ← part, ← a.mmu, ← a.shadow1, ← a.shadow2) written)
      (λ l. 0) refl refl refl

-- the rows are those beside the table that goes
module _ (m n : Memory) (x : Node) (i : ℕ) (rows : ℕ → Option FullRow) (s : Space m x rows)
    (node : NodeIn n (without_table i x) (cells_of rows)) where
  beside_is : (v : ℕ) → dir v ≢ i → rows_beside i rows v ≡ rows v
  beside_is v ne = rw (ne_eqb (dir v) i ne) refl

  beside_from : (v : ℕ) (r : FullRow) → rows_beside i rows v ≡ Some r → (dir v ≢ i) × (rows v ≡ Some r)
  beside_from v r is = elim (cases_eq (dir v) i) [
    | inl e ↦ let bad : None ≡ Some r = cc (eq-eqb (dir v) i e) in
        absurd (let b = bad in cc)
    | inr ne ↦ (ne, rw (← beside_is v ne) is)
  ]

  -- of the cells those count that have a table
  beside_word : (f j : ℕ) (r : Role) → role (without_table i x) f ≡ Some r → j < 1024 → role_word (without_table i x)
      (cells_of rows) r j ≡ role_word (without_table i x) (cells_of (rows_beside i rows)) r j
  unfolding role_word
  beside_word f j DescriptorPage is low = refl
  beside_word f j (DirectoryPage l) is low = refl
  beside_word f j (ListPage k) is low = refl
  beside_word f j (TablePage l d) is low =
      let (b, on, at, page) = table_role_back (without_table i x) l d f is in
      let gone = out_gone i b x.tables (s.node.dirs) on in
      let apart : dir (1024 * d + j) ≢ i = λ e. gone (at ∙ (let q : d ≡ dir (1024 * d + j) = omega arith in cc)) in
      cc (beside_is (1024 * d + j) apart)

  pub removed_rows : Space n (without_table i x) (rows_beside i rows)
  unfolding beside_from beside_word
  removed_rows = record {
    node = record {
      shape = node.shape;
      small = node.small;
      inside = node.inside;
      once = node.once;
      dirs = node.dirs;
      small_dirs = node.small_dirs;
      is_named = node.is_named;
      each = λ f j r is low. node.each f j r is low ∙ beside_word f j r is low;
    };
    packed = λ v r is. s.packed v r (beside_from v r is).1;
    tabled = λ v r is.
        let (ne, at) = beside_from v r is in
        let old = s.tabled v r at in
        let t = table_some x v old.1 in
        let f = table_found x.tables (dir v) t.0 t.1 in (
          old.0,
          any_some (λ (t : Table). t.index == dir v) t.0 (swap_out i x.tables)
              (out_keeps i t.0 x.tables f.0 (λ z. ne (cc (f.1)))) (eq-eqb t.0.index (dir v) f.1),
        );
  }
