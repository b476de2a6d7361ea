-- A node that is given a table.
use Rattle.std.proofs.Common.{◌≡◌, ◌≢◌, ℕ, ◌+◌, ◌*◌, ◌/◌, ◌<◌, ◌≤◌, ◌⊎◌, ◌==◌, ◌||◌, if◌then◌else◌, inl, inr, Bool}
use Rattle.std.proofs.Common.{true, false, List, [], ◌∷◌, ◌++◌, length, map, refl, sym, ap, ◌∙◌, subst, arith, eq-eqb}
use Rattle.std.proofs.Common.{eqb-true, ne_eqb, Option, Some, None}
use Rattle.std.specs.Prelude.{find}
use Rattle.std.specs.List.{list_any}
use Rattle.std.proofs.lemmas.Bool.{cases_Bool, cases_eq}
use Rattle.std.proofs.lemmas.List.{append-nil, length-append}
use Rattle.std.proofs.lemmas.List.Folds.{list_any-append}
use Rattle.pip_base.specs.declared.types.Pair.{Pair}
use Rattle.pip_base.specs.Memory.{IsMemory, Memory, put_word, word_at, zero_frame}
use Rattle.pip_base.specs.Words.{directory_word}
use Rattle.pip_base.proofs.Memory.{IsMemory-zero, length-zero_frame, word_at-zero_frame, word_at-zero_same}
use Rattle.pip_config.specs.Lists.{HasRoomInList, ListIn, ListStays}
use Rattle.pip_config.proofs.Nodes.{list_others, listed_room, node_list, node_page, other_roles}
use Rattle.pip_config.proofs.SlotWrites.{ListStays-trans}
use Rattle.pip_model.specs.NodeWords.{DescriptorPage, DirectoryPage, ListPage, Role, TablePage, directory_entry, role}
use Rattle.pip_model.specs.NodeWords.{table_page}
use Rattle.pip_model.specs.declared.level.Level.{Level}
use Rattle.pip_model.specs.declared.level.Level.TheVariants.{Mmu, Shadow1, Shadow2}
use Rattle.pip_model.specs.FullRows.{FullRow, cells_of, row_word}
use Rattle.pip_model.specs.Lists.{Distinct, In}
use Rattle.pip_model.specs.NodeIn.{NodeIn, OthersStay, Space}
use Rattle.pip_model.specs.Sound.{RowsHaveTables}
use Rattle.pip_model.specs.Tree.{Node, Table, config, dir, has_table, lists, pairs, table_at, table_pairs}
use Rattle.pip_model.proofs.Trees.Lookup.{cases_option}
use Rattle.pip_model.proofs.OnLists.Members.{Distinct-left, In-append_cases, In-append_left, In-append_right, In-map}
use Rattle.pip_model.proofs.OnLists.Members.{In-map_from, any_from, find_in}
use Rattle.pip_model.proofs.Nodes.Reads.{no_table_no_row, row_word-none}
use Rattle.pip_model.proofs.Nodes.Writes.{NodeIn-kept}
use Rattle.pip_model.proofs.Calls.Prepare.{pages_with, pairs_with, tables_with}
use Rattle.pip_model.proofs.Nodes.Roles.{descriptor_role_back, directory_role_back, role_config, role_of_descriptor}
use Rattle.pip_model.proofs.Nodes.Roles.{role_of_directory, role_of_list, role_of_table, table_role_back}
use Rattle.pip_space.specs.Lists.{CanAddPage, IsOutsideList}
use Rattle.pip_model.specs.Prepare.{with_table}
use Rattle.pip_space.specs.Tables.{AreTableRoots, AreInPages, CanInstall, page_list}
use Rattle.pip_space.specs.declared.table_roots.TableRoots.{TableRoots}
use Rattle.pip_space.proofs.Change.{changed}
use Rattle.pip_space.proofs.Entered.{Entered, entered}

-- ---- a list with one more

find_push_off : {A : Type 0} (p : A → Bool) (y : A) (xs : List A) → p y ≡ false → find p (xs ++ y ∷ []) ≡ find p xs
find_push_off p y [] off = rw off
find_push_off p y (x ∷ xs) off = rw (find_push_off p y xs off)

find_push_on : {A : Type 0} (p : A → Bool) (y : A) (xs : List A) → p y ≡ true → find p xs ≡ None
    → find p (xs ++ y ∷ []) ≡ Some y
find_push_on p y [] on none = rw on
find_push_on p y (x ∷ xs) on none = go (p x) none (find_push_on p y xs on)
  where
    go : (b : Bool) → (if b then Some x else find p xs) ≡ None → (find p xs ≡ None → find p (xs ++ y ∷ []) ≡ Some y)
        → (if b then Some x else find p (xs ++ y ∷ [])) ≡ Some y
    go true e f = cc
    go false e f = f e

-- what is asked of add_list_page and push_slot, and what they say
abbrev pub AddSays : Memory → Memory → ℕ → ℕ → Option Pair → Type 0
AddSays z g first count list = (more : List Pair) (ts : List Table) → ListIn z first more ts → length ts ≡ count
    → length more + 1 ≡ lists count → IsOutsideList first more list
    → ListIn g first (more ++ page_list list) ts × ListStays first (more ++ page_list list) z g

abbrev pub PushSays : Memory → Memory → ℕ → ℕ → List Pair → Type 0
PushSays g q first count slot = (more : List Pair) (ts : List Table) (t : Table) → ListIn g first more ts
    → length ts ≡ count → lists (count + 1) ≤ length more + 1 → table_pairs t ≡ slot
    → ListIn q first more (ts ++ t ∷ []) × ListStays first more g q

module _ (m : Memory) (x : Node) (cells : Level → ℕ → ℕ) (n : NodeIn m x cells) (b : Table) (list : Option Pair)
    (low : b.index < 1024) (can : CanInstall m x b (page_list list)) where
  abbrev y : Node
  y = with_table b (page_list list) x

  abbrev bare : Node
  bare = record x { rows = [] }

  abbrev pub zeroed : Memory
  zeroed = zero_frame (zero_frame (zero_frame m b.mmu.frame) b.shadow1.frame) b.shadow2.frame

  -- ---- the three pages zeroed

  page_new : (l : Level) → In (table_page l b) (table_pairs b ++ page_list list)
  page_new Mmu = inl refl
  page_new Shadow1 = inr (inl refl)
  page_new Shadow2 = inr (inr (inl refl))

  page_off : (l : Level) (f : ℕ) → In f (config x) → f ≢ (table_page l b).frame
  page_off l f on e = can.further (table_page l b).frame (In-map (λ (g : Pair). g.frame) (table_page l b)
      (table_pairs b ++ page_list list) (page_new l)) (subst (λ k. In k (config x)) e on)

  zeroed_count : length zeroed ≡ length m
  zeroed_count = length-zero_frame (zero_frame (zero_frame m b.mmu.frame) b.shadow1.frame) b.shadow2.frame
      ∙ (length-zero_frame (zero_frame m b.mmu.frame) b.shadow1.frame ∙ length-zero_frame m b.mmu.frame)

  zeroed_same : (f j : ℕ) → ((l : Level) → f ≢ (table_page l b).frame) → word_at zeroed f j ≡ word_at m f j
  zeroed_same f j off =
      word_at-zero_frame (zero_frame (zero_frame m b.mmu.frame) b.shadow1.frame) b.shadow2.frame f j (off Shadow2)
      ∙ (word_at-zero_frame (zero_frame m b.mmu.frame) b.shadow1.frame f j (off Shadow1)
      ∙ word_at-zero_frame m b.mmu.frame f j (off Mmu))

  zeroed_node : NodeIn zeroed x cells
  zeroed_node = NodeIn-kept m zeroed x cells n
      (IsMemory-zero (zero_frame (zero_frame m b.mmu.frame) b.shadow1.frame) b.shadow2.frame
      (IsMemory-zero (zero_frame m b.mmu.frame) b.shadow1.frame (IsMemory-zero m b.mmu.frame n.shape)))
      zeroed_count (λ f i on i_in. zeroed_same f i (λ l. page_off l f on))

  zero_again : (k : Memory) (f g j : ℕ) → g < length k → word_at k g j ≡ 0 → word_at (zero_frame k f) g j ≡ 0
  zero_again k f g j inside is = elim (cases_eq g f) [
    | inl e ↦ rw (← e, word_at-zero_same k g j inside)
    | inr ne ↦ word_at-zero_frame k f g j ne ∙ is
  ]

  zeroed_table : (l : Level) (j : ℕ) → word_at zeroed (table_page l b).frame j ≡ 0
  zeroed_table Mmu j =
      let inside = can.inside b.mmu (page_new Mmu) in
      let c1 = length-zero_frame m b.mmu.frame in
      let c2 = length-zero_frame (zero_frame m b.mmu.frame) b.shadow1.frame in
      zero_again (zero_frame (zero_frame m b.mmu.frame) b.shadow1.frame) b.shadow2.frame b.mmu.frame j (omega arith)
      (zero_again (zero_frame m b.mmu.frame) b.shadow1.frame b.mmu.frame j (omega arith)
      (word_at-zero_same m b.mmu.frame j inside))
  zeroed_table Shadow1 j =
      let inside = can.inside b.shadow1 (page_new Shadow1) in
      let c1 = length-zero_frame m b.mmu.frame in
      let c2 = length-zero_frame (zero_frame m b.mmu.frame) b.shadow1.frame in
      zero_again (zero_frame (zero_frame m b.mmu.frame) b.shadow1.frame) b.shadow2.frame b.shadow1.frame j (omega arith)
      (word_at-zero_same (zero_frame m b.mmu.frame) b.shadow1.frame j (omega arith))
  zeroed_table Shadow2 j =
      let inside = can.inside b.shadow2 (page_new Shadow2) in
      let c1 = length-zero_frame m b.mmu.frame in
      let c2 = length-zero_frame (zero_frame m b.mmu.frame) b.shadow1.frame in
      word_at-zero_same (zero_frame (zero_frame m b.mmu.frame) b.shadow1.frame) b.shadow2.frame j (omega arith)

  -- ---- the list

  room : lists (length x.tables) ≤ length x.more + 1
  room = listed_room x can.listed

  full : length x.more + 1 ≡ lists (length x.tables)
  full = omega arith

  old_list : ListIn zeroed x.base.list.frame x.more x.tables
  old_list = node_list zeroed x cells zeroed_node room

  list_new : (p : Pair) → list ≡ Some p → In p (table_pairs b ++ page_list list)
  list_new p is =
      In-append_right p (table_pairs b) (page_list list) (rw is (inl refl))

  list_further : IsOutsideList x.base.list.frame x.more list
  list_further p is k k_in e =
      can.further p.frame (In-map (λ (g : Pair). g.frame) p (table_pairs b ++ page_list list) (list_new p is))
      (role_config x p.frame (ListPage k) (rw (e, node_page x k, role_of_list x n.once k k_in)))

  can_add_page_here : CanAddPage zeroed x.base.list.frame (length x.tables) list
  can_add_page_here = record {
    more = x.more;
    tables = x.tables;
    is_in = old_list;
    count = refl;
    pages = full;
    further = list_further;
    inside = λ p is. omega (arith, can.inside p (list_new p is), zeroed_count);
  }

  more_room : lists (length x.tables + 1) ≤ length (x.more ++ page_list list) + 1
  more_room = omega (arith, length-append x.more (page_list list), full)

  module _ (z : Memory) (first count : ℕ) (zeroed_is : z ≡ zeroed) (first_is : first
      ≡ x.base.list.frame) (count_is : count ≡ length x.tables) where
    moved : (P : Memory → ℕ → ℕ → Type 0) → P zeroed x.base.list.frame (length x.tables) → P z first count
    moved P p = rw zeroed_is (subst (λ f. P zeroed f count) (sym first_is)
        (subst (P zeroed x.base.list.frame) (sym count_is) p))

    -- what the calls ask for
    pub can_add_page : CanAddPage z first count list
    can_add_page = moved (λ k f c. CanAddPage k f c list) can_add_page_here

    pub has_room : (g : Memory) → AddSays z g first count list → HasRoomInList g first count
    has_room g = moved (λ k f c. AddSays k g f c list → HasRoomInList g f c) (λ grow.
        let done = grow x.more x.tables old_list refl full list_further in
        record {
          list = record { more = x.more ++ page_list list; tables = x.tables; is_in = done.0; count = refl };
          room = more_room;
        })

    -- the list with the slot pushed
    pub list_done : (g q : Memory) (slot : List Pair) → table_pairs b ≡ slot → AddSays z g first count list
        → PushSays g q first count slot
        → ListIn q x.base.list.frame (x.more ++ page_list list) (x.tables ++ b ∷ [])
        × ListStays x.base.list.frame (x.more ++ page_list list) zeroed q
    list_done g q slot pages = moved (λ k f c. AddSays k g f c list → PushSays g q f c slot
        → ListIn q x.base.list.frame (x.more ++ page_list list) (x.tables ++ b ∷ [])
        × ListStays x.base.list.frame (x.more ++ page_list list) zeroed q) (λ grow push.
        let one = grow x.more x.tables old_list refl full list_further in
        let two = push (x.more ++ page_list list) x.tables b one.0 refl more_room pages in
        (two.0, ListStays-trans x.base.list.frame (x.more ++ page_list list) zeroed g q one.1 two.1))

  -- ---- the node with the table

  once : Distinct (config y)
  once = Distinct-left (config y) [] (pages_with bare b (page_list list)
      (record { pages = subst Distinct (sym (append-nil (config x))) n.once; places = tt }) can.differ
      (λ h on there.
      elim (In-append_cases h (config x) [] there) [ inl a ↦ can.further h on a | inr a ↦ absurd a ])).pages

  bare_tables : RowsHaveTables (record bare { tables = x.tables ++ b ∷ []; more = x.more ++ page_list list })
  bare_tables = tables_with bare b (page_list list) (record {
    first = λ r i. absurd i;
    differ = n.dirs;
    tabled = λ r i. absurd i;
    small = n.small_dirs;
    listed = can.listed;
  }) can.new low can.given

  inside : (f : ℕ) → In f (config y) → f < length zeroed
  inside f on =
      let (g, i, e) = In-map_from (λ (g : Pair). g.frame) f (pairs y) on in
      let c = zeroed_count in
      elim (pairs_with g x b (page_list list) i) [
        | inl old ↦ omega (arith, n.inside g.frame (In-map (λ (g : Pair). g.frame) g (pairs x) old))
        | inr new ↦ omega arith
      ]

  -- pages of the node but its list keep their roles
  role_kept : (f : ℕ) (r : Role) → role x f ≡ Some r → ((q : ℕ) → r ≢ ListPage q) → role y f ≡ Some r
  role_kept f DescriptorPage is other = rw (descriptor_role_back x f is, role_of_descriptor y once)
  role_kept f (DirectoryPage l) is other = rw (directory_role_back x l f is, role_of_directory y once l)
  role_kept f (TablePage l d) is other =
      let (t, i, index, frame) = table_role_back x l d f is in
      rw (← frame, role_of_table y once l t (In-append_left t x.tables (b ∷ []) i), index)
  role_kept f (ListPage k) is other = absurd (other k refl)

  no_table_at : (j : ℕ) → j ≡ b.index → table_at x.tables j ≡ None
  no_table_at j at = elim (cases_option (table_at x.tables j)) [
    | inl e ↦ e
    | inr t ↦
        let f = find_in (λ t. t.index == j) t.0 x.tables t.1 in
        absurd (can.new (rw (← at, ← eqb-true t.0.index j f.1) (In-map (λ t. t.index) t.0 x.tables f.0)))
  ]

  entry_is : (l : Level) (j : ℕ) → directory_entry l (table_at (x.tables ++ b ∷ []) j)
      ≡ (if j == b.index then directory_word (table_page l b).frame else directory_entry l (table_at x.tables j))
  entry_is l j = elim (cases_eq j b.index) [
    | inl at ↦
        let found : table_at (x.tables ++ b ∷ []) j ≡ Some b =
        find_push_on (λ t. t.index == j) b x.tables (eq-eqb b.index j (sym at)) (no_table_at j at) in
        cc (eq-eqb j b.index at)
    | inr ne ↦
        let same : table_at (x.tables ++ b ∷ []) j ≡ table_at x.tables j =
        find_push_off (λ t. t.index == j) b x.tables (ne_eqb b.index j (λ e. ne (sym e))) in
        cc (ne_eqb j b.index ne)
  ]

  -- ---- the memory after the entries were written

  module _ (q n2 : Memory) (new_list : ListIn q x.base.list.frame (x.more ++ page_list list)
      (x.tables ++ b ∷ [])) (stays : ListStays x.base.list.frame (x.more ++ page_list list) zeroed q)
      (e : Entered q n2 x b.index (λ l. directory_word (table_page l b).frame) (length (x.tables ++ b ∷ []))) where
    kept : (f j : ℕ) (r : Role) → role x f ≡ Some r → ((k : ℕ) → r ≢ ListPage k) → word_at q f j ≡ word_at zeroed f j
    kept f j r is other = other_roles y zeroed q once stays f j r (role_kept f r is other) other

    old_or_new : ((l : Level) (j : ℕ) → j < 1024 → cells l (1024 * b.index + j) ≡ 0) → (t : Table)
        → In t (x.tables ++ b ∷ []) → In t x.tables
        ⊎ ((l : Level) (j : ℕ) → j < 1024 → word_at q (table_page l t).frame j ≡ cells l (1024 * t.index + j))
    old_or_new empty t i = elim (In-append_cases t x.tables (b ∷ []) i) [
      | inl old ↦ inl old
      | inr new ↦ elim new [
        | inl is ↦ inr (rw is (λ l j j_in. other_roles y zeroed q once stays (table_page l b).frame j
            (TablePage l b.index) (role_of_table y once l b (In-append_right b x.tables (b ∷ []) (inl refl)))
            (λ k h. cc) ∙ (zeroed_table l j ∙ sym (empty l j j_in))))
        | inr none ↦ absurd none
      ]
    ]

    pub installed : ((l : Level) (j : ℕ) → j < 1024 → cells l (1024 * b.index + j) ≡ 0) → NodeIn n2 y cells
    installed empty = changed zeroed q n2 x cells zeroed_node (x.tables ++ b ∷ []) (x.more ++ page_list list) b.index
        (λ l. directory_word (table_page l b).frame)
        new_list stays.count kept e once bare_tables.differ bare_tables.small inside entry_is (old_or_new empty)

    pub installed_others : OthersStay y m n2
    installed_others =
        let more = list_others y zeroed q once stays in
        let counts = zeroed_count in
        record {
          count = cc (e.count, stays.count);
          words = λ f j off.
              e.rest f j (λ h. off (role_config y f DescriptorPage (rw (h, role_of_descriptor y once))))
              (λ l h. off (role_config y f (DirectoryPage l) (rw (h, role_of_directory y once l))))
              ∙ (more.words f j off
              ∙ zeroed_same f j (λ l h. off (role_config y f (TablePage l b.index)
              (rw (h, role_of_table y once l b (In-append_right b x.tables (b ∷ []) (inl refl)))))));
        }

  -- the entries as they are written
  pub entries_done : (q n2 : Memory) → IsMemory q → length q ≡ length zeroed → (h : TableRoots) → AreTableRoots x h
      → (i u v w t : ℕ) → b.index ≡ i → u ≡ b.mmu.frame → v ≡ b.shadow1.frame → w ≡ b.shadow2.frame → t ≡ h.tables + 1
      → n2 ≡ put_word (put_word (put_word (put_word q h.mmu i (directory_word u)) h.shadow1 i (directory_word v))
      h.shadow2 i (directory_word w)) h.part 12 t
      → Entered q n2 x b.index (λ l. directory_word (table_page l b).frame) (length (x.tables ++ b ∷ []))
  entries_done q n2 shape count h a i u v w t index u_is v_is w_is t_is written =
      let size = length-append x.tables (b ∷ []) in
      let tables : t ≡ length (x.tables ++ b ∷ []) = omega arith in
      let part : h.part ≡ x.base.descriptor.frame = a.part ∙ n.is_named in
      let c1 = zeroed_count in
      entered x n.once q n2 shape (λ f on. omega (arith, n.inside f on)) b.index (directory_word u)
      (directory_word v) (directory_word w) (length (x.tables ++ b ∷ [])) low
      (rw (← tables, index, ← part, ← a.mmu, ← a.shadow1, ← a.shadow2) written)
      (λ l. directory_word (table_page l b).frame) (rw u_is) (rw v_is)
      (rw w_is)

-- where there is no table, there is no row
pub no_row_at : (m : Memory) (x : Node) (rows : ℕ → Option FullRow) → Space m x rows → (i : ℕ)
    → (In i (map (λ (t : Table). t.index) x.tables) → ⊥) → (l : Level) (j : ℕ) → j < 1024
    → cells_of rows l (1024 * i + j) ≡ 0
no_row_at m x rows space i new l j low =
    let index : (1024 * i + j) / 1024 ≡ i = omega arith in
    let off : has_table x (1024 * i + j) ≡ false = elim (cases_Bool (has_table x (1024 * i + j))) [
      | inr off ↦ off
      | inl on ↦
          let t = any_from (λ (t : Table). t.index == dir (1024 * i + j)) x.tables on in
          absurd (new (subst (λ k. In k (map (λ (t : Table). t.index) x.tables))
          (eqb-true t.0.index (dir (1024 * i + j)) t.2 ∙ index) (In-map (λ (t : Table). t.index) t.0 x.tables t.1)))
    ] in
    rw (no_table_no_row m x rows space (1024 * i + j) off, row_word-none l)

or_on : (a b : Bool) → a ≡ true → (a || b) ≡ true
or_on true b e = refl
or_on false b e = cc

-- the rows are the same
pub installed_rows : (m n : Memory) (x : Node) (b : Table) (rest : List Pair) (rows : ℕ → Option FullRow)
    → Space m x rows → NodeIn n (with_table b rest x) (cells_of rows) → Space n (with_table b rest x) rows
installed_rows m n x b rest rows s node = record {
  node = node;
  packed = s.packed;
  tabled = λ v r is. let old = s.tabled v r is in (
    old.0,
    list_any-append (λ (t : Table). t.index == dir v) x.tables (b ∷ [])
        ∙ or_on (list_any (λ (t : Table). t.index == dir v) x.tables) _ old.1,
  );
}

-- the pages of a slot are frames of the memory
pub slot_pages : (m : Memory) (x : Node) (b : Table) (rest slot : List Pair) → CanInstall m x b rest
    → table_pairs b ≡ slot → AreInPages m slot
slot_pages m x b rest slot can pages = record {
  table = b;
  pages = pages;
  inside = λ g i. can.inside g (In-append_left g (table_pairs b) rest (rw (← pages) at i));
}
