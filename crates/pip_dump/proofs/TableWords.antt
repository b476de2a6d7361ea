-- A node's rows by the words of its tables.
use Rattle.std.proofs.Common.{◌≡◌, ◌≢◌, ℕ, zero, suc, ◌+◌, ◌*◌, ◌/◌, ◌%◌, ◌≤◌, ◌<◌, ◌-◌, ◌^◌, max, cond, inl, inr, List}
use Rattle.std.proofs.Common.{[], ◌∷◌, length, refl, sym, ap, ◌∙◌, subst, arith, get_or, Option, Some, None, true}
use Rattle.std.proofs.Common.{false}
use Rattle.std.specs.Prelude.{Bool, filter_map, is_some}
use Rattle.pip_model.specs.Dump.{child_of_row}
use Rattle.pip_model.specs.FullRows.{FullRow, cells_of, full_rows, row_word}
use Rattle.pip_model.specs.Layout.{LaysOut}
use Rattle.pip_model.specs.NodeIn.{IsFullRow, NodeIn, Space}
use Rattle.pip_model.specs.declared.level.Level.{Level}
use Rattle.pip_model.specs.declared.level.Level.TheVariants.{Mmu, Shadow1}
use Rattle.pip_model.specs.Partitions.{HasPartition}
use Rattle.pip_model.specs.Sound.{IsSound}
use Rattle.pip_model.specs.Tree.{Node, Row, Tree, find_node, table_at}
use Rattle.pip_model.proofs.Frames.Laid.{laid_space}
use Rattle.pip_model.proofs.Trees.Lookup.{cases_option, found_name}
use Rattle.pip_base.specs.Memory.{Memory}
use Rattle.pip_kern.proofs.Climb.{part_node}
use Rattle.pip_space.proofs.Packed.{leaf_not_zero}
use Rattle.pip_space.proofs.Tables.{has_table_found}
use Rattle.pip_space.specs.Tables.{HasTables, IsNextTables}
use Rattle.pip_table.specs.NextWord.{AreZero}
use Rattle.pip_dump.specs.Lines.{ShowsRow}
use Rattle.pip_dump.specs.Tables.{AreGiven, AreLeaves, AreRowWords}
use Rattle.pip_dump.specs.Walk.{IsNextChild, children_above, rows_above}
use Rattle.pip_dump.proofs.Nexts.{child_here, child_none, child_past, last_row, next_one, passed}

-- no row stands where the node has no tables
pub no_tables_none : {m : Memory} (x : Node) (rows : ℕ → Option FullRow) → Space m x rows → (v : ℕ)
    → (v < 2 ^ 20 → table_at x.tables (v / 1024) ≡ None) → rows v ≡ None
no_tables_none x rows space v none = elim (cases_option (rows v)) [
  | inl e ↦ e
  | inr r ↦
      let (small, on) = space.tabled v r.0 r.1 in
      let off : true ≡ false = sym on ∙ (has_table_found x v ∙ ap is_some (none small)) in
      cc
]

-- nor from one directory index to the next that has tables, or to the end
pub tables_skip : {m : Memory} (x : Node) (rows : ℕ → Option FullRow) → Space m x rows → (from i : ℕ)
    → IsNextTables x from (Some i) → (v : ℕ) → 1024 * from ≤ v → v < 1024 * i → rows v ≡ None
tables_skip x rows space from i next v above below =
    no_tables_none x rows space v (λ small. next.3 (v / 1024) (omega (arith, above)) (omega (arith, below)))

pub tables_over : {m : Memory} (x : Node) (rows : ℕ → Option FullRow) → Space m x rows → (from : ℕ)
    → IsNextTables x from None → (v : ℕ) → 1024 * from ≤ v → rows v ≡ None
tables_over x rows space from next v above =
    no_tables_none x rows space v (λ small. next (v / 1024) (omega (arith, above)) (omega (arith, small)))

-- a partition that stands has the tables of the next directory index
pub has_next : (m : Memory) (part i from : ℕ) → HasPartition m part → ((x : Node) (cells : Level → ℕ → ℕ)
    → NodeIn m x cells → x.name ≡ part → IsNextTables x from (Some i)) → HasTables m part i × (i < 1024) × (from ≤ i)
has_next m part i from h next =
    let n = part_node m part h in
    let at = next n.node n.cells n.is_in n.name in
    (record { held = n; tabled = at.2 }, at.1, at.0)

-- where the search for a child goes on in the next table
pub low_of : (v i w : ℕ) → w ≡ max v (1024 * i) → v / 1024 ≤ i
    → (v ≤ 1024 * i + w % 1024) × ((u : ℕ) → v ≤ u → u < 1024 * i + w % 1024 → u < 1024 * i)
low_of v i w e order = (omega (arith, e, order), λ u above below. omega (arith, e, order, above, below))

module _ (t : Tree) (s : IsSound t) (m : Memory) (lays : LaysOut t m)
    (part : ℕ) (x : Node) (found : find_node t part ≡ Some x) where
  -- its rows are in the memory
  pub rows_in : Space m x (full_rows t x)
  rows_in = laid_space t s m lays part x found

  pub cells_in : NodeIn m x (cells_of (full_rows t x))
  unfolding rows_in
  cells_in = rows_in.node

  pub name_is : x.name ≡ part
  name_is = found_name t part x found

  -- and their words in its tables
  pub leaves_of : (i : ℕ) (ws : List ℕ) → ((x : Node) (rows : ℕ → Option FullRow) → Space m x rows → x.name ≡ part
      → AreRowWords Mmu i ws rows) → AreLeaves t x i ws
  unfolding rows_in name_is
  leaves_of i ws words = record {
    sound = s;
    found = ap (find_node t) name_is ∙ found;
    packed = rows_in.packed;
    words = words x (full_rows t x) rows_in name_is;
  }

  pub given_of : (i : ℕ) (ws : List ℕ) → ((x : Node) (rows : ℕ → Option FullRow) → Space m x rows → x.name ≡ part
      → AreRowWords Shadow1 i ws rows) → AreGiven t x i ws
  unfolding rows_in name_is
  given_of i ws words = words x (full_rows t x) rows_in name_is

  -- no row is passed by
  pub rows_skip : (from i : ℕ) → from ≤ i → IsNextTables x from (Some i)
      → rows_above (1024 * from) x.rows ≡ rows_above (1024 * i) x.rows
  unfolding rows_in
  rows_skip from i order next = passed t s part x found
      (1024 * from) (1024 * i) (omega (arith, order)) (tables_skip x (full_rows t x) rows_in from i next)

  pub rows_over : (from : ℕ) → IsNextTables x from None → rows_above (1024 * from) x.rows ≡ []
  unfolding rows_in
  rows_over from next = last_row t s part x found (1024 * from) (tables_over x (full_rows t x) rows_in from next)

  -- nor any child
  pub children_skip : (v i high : ℕ) → IsNextTables x (v / 1024) (Some i) → v ≤ high
      → ((u : ℕ) → v ≤ u → u < high → u < 1024 * i) → children_above t x high ≡ children_above t x v
  unfolding rows_in
  children_skip v i high next order below =
      ap (filter_map (child_of_row t x)) (sym (passed t s part x found v high order (λ u above under.
      tables_skip x (full_rows t x) rows_in (v / 1024) i next u (omega (arith, above)) (below u above under))))

  pub children_over : (v : ℕ) → IsNextTables x (v / 1024) None → IsNextChild t x v None
  unfolding rows_in
  children_over v next = child_none t s part x found v
      (λ u above. tables_over x (full_rows t x) rows_in (v / 1024) next u (omega (arith, above)))

module _ (t : Tree) (x : Node) (i : ℕ) (leaves : List ℕ) (a : AreLeaves t x i leaves) where
  abbrev rows : ℕ → Option FullRow
  rows = full_rows t x

  leaf_at : (v j : ℕ) → v ≡ 1024 * i + j → j < 1024 → get_or leaves j 0 ≡ row_word Mmu (rows v)
  leaf_at v j e low = let same : v % 1024 ≡ j = omega (arith, e, low) in
      ap (λ k. get_or leaves k 0) (sym same) ∙ a.words v (omega (arith, e, low))

  -- where a word is 0, there is no row
  pub leaf_none : (v j : ℕ) → v ≡ 1024 * i + j → j < 1024 → get_or leaves j 0 ≡ 0 → rows v ≡ None
  leaf_none v j e low z = elim (cases_option (rows v)) [
    | inl none ↦ none
    | inr r ↦ absurd (leaf_not_zero r.0 (sym (ap (row_word Mmu) r.1) ∙ (sym (leaf_at v j e low) ∙ z)))
  ]

  -- where it isn't, there is one
  pub leaf_some : (v j : ℕ) → v ≡ 1024 * i + j → j < 1024 → get_or leaves j 0 ≢ 0
      → (r : FullRow) × (rows v ≡ Some r) × IsFullRow r × (get_or leaves j 0 ≡ row_word Mmu (Some r))
  leaf_some v j e low some = elim (cases_option (rows v)) [
    | inl none ↦ absurd (some (leaf_at v j e low ∙ ap (row_word Mmu) none))
    | inr r ↦ (r.0, r.1, a.packed v r.0 r.1, leaf_at v j e low ∙ ap (row_word Mmu) r.1)
  ]

  pub zeros_none : (k j : ℕ) → j ≤ 1024 → AreZero leaves k j → (v : ℕ) → 1024 * i + k ≤ v → v < 1024 * i + j
      → rows v ≡ None
  zeros_none k j most zeros v above below = leaf_none v (v - 1024 * i) (omega (arith, above)) (omega (
    arith,
    above,
    below,
    most,
  )) (zeros (v - 1024 * i) (omega (arith, above)) (omega (arith, above, below)))

  -- rows that are passed
  none_passed : (low high : ℕ) → low ≤ high → ((v : ℕ) → low ≤ v → v < high → rows v ≡ None)
      → rows_above low x.rows ≡ rows_above high x.rows
  none_passed low high order none = passed t a.sound x.name x a.found low high order none

  -- one row more, or none
  pub row_more : (j : ℕ) → j < 1024 → get_or leaves j 0 ≢ 0
      → length (rows_above (1024 * i + j) x.rows) ≡ 1 + length (rows_above (1024 * i + (j + 1)) x.rows)
  row_more j low some =
      let v = 1024 * i + j in
      let (r, is, packed, word) = leaf_some v j refl low some in
      let (q, place, at, same, more) = next_one t a.sound x.name x a.found v v r (omega arith) is
      (λ u above below. absurd (omega (arith, above, below))) in
      let next : v + 1 ≡ 1024 * i + (j + 1) = omega arith in
      let long = ap (λ (l : List Row). length l) (more ∙ ap (λ k. q ∷ rows_above k x.rows) next) in
      omega (arith, long)

  pub row_less : (j : ℕ) → j < 1024 → get_or leaves j 0 ≡ 0
      → length (rows_above (1024 * i + j) x.rows) ≡ length (rows_above (1024 * i + (j + 1)) x.rows)
  row_less j low z = ap (λ (l : List Row). length l) (none_passed (1024 * i + j) (1024 * i + (j + 1)) (omega arith)
      (λ u above below. leaf_none u j (omega (arith, above, below)) low z))

  -- the rows after the last are those of the next tables
  pub rows_end : (from : ℕ) → from ≤ 1024 → AreZero leaves from 1024
      → rows_above (1024 * i + from) x.rows ≡ rows_above (1024 * i + 1024) x.rows
  rows_end from high zeros =
      none_passed (1024 * i + from) (1024 * i + 1024) (omega (arith, high)) (zeros_none from 1024 (omega arith) zeros)

  -- the next row, by its words
  pub row_told : (given : List ℕ) → AreGiven t x i given → (from j : ℕ) → j < 1024 → get_or leaves j 0 ≢ 0
      → AreZero leaves from j → from ≤ j
      → (q : Row) × (1024 * i + j ≡ q.at) × ShowsRow t x q (get_or leaves j 0) (get_or given j 0)
      × (rows_above (1024 * i + from) x.rows ≡ q ∷ rows_above (1024 * i + (j + 1)) x.rows)
  row_told given b from j inside some zeros above =
      let v = 1024 * i + j in
      let (r, is, packed, word) = leaf_some v j refl inside some in
      let (q, place, at, same, more) = next_one t a.sound x.name x a.found (1024 * i + from) v r
      (omega (arith, above)) is (zeros_none from j (omega (arith, inside)) zeros) in
      let index : v % 1024 ≡ j = omega (arith, inside) in
      let given_word =
      ap (λ k. get_or given k 0) (sym index) ∙ (b v (omega (arith, inside)) ∙ ap (row_word Shadow1) is) in
      let next : v + 1 ≡ 1024 * i + (j + 1) = omega arith in (
        q,
        sym place,
        record { row = r; full = ap Some same; packed = packed; mmu = word; shadow = given_word },
        more ∙ ap (λ k. q ∷ rows_above k x.rows) next,
      )

  -- ---- children

  module _ (given : List ℕ) (b : AreGiven t x i given) where
    given_at : (v j : ℕ) → v ≡ 1024 * i + j → j < 1024 → get_or given j 0 ≡ row_word Shadow1 (rows v)
    given_at v j e low = let same : v % 1024 ≡ j = omega (arith, e, low) in
        ap (λ k. get_or given k 0) (sym same) ∙ b v (omega (arith, e, low))

    -- a word that tells of no descriptor
    quiet_one : (v j : ℕ) → v ≡ 1024 * i + j → j < 1024 → get_or given j 0 % 4096 ≢ 1
        → children_above t x (v + 1) ≡ children_above t x v
    quiet_one v j e low quiet = elim (cases_option (rows v)) [
      | inl none ↦ sym (ap (filter_map (child_of_row t x)) (none_passed v (v + 1) (omega arith)
          (λ u above below. let same : u ≡ v = omega (arith, above, below) in ap rows same ∙ none)))
      | inr r ↦ child_past t a.sound x.name x a.found v v r.0 (omega arith) r.1 (λ u above below. absurd (omega (
        arith,
        above,
        below,
      ))) (λ kind. quiet (ap (λ w. w % 4096) (given_at v j e low ∙ ap (row_word Shadow1) r.1) ∙ kind))
    ]

    -- words that tell of none
    pub quiet_all : (n k : ℕ) → k + n ≤ 1024 → ((j : ℕ) → k ≤ j → j < k + n → get_or given j 0 % 4096 ≢ 1)
        → children_above t x (1024 * i + (k + n)) ≡ children_above t x (1024 * i + k)
    quiet_all zero k most quiet = let same : 1024 * i + (k + 0) ≡ 1024 * i + k = omega arith in
        ap (children_above t x) same
    quiet_all (suc n) k most quiet =
        let here = quiet_one (1024 * i + k) k refl (omega (arith, most)) (quiet k (omega arith) (omega arith)) in
        let rest = quiet_all n
        (k + 1) (omega (arith, most)) (λ j low high. quiet j (omega (arith, low)) (omega (arith, high))) in
        let first : 1024 * i + (k + suc n) ≡ 1024 * i + (k + 1 + n) = omega arith in
        let next : 1024 * i + (k + 1) ≡ 1024 * i + k + 1 = omega arith in
        ap (children_above t x) first ∙ (rest ∙ (ap (children_above t x) next ∙ here))

    pub quiet_to : (k j : ℕ) → k ≤ j → j ≤ 1024 → AreZero given k j
        → children_above t x (1024 * i + j) ≡ children_above t x (1024 * i + k)
    quiet_to k j order most zeros =
        let same : k + (j - k) ≡ j = omega (arith, order) in
        ap (λ n. children_above t x (1024 * i + n)) (sym same)
        ∙ quiet_all (j - k) k (omega (arith, same, most)) (λ n low high one. let z =
        zeros n low (omega (arith, same, high)) in absurd (omega (arith, z, one)))

    pub quiet_step : (j : ℕ) → j < 1024 → get_or given j 0 % 4096 ≢ 1
        → children_above t x (1024 * i + (j + 1)) ≡ children_above t x (1024 * i + j)
    quiet_step j low quiet =
        quiet_all 1 j (omega (arith, low)) (λ n above below. let same : n ≡ j = omega (arith, above, below) in
        subst (λ m. get_or given m 0 % 4096 ≢ 1) (sym same) quiet)

    -- a word that tells of one
    pub child_told : (j c : ℕ) → j < 1024 → get_or given j 0 % 4096 ≡ 1 → c ≡ get_or leaves j 0 / 4096
        → IsNextChild t x (1024 * i + j) (Some c)
    child_told j c low kind page = elim (cases_option (rows (1024 * i + j))) [
      | inl none ↦ let z = given_at (1024 * i + j) j refl low ∙ ap (row_word Shadow1) none in
          absurd (omega (arith, z, kind))
      | inr r ↦
          let packed = a.packed (1024 * i + j) r.0 r.1 in
          let word = leaf_at (1024 * i + j) j refl low ∙ ap (row_word Mmu) r.1 in
          let told = ap (λ w. w % 4096) (sym (given_at (1024 * i + j) j refl low ∙ ap (row_word Shadow1) r.1)) ∙ kind in
          let same : r.0.frame ≡ c = page_is r.0 packed word in
          subst (λ k. IsNextChild t x (1024 * i + j) (Some k)) same (child_here t a.sound x.name x a.found (1024 * i
          + j) (1024 * i + j) r.0 (omega arith) r.1 (λ u above below. absurd (omega (arith, above, below))) told)
    ]
      where
        user_low : (b : Bool) → cond b 2 0 ≤ 2
        user_low true = omega arith
        user_low false = omega arith

        page_is : (r : FullRow) → IsFullRow r → get_or leaves j 0 ≡ row_word Mmu (Some r) → r.frame ≡ c
        page_is r packed word = let low = packed.low in let bit = user_low r.user in omega (arith, word, page, low, bit)
