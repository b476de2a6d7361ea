-- Parts of soundness of one node, by what is held of its tables.
use Rattle.std.proofs.Common.{◌≡◌, ℕ, zero, suc, ◌+◌, ◌-◌, ◌/◌, ◌%◌, ◌^◌, ◌<◌, ◌≤◌, ◌==◌, inl, inr, List, map, length}
use Rattle.std.proofs.Common.{refl, sym, ap, ◌∙◌, arith, Option, Some, None, Bool, true, false, not, cond, eq-eqb}
use Rattle.std.proofs.Common.{ne_eqb}
use Rattle.std.specs.Prelude.{is_some, nat_lt, option_map, unwrap_or}
use Rattle.std.specs.List.{list_all}
use Rattle.std.proofs.lemmas.Bool.{cases_eq}
use Rattle.std.proofs.lemmas.Bool.Decides.{nat_tests}
use Rattle.pip_base.specs.Memory.{Memory, word_at}
use Rattle.pip_model.specs.Lists.{has}
use Rattle.pip_model.specs.Parts.{has_tables, indexes}
use Rattle.pip_model.specs.declared.level.Level.TheVariants.{Mmu}
use Rattle.pip_model.specs.ReadOff.{base_read, cell_in, cell_read, gather, values_from, more_read, node_read}
use Rattle.pip_model.specs.ReadOff.{place_of_table, row_of_word, row_read, slot_page, slot_start, table_read}
use Rattle.pip_model.specs.ReadOff.{tables_read, with_first}
use Rattle.pip_model.specs.Tree.{Row, Table, dir, lists, table_at}
use Rattle.pip_model.proofs.Audit.NodeBack.{rows_gathered}
use Rattle.pip_audit.specs.declared.tables.Tables.{Tables}
use Rattle.pip_audit.specs.Links.{list_read}
use Rattle.pip_audit.specs.Tables.{IsOf, IsRowAt, tables_in, triple_of}
use Rattle.pip_audit.specs.declared.tables.FoundRow.{FoundRow}
use Rattle.pip_audit.proofs.EachNode.{both, not_first, not_second}
use Rattle.pip_audit.proofs.Loads.{has_index, place_small}
use Rattle.pip_audit.proofs.TableWords.{listed_long}

-- ---- all that is gathered

module _ {A : Type 0} (p : A → Bool) (f : ℕ → Option A) where
  pub gather_true : (from n : ℕ) → ((v : ℕ) (r : A) → from ≤ v → v < from + n → f v ≡ Some r → p r ≡ true)
      → list_all p (gather f from n) ≡ true
  unfolding gather
  gather_true from zero h = refl
  gather_true from (suc n) h =
      go (f from) refl (gather_true (from + 1) n (λ v r lo hi e. h v r (omega (arith, lo)) (omega (arith, hi)) e))
    where
      go : (o : Option A) → f from ≡ o → list_all p (gather f (from + 1) n) ≡ true
          → list_all p (with_first o (gather f (from + 1) n)) ≡ true
      go None e rest = rest
      go (Some r) e rest = both (h from r (omega arith) (omega arith) e) rest

  pub gather_false : (from n v : ℕ) (r : A) → from ≤ v → v < from + n → f v ≡ Some r → p r ≡ false
      → list_all p (gather f from n) ≡ false
  unfolding gather
  gather_false from zero v r lo hi e q = absurd (omega (arith, lo, hi))
  gather_false from (suc n) v r lo hi e q = elim (cases_eq from v) [
    | inl s ↦ ap (λ o. list_all p (with_first o (gather f (from + 1) n))) (ap f s ∙ e)
        ∙ not_first (list_all p (gather f (from + 1) n)) q
    | inr ne ↦ go (f from) (gather_false (from + 1) n v r (omega (arith, lo, ne)) (omega (arith, hi)) e q)
  ]
    where
      go : (o : Option A) → list_all p (gather f (from + 1) n) ≡ false
          → list_all p (with_first o (gather f (from + 1) n)) ≡ false
      go None rest = rest
      go (Some s) rest = not_second (p s) rest

pub listed_true : {A : Type 0} (p : A → Bool) (f : ℕ → A) (from n : ℕ) → ((j : ℕ) → p (f j) ≡ true)
    → list_all p (values_from f from n) ≡ true
unfolding values_from
listed_true p f from zero h = refl
listed_true p f from (suc n) h = both (h from) (listed_true p f (from + 1) n h)

-- ---- rows

pub rows_are : (m : Memory) (f : ℕ) → (node_read m f).rows ≡ gather (row_read m (tables_in m f)) 0 (2 ^ 20)
unfolding node_read
rows_are m f = rows_gathered m (tables_in m f)

pub row_stands : (m : Memory) (ts : List Table) (v : ℕ) (r : Row) → row_read m ts v ≡ Some r → r.at ≡ v
unfolding row_read
row_stands m ts v r e = go (cell_read m ts Mmu v == 0) e
  where
    go : (b : Bool) → cond b None
        (Some (record { at = v; frame = cell_read m ts Mmu v / 4096; rights = cell_read m ts Mmu v / 4 % 8 })) ≡ Some r
        → r.at ≡ v
    go true q = cc
    go false q = at q
      where
        at : {s : Row} → Some s ≡ Some r → r.at ≡ s.at
        at z = cc

pub row_has_table : (m : Memory) (ts : List Table) (v : ℕ) (r : Row) → row_read m ts v ≡ Some r
    → has (map (λ (t : Table). t.index) ts) (dir v) ≡ true
unfolding row_read cell_read
row_has_table m ts v r e = has_index ts (dir v) ∙ go (table_at ts (dir v)) e
  where
    go : (o : Option Table) → row_of_word v (cell_in m Mmu v o) ≡ Some r → is_some (option_map triple_of o) ≡ true
    go None q = cc
    go (Some b) q = refl

-- ---- part 7 of one node

place_least : (o : Option ℕ) → ((i : ℕ) → o ≡ Some i → i < 1024) → unwrap_or o 0 < 1024
place_least None h = omega arith
place_least (Some i) h = h i refl

index_small : (m : Memory) (f c j : ℕ) → nat_lt (table_read m (base_read m f) (list_read m f c) j).index 1024 ≡ true
unfolding table_read
index_small m f c j =
    let d = word_at m f 3 in
    let w = word_at m (slot_page (base_read m f).list (list_read m f c) j) (slot_start j + 1) in
    below (place_least (place_of_table m d w) (λ i e. place_small m d w i e))
  where
    below : {i : ℕ} → i < 1024 → nat_lt i 1024 ≡ true
    below {i} h = grind (arith, nat_tests, h)

more_long : (m : Memory) (f k : ℕ) → length (more_read m f k) ≡ k
unfolding more_read
more_long m f zero = refl
more_long m f (suc k) = ap suc (more_long m (word_at m f 0) k)

tables_small : (m : Memory) (f : ℕ) → list_all (λ (t : Table). nat_lt t.index 1024) (node_read m f).tables ≡ true
unfolding node_read
tables_small m f = listed_true (λ (t : Table). nat_lt t.index 1024) (table_read m (base_read m f)
    (list_read m f (word_at m f 12))) 0 (word_at m f 12) (index_small m f (word_at m f 12))

lists_fit : (m : Memory) (f : ℕ) → (length (node_read m f).more == lists (length (node_read m f).tables) - 1) ≡ true
unfolding node_read
lists_fit m f =
    let c = word_at m f 12 in
    let long : length (tables_read m (base_read m f) (list_read m f c) c) ≡ c =
    listed_long (table_read m (base_read m f) (list_read m f c)) 0 c in
    eq-eqb (length (list_read m f c)) (lists (length (tables_read m (base_read m f) (list_read m f c) c))
    - 1) (more_long m (word_at m f 9) (lists c - 1) ∙ ap (λ n. lists n - 1) (sym long))

tables_hold : (m : Memory) (t : Tables) → IsOf m t → t.repeats ≡ false → IsRowAt m (tables_in m t.part) 0 None
    → has_tables (node_read m t.part) ≡ true
tables_hold m t of once none =
    let x = node_read m t.part in
    let f = row_read m (tables_in m t.part) in
    let rows = rows_are m t.part in
    both (ap (list_all (λ (r : Row). not (r.at == 0))) rows
    ∙ gather_true (λ (r : Row). not (r.at == 0)) f 0 (2 ^ 20) (λ v r lo hi e.
    ap not (ne_eqb r.at 0 (λ z. never (sym none ∙ ap f (sym z ∙ row_stands m (tables_in m t.part) v r e) ∙ e)))))
    (both (ap not (sym of.repeats ∙ once))
    (both (ap (list_all (λ (r : Row). has (indexes x) (dir r.at))) rows
    ∙ gather_true (λ (r : Row). has (indexes x) (dir r.at)) f 0 (2 ^ 20) (λ v r lo hi e. ap (λ k. has (indexes x)
    (dir k)) (row_stands m (tables_in m t.part) v r e) ∙ row_has_table m (tables_in m t.part) v r e))
    (both (tables_small m t.part) (lists_fit m t.part))))
  where
    never : {r : Row} → None ≡ Some r → ⊥
    never q = cc

tables_low : (m : Memory) (t : Tables) (r : FoundRow) → IsOf m t → IsRowAt m (tables_in m t.part) 0 (Some r)
    → has_tables (node_read m t.part) ≡ false
tables_low m t r of some =
    not_first _ (ap (list_all (λ (r : Row). not (r.at == 0))) (rows_are m t.part)
    ∙ gather_false (λ (r : Row). not (r.at == 0)) (row_read m (tables_in m t.part)) 0 (2 ^ 20) 0 _ (omega arith)
    (omega arith) some.2 (ap not (eq-eqb r.at 0 some.0)))

pub tables_told : (m : Memory) (t : Tables) (o : Option FoundRow) (z : Bool) → IsOf m t → t.repeats ≡ false
    → IsRowAt m (tables_in m t.part) 0 o → is_some o ≡ not z → z ≡ has_tables (node_read m t.part)
tables_told m t None true of once none e = sym (tables_hold m t of once none)
tables_told m t None false of once none e = cc
tables_told m t (Some r) true of once some e = cc
tables_told m t (Some r) false of once some e = sym (tables_low m t r of some)
