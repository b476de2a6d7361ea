-- Part 2 of soundness: the root is the one that a machine begins with.
use Rattle.std.proofs.Common.{◌≡◌, ◌≢◌, ◌⊎◌, ℕ, zero, suc, ◌+◌, ◌-◌, ◌*◌, ◌/◌, ◌%◌, ◌^◌, ◌<◌, ◌≤◌, ◌==◌, ◌&&◌, inl, inr}
use Rattle.std.proofs.Common.{List, [], ◌∷◌, map, length, refl, sym, ap, ap₂, ◌∙◌, subst, arith, Option, Some, None}
use Rattle.std.proofs.Common.{Bool, true, false, cond, eq-eqb, eqb-true, ne_eqb}
use Rattle.std.specs.Prelude.{nat_le, option_map}
use Rattle.std.proofs.lemmas.Bool.{cases_eq, cases_lt}
use Rattle.std.proofs.lemmas.Bool.Decides.{nat_tests}
use Rattle.pip_base.specs.declared.types.Pair.{Pair}
use Rattle.pip_base.specs.Memory.{Memory, word_at}
use Rattle.pip_model.specs.Boot.{boot_root, boot_table, first_user, own, rows_from, tables_from, tables_of_root}
use Rattle.pip_model.specs.Lists.{Rising}
use Rattle.pip_model.specs.Parts.{part_boot_root, same_all, same_base, same_pair, same_row, same_table}
use Rattle.pip_model.specs.ReadOff.{base_read, values_from, more_read, node_read, row_read, table_from, table_read}
use Rattle.pip_model.specs.Tree.{Row, Table, dir, lists, row_at, table_at}
use Rattle.pip_model.proofs.Audit.Over.{gather_at, gather_none, gather_rises}
use Rattle.pip_model.proofs.Frames.Same.{rows_equal}
use Rattle.pip_model.proofs.Trees.Boot.{boot-sound, frame-none}
use Rattle.pip_audit.specs.declared.auditor.Auditor.{Auditor}
use Rattle.pip_audit.specs.BootRows.{HasBootRow, boot_base, boot_row}
use Rattle.pip_audit.specs.Comparing.{tree_in}
use Rattle.pip_audit.specs.Judging.{Says}
use Rattle.pip_audit.specs.Links.{list_read, page_after}
use Rattle.pip_audit.specs.Reading.{IsRead, tree_read}
use Rattle.pip_audit.specs.Tables.{tables_in, triple_of}
use Rattle.pip_audit.proofs.EachNode.{both, name_is, up_is}
use Rattle.pip_audit.proofs.Loads.{slot_table}
use Rattle.pip_audit.proofs.PartLaws.{row_stands, rows_are}
use Rattle.pip_audit.proofs.Rows.{no_row}
use Rattle.pip_audit.proofs.TreeIn.{read_in}

first : (a b : Bool) → (a && b) ≡ true → a ≡ true
first true b e = refl
first false b e = cc

second : (a : Bool) {b : Bool} → (a && b) ≡ true → b ≡ true
second true e = e
second false e = cc

untrue : (b : Bool) → (b ≡ true → ⊥) → b ≡ false
untrue true h = absurd (h refl)
untrue false h = refl

-- ---- the base

pub same_own : (p : Pair) (g : ℕ) → same_pair p (own g) ≡ true → (p.va ≡ 0) × (p.frame ≡ g)
same_own p g e = (eqb-true p.va 0 (first (p.va == 0) _ e), eqb-true p.frame g (second (p.va == 0) e))

pub record IsBase (m : Memory) : Type 0 where
  pub born : word_at m 1 0 ≡ 0
  pub directory : word_at m 1 3 ≡ 2
  pub list : word_at m 1 9 ≡ 5

pub base_words : (m : Memory) → same_base (base_read m 1) boot_base ≡ true → IsBase m
base_words m e =
    let b = base_read m 1 in
    let e1 = second (same_pair b.descriptor (own 1)) e in
    let e2 = second (same_pair b.mmu (own 2)) e1 in
    let e3 = second (same_pair b.shadow1 (own 3)) e2 in
    let e4 = second (same_pair b.shadow2 (own 4)) e3 in
    record {
      born = (same_own b.descriptor 1 (first (same_pair b.descriptor (own 1)) _ e)).0;
      directory = (same_own b.mmu 2 (first (same_pair b.mmu (own 2)) _ e1)).1;
      list = (same_own b.list 5 e4).1;
    }

-- ---- a slot

module _ (m : Memory) (index g i : ℕ) where
  slot : Table
  slot = table_from m 2 5 i

-- ---- the tables, slot by slot

abbrev pub tables_here : (ℕ → Table) → ℕ → ℕ → Bool
tables_here f count k = same_all same_table (values_from f k (count + 1 - k))
    (tables_from (count - k) (1 + k) (6 + 3 * k))

module _ (f : ℕ → Table) (count : ℕ) where
  here_next : (k : ℕ) → k < count
      → tables_here f count k ≡ (same_table (f k) (boot_table (1 + k) (6 + 3 * k)) && tables_here f count (k + 1))
  unfolding values_from
  here_next k h =
      let a : count + 1 - k ≡ suc (count + 1 - (k + 1)) = omega (arith, h) in
      let b : count - k ≡ suc (count - (k + 1)) = omega (arith, h) in
      let i : 1 + k + 1 ≡ 1 + (k + 1) = omega arith in
      let g : 6 + 3 * k + 3 ≡ 6 + 3 * (k + 1) = omega arith in
      ap₂ (λ x y. same_all same_table (values_from f k x) (tables_from y (1 + k) (6 + 3 * k))) a b
      ∙ ap₂ (λ x y. same_table (f k) (boot_table (1 + k) (6 + 3 * k))
      && same_all same_table (values_from f (k + 1) (count + 1 - (k + 1))) (tables_from (count - (k + 1)) x y)) i g

  pub here_more : (k : ℕ) → k < count → same_table (f k) (boot_table (1 + k) (6 + 3 * k)) ≡ true
      → tables_here f count k ≡ tables_here f count (k + 1)
  here_more k h e = here_next k h ∙ ap (λ b. b && tables_here f count (k + 1)) e

  pub here_less : (k : ℕ) → k < count → same_table (f k) (boot_table (1 + k) (6 + 3 * k)) ≡ false
      → tables_here f count k ≡ false
  here_less k h e = here_next k h ∙ ap (λ b. b && tables_here f count (k + 1)) e

  pub here_last : tables_here f count count ≡ same_table (f count) (boot_table 1023 (6 + 3 * count))
  unfolding values_from
  here_last =
      let a : count + 1 - count ≡ 1 = omega arith in
      let b : count - count ≡ 0 = omega arith in
      ap₂ (λ x y. same_all same_table (values_from f count x) (tables_from y (1 + count) (6 + 3 * count))) a b
      ∙ with_true (same_table (f count) (boot_table 1023 (6 + 3 * count)))
    where
      with_true : (b : Bool) → (b && true) ≡ b
      with_true true = refl
      with_true false = refl

-- the root's tables, where it has that many
abbrev pub root_table : Memory → ℕ → ℕ → Table
root_table m c j = table_read m (base_read m 1) (list_read m 1 c) j

pub tables_all : (m : Memory) (count : ℕ) → word_at m 1 12 ≡ count + 1 → count ≡ tables_of_root (length m)
    → same_all same_table (tables_in m 1) (boot_root (length m)).tables ≡ tables_here (root_table m (count + 1)) count 0
unfolding node_read
tables_all m count c e =
    let w : count + 1 - 0 ≡ count + 1 = omega arith in
    let z : count - 0 ≡ count = omega arith in
    ap₂ (λ x y. same_all same_table (values_from (root_table m x) 0 x) (tables_from y 1 6)) c (sym e)
    ∙ ap₂ (λ x y. same_all same_table (values_from (root_table m (count + 1)) 0 x) (tables_from y 1 6)) (sym w) (sym z)

tables_long : (n i g : ℕ) → length (tables_from n i g) ≡ n + 1
tables_long zero i g = refl
tables_long (suc n) i g = let e : suc (n + 1) ≡ suc n + 1 = omega arith in ap suc (tables_long n (i + 1) (g + 3)) ∙ e

listed_many : (f : ℕ → Table) (k n : ℕ) → length (values_from f k n) ≡ n
unfolding values_from
listed_many f k zero = refl
listed_many f k (suc n) = ap suc (listed_many f (k + 1) n)

same_length : (xs ys : List Table) → same_all same_table xs ys ≡ true → length xs ≡ length ys
same_length [] [] e = refl
same_length [] (y ∷ ys) e = cc
same_length (x ∷ xs) [] e = cc
same_length (x ∷ xs) (y ∷ ys) e = ap suc (same_length xs ys (second (same_table x y) e))

pub tables_few : (m : Memory) (count : ℕ) → count ≡ tables_of_root (length m)
    → same_all same_table (tables_in m 1) (boot_root (length m)).tables ≡ true → word_at m 1 12 ≡ count + 1
unfolding node_read
tables_few m count e same =
    let c = word_at m 1 12 in
    sym (listed_many (root_table m c) 0 c) ∙ same_length (values_from (root_table m c) 0 c)
    (boot_root (length m)).tables
    same ∙ tables_long (tables_of_root (length m)) 1 6 ∙ ap (λ x. x + 1) (sym e)

pub tables_other : (m : Memory) (count : ℕ) → count ≡ tables_of_root (length m) → word_at m 1 12 ≢ count + 1
    → same_all same_table (tables_in m 1) (boot_root (length m)).tables ≡ false
tables_other m count e ne =
    untrue (same_all same_table (tables_in m 1) (boot_root (length m)).tables) (λ same. ne (tables_few m count e same))

after_none : (m : Memory) (f : ℕ) → page_after m f 0 ≡ f
unfolding page_after
after_none m f = refl

pub table_here : (m : Memory) (count k : ℕ) → IsBase m → k ≤ count → count ≤ 4
    → table_from m 2 5 (2 + 6 * k) ≡ root_table m (count + 1) k
table_here m count k b h few =
    let z : k / 170 ≡ 0 = omega (arith, h, few) in
    let i : k % 170 ≡ k = omega (arith, h, few) in
    ap (λ j. table_from m 2 5 (2 + 6 * j)) (sym i)
    ∙ slot_table m 1 (count + 1) k 2 5 (omega (arith, h)) (sym b.directory)
    (sym (ap (λ q. page_after m (word_at m 1 9) q) z ∙ after_none m (word_at m 1 9) ∙ b.list))

same_tables : (xs ys : List Table) → same_all same_table xs ys ≡ true → xs ≡ ys
same_tables [] [] e = refl
same_tables [] (y ∷ ys) e = cc
same_tables (x ∷ xs) [] e = cc
same_tables (x ∷ xs) (y ∷ ys) e =
    let h = first (same_table x y) _ e in
    let h1 = second (x.index == y.index) h in
    let h2 = second (same_pair x.mmu y.mmu) h1 in
    let i = eqb-true x.index y.index (first (x.index == y.index) _ h) in
    let a = same_pairs x.mmu y.mmu (first (same_pair x.mmu y.mmu) _ h1) in
    let b = same_pairs x.shadow1 y.shadow1 (first (same_pair x.shadow1 y.shadow1) _ h2) in
    let c = same_pairs x.shadow2 y.shadow2 (second (same_pair x.shadow1 y.shadow1) h2) in
    ap₂ (λ t ts. t ∷ ts) (λ j. record { index = i j; mmu = a j; shadow1 = b j; shadow2 = c j })
    (same_tables xs ys (second (same_table x y) e))
  where
    same_pairs : (p q : Pair) → same_pair p q ≡ true → p ≡ q
    same_pairs p q e =
        let v = eqb-true p.va q.va (first (p.va == q.va) _ e) in
        let f = eqb-true p.frame q.frame (second (p.va == q.va) e) in
        λ j. record { va = v j; frame = f j }

pub tables_equal : (m : Memory) → same_all same_table (tables_in m 1) (boot_root (length m)).tables ≡ true
    → tables_in m 1 ≡ (boot_root (length m)).tables
tables_equal m e = same_tables (tables_in m 1) (boot_root (length m)).tables e

-- ---- the rows

abbrev full : ℕ → Option Row → Option Row
full u o = option_map (λ f. record { at = u; frame = f; rights = 7 }) (option_map (λ (r : Row). r.frame) o)

full_here : (at g u : ℕ) (o : Option Row) (b : Bool) → (at == u) ≡ b → full u o ≡ o → full u (cond b
    (Some (record { at = at; frame = g; rights = 7 })) o) ≡ cond b (Some (record { at = at; frame = g; rights = 7 })) o
full_here at g u o true e h = let q = eqb-true at u e in ap Some (λ i. record { at = sym q i; frame = g; rights = 7 })
full_here at g u o false e h = h

full_rows : (k v g u : ℕ) → full u (row_at (rows_from k v g) u) ≡ row_at (rows_from k v g) u
full_rows zero v g u = full_here 0xfffff g u None (0xfffff == u) refl refl
full_rows (suc k) v g u =
    full_here v g u (row_at (rows_from k (v + 1) (g + 1)) u) (v == u) refl (full_rows k (v + 1) (g + 1) u)

pub boot_row_is : (n v : ℕ) → boot_row n v ≡ row_at (boot_root n).rows v
boot_row_is n v = full_rows (n - first_user n - 1) 1024 (first_user n) v

no_boot_row : (n v : ℕ) → v ≢ 0xfffff → (v < 1024) ⊎ (1024 + (n - first_user n - 1) ≤ v) → boot_row n v ≡ None
no_boot_row n v ne out = ap (option_map (λ f. record { at = v; frame = f; rights = 7 }))
    (frame-none (n - first_user n - 1) 1024 (first_user n) v ne out)

-- a directory index that has none of the boot's tables
no_table : (n i g d : ℕ) → d ≢ 1023 → (d < i) ⊎ (i + n ≤ d) → table_at (tables_from n i g) d ≡ None
no_table zero i g d ne out = ap (λ b. cond b (Some (boot_table 1023 g)) None) (ne_eqb 1023 d (λ q. ne (sym q)))
no_table (suc n) i g d ne out =
    let far : i ≢ d = λ q. elim out [ inl a ↦ absurd (omega (arith, a, q)) | inr b ↦ absurd (omega (arith, b, q)) ] in
    ap (λ b. cond b (Some (boot_table i g)) (table_at (tables_from n (i + 1) (g + 3)) d)) (ne_eqb i d far)
    ∙ no_table n (i + 1) (g + 3) d ne (elim out [ inl a ↦ inl (omega (arith, a)) | inr b ↦ inr (omega (arith, b)) ])

-- there the root has no row, and neither has the boot's
pub outside : (m : Memory) (ts : List Table) (count v : ℕ) → count ≡ tables_of_root (length m)
    → length m - 6 - 3 * (count + 1) - 1 ≤ 1024 * count → ts ≡ (boot_root (length m)).tables
    → v / 1024 ≢ 1023 → (v / 1024 < 1) ⊎ (1 + count ≤ v / 1024) → HasBootRow m ts v
outside m ts count v e room same ne out =
    no_row m ts v (ap (λ us. option_map triple_of (table_at us (dir v))) same ∙ ap (option_map triple_of) (no_table
    (tables_of_root (length m)) 1 6 (dir v) ne (elim out [ inl a ↦ inl a | inr b ↦ inr (omega (arith, b, e)) ])))
    ∙ sym (no_boot_row (length m) v (λ q.
    ne (omega (arith, q))) (elim out [ inl a ↦ inl (omega (arith, a)) | inr b ↦ inr (omega (arith, b, e, room)) ]))

-- table by table, the last one's rows decide
pub all_boot_rows : (m : Memory) (ts : List Table) (count : ℕ) (z : Bool) → count ≡ tables_of_root (length m)
    → length m - 6 - 3 * (count + 1) - 1 ≤ 1024 * count → count ≤ 4 → ts ≡ (boot_root (length m)).tables
    → ((k i : ℕ) → k < count → i < 1024 → HasBootRow m ts (1024 * (1 + k) + i))
    → Says z ((i : ℕ) → i < 1024 → HasBootRow m ts (1024 * 1023 + i))
    → Says z ((v : ℕ) → v < 2 ^ 20 → HasBootRow m ts v)
all_boot_rows m ts count false e room few same before last =
    λ all. last (λ i hi. all (1024 * 1023 + i) (omega (arith, hi)))
all_boot_rows m ts count true e room few same before last = λ v small.
    elim (cases_eq (v / 1024) 1023) [
      | inl q ↦ at v 1023 q (last (v % 1024) (omega arith))
      | inr ne ↦ elim (cases_lt (v / 1024) 1) [
        | inl low ↦ outside m ts count v e room same ne (inl low)
        | inr some ↦ elim (cases_lt (v / 1024) (1 + count)) [
          | inl within ↦ at v (1 + (v / 1024 - 1)) (omega (
            arith,
            some,
          )) (before (v / 1024 - 1) (v % 1024) (omega (arith, some, within)) (omega arith))
          | inr far ↦ outside m ts count v e room same ne (inr (omega (arith, far)))
        ]
      ]
    ]
  where
    at : (v d : ℕ) → v / 1024 ≡ d → HasBootRow m ts (1024 * d + v % 1024) → HasBootRow m ts v
    at v d q h = let u : 1024 * d + v % 1024 ≡ v = omega (arith, q) in subst (HasBootRow m ts) u h

same_row_lists : (xs ys : List Row) → same_all same_row xs ys ≡ true → xs ≡ ys
same_row_lists [] [] e = refl
same_row_lists [] (y ∷ ys) e = cc
same_row_lists (x ∷ xs) [] e = cc
same_row_lists (x ∷ xs) (y ∷ ys) e =
    let h = first (same_row x y) _ e in
    let h1 = second (x.at == y.at) h in
    let a = eqb-true x.at y.at (first (x.at == y.at) _ h) in
    let f = eqb-true x.frame y.frame (first (x.frame == y.frame) _ h1) in
    let r = eqb-true x.rights y.rights (second (x.frame == y.frame) h1) in
    ap₂ (λ t ts. t ∷ ts) (λ j. record { at = a j; frame = f j; rights = r j })
    (same_row_lists xs ys (second (same_row x y) e))

row_lists_same : (xs : List Row) → same_all same_row xs xs ≡ true
row_lists_same [] = refl
row_lists_same (x ∷ xs) = both (both (eq-eqb x.at x.at refl)
    (both (eq-eqb x.frame x.frame refl) (eq-eqb x.rights x.rights refl))) (row_lists_same xs)

module _ (m : Memory) (least : 16 ≤ length m) (most : length m ≤ 4096) where
  rows_found : (v : ℕ) → v < 2 ^ 20 → row_at (node_read m 1).rows v ≡ row_read m (tables_in m 1) v
  rows_found v small = ap (λ rs. row_at rs v) (rows_are m 1) ∙ gather_at (row_read m (tables_in m 1))
      (row_stands m (tables_in m 1)) 0 (2 ^ 20) v (omega arith) (omega (arith, small))

  rows_hold : ((v : ℕ) → v < 2 ^ 20 → HasBootRow m (tables_in m 1) v)
      → (node_read m 1).rows ≡ (boot_root (length m)).rows
  rows_hold h =
      rows_equal 0 (node_read m 1).rows (boot_root (length m)).rows
      (subst (λ rs. Rising 0 (map (λ (r : Row). r.at) rs)) (sym (rows_are m 1))
      (gather_rises (row_read m (tables_in m 1)) (row_stands m (tables_in m 1)) 0 (2 ^ 20)))
      ((boot-sound (length m) least most).pages_apart (boot_root (length m)) (inl refl)).places
      (λ v. elim (cases_lt v (2 ^ 20)) [
        | inl small ↦ rows_found v small ∙ h v small ∙ boot_row_is (length m) v
        | inr far ↦
            ap (λ rs. row_at rs v) (rows_are m 1)
            ∙ gather_none (row_read m (tables_in m 1)) (row_stands m (tables_in m 1)) 0 (2 ^ 20) v
            (inr (omega (arith, far)))
            ∙ sym (no_boot_row (length m) v (λ q. absurd (omega (arith, q, far))) (inr (omega (arith, most, far))))
            ∙ boot_row_is (length m) v
      ])

  rows_back : (node_read m 1).rows ≡ (boot_root (length m)).rows → (v : ℕ) → v < 2 ^ 20 → HasBootRow m (tables_in m 1) v
  rows_back e v small = sym (rows_found v small) ∙ ap (λ rs. row_at rs v) e ∙ sym (boot_row_is (length m) v)

-- ---- part 2

born_is : (m : Memory) (f : ℕ) → (node_read m f).born ≡ word_at m f 0
unfolding node_read
born_is m f = refl

base_is : (m : Memory) (f : ℕ) → (node_read m f).base ≡ base_read m f
unfolding node_read
base_is m f = refl

more_none : (m : Memory) (count : ℕ) → word_at m 1 12 ≡ count + 1 → count ≤ 4
    → same_all same_pair (node_read m 1).more [] ≡ true
unfolding node_read more_read
more_none m count c few =
    let z : lists (word_at m 1 12) - 1 ≡ 0 = omega (arith, c, few) in
    ap (λ k. same_all same_pair (more_read m (word_at m 1 9) k) []) z

at_most : {a b : ℕ} → a ≤ b → nat_le a b ≡ true
at_most {a} {b} h = grind (arith, nat_tests, h)

pub record IsBoot (m : Memory) : Type 0 where
  pub up : word_at m 1 11 ≡ 1
  pub base : same_base (base_read m 1) boot_base ≡ true
  pub tables : same_all same_table (tables_in m 1) (boot_root (length m)).tables ≡ true
  pub rows : (v : ℕ) → v < 2 ^ 20 → HasBootRow m (tables_in m 1) v

module _ (m : Memory) (a : Auditor) (least : 16 ≤ length m) (most : length m ≤ 4096) where
  pub part_boot_root_holds : IsBoot m → (r : IsRead m a) → true ≡ part_boot_root (tree_read m r.others)
  unfolding part_boot_root
  part_boot_root_holds b = λ r.
      let x = node_read m 1 in
      let y = boot_root (length m) in
      let few : tables_of_root (length m) ≤ 4 = omega (arith, most) in
      sym (both (at_most least) (both (at_most most)
      (both (eq-eqb x.name 1 (name_is m 1))
      (both (eq-eqb x.up 1 (up_is m 1 ∙ b.up))
      (both (eq-eqb x.born 0 (born_is m 1 ∙ (base_words m b.base).born))
      (both (ap (λ z. same_base z boot_base) (base_is m 1) ∙ b.base)
      (both b.tables
      (both (more_none m (tables_of_root (length m)) (tables_few m (tables_of_root (length m)) refl b.tables) few)
      (ap (λ rs. same_all same_row rs y.rows) (rows_hold m least most b.rows) ∙ row_lists_same y.rows)))))))))

  pub part_boot_root_parts : (r : IsRead m a) → part_boot_root (tree_read m r.others) ≡ true → IsBoot m
  unfolding part_boot_root
  part_boot_root_parts r e =
      let x = node_read m 1 in
      let y = boot_root (length m) in
      let e1 = second (nat_le 16 (length m)) e in
      let e2 = second (nat_le (length m) 4096) e1 in
      let e3 = second (x.name == 1) e2 in
      let e4 = second (x.up == 1) e3 in
      let e5 = second (x.born == 0) e4 in
      let e6 = second (same_base x.base boot_base) e5 in
      let e7 = second (same_all same_table x.tables y.tables) e6 in
      let e8 = second (same_all same_pair x.more []) e7 in
      record {
        up = sym (up_is m 1) ∙ eqb-true x.up 1 (first (x.up == 1) _ e3);
        base = ap (λ z. same_base z boot_base) (sym (base_is m 1)) ∙ first (same_base x.base boot_base) _ e5;
        tables = first (same_all same_table x.tables y.tables) _ e6;
        rows = rows_back m least most (same_row_lists x.rows y.rows e8);
      }

  pub part_boot_root_breaks : IsRead m a → (IsBoot m → ⊥) → false ≡ part_boot_root (tree_in m)
  part_boot_root_breaks r broken =
      sym (untrue (part_boot_root (tree_read m r.others)) (λ e. broken (part_boot_root_parts r e)))
      ∙ ap part_boot_root (sym (read_in m a r))

  -- the rows decide where all else is the boot's
  pub part_boot_root_says : IsRead m a → (z : Bool) → word_at m 1 11 ≡ 1 → same_base (base_read m 1) boot_base ≡ true
      → same_all same_table (tables_in m 1) (boot_root (length m)).tables ≡ true
      → Says z ((v : ℕ) → v < 2 ^ 20 → HasBootRow m (tables_in m 1) v) → z ≡ part_boot_root (tree_in m)
  part_boot_root_says r true up base tables rows =
      part_boot_root_holds (record { up = up; base = base; tables = tables; rows = rows }) r
      ∙ ap part_boot_root (sym (read_in m a r))
  part_boot_root_says r false up base tables rows = part_boot_root_breaks r (λ b. rows b.rows)
