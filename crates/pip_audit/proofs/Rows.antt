-- The row at a vpage, by what is held of its directory index.
use Rattle.std.proofs.Common.{◌≡◌, ◌≢◌, ℕ, ◌/◌, ◌%◌, ◌<◌, ◌≤◌, ◌&&◌, List, length, refl, sym, ap, ◌∙◌, subst, arith}
use Rattle.std.proofs.Common.{Option, Some, None, Bool, true, false, cond, inl, inr, ne_eqb}
use Rattle.std.specs.Prelude.{nat_le, nat_lt, option_map}
use Rattle.std.proofs.lemmas.Bool.Decides.{nat_tests}
use Rattle.std.proofs.lemmas.Bool.{cases_lt}
use Rattle.pip_base.specs.Memory.{Memory, word_at}
use Rattle.pip_model.specs.declared.level.Level.TheVariants.{Mmu}
use Rattle.pip_model.specs.ReadOff.{cell_in, cell_read, is_leaf, leaf_is_read, leaf_stop, row_of_word, row_read}
use Rattle.pip_model.specs.ReadOff.{stop_unless}
use Rattle.pip_model.specs.Tree.{Table, dir, table_at}
use Rattle.pip_audit.specs.declared.tables.FoundRow.{FoundRow}
use Rattle.pip_audit.specs.declared.tables.Triple.{Triple}
use Rattle.pip_audit.specs.declared.tables.SoughtRows.{SoughtRows}
use Rattle.pip_audit.specs.Tables.{IsFirstSought, IsSoughtAt, row_seen, row_sought, triple_of}

abbrev mmu_of : Option Triple → ℕ
mmu_of None = 0
mmu_of (Some b) = b.mmu

-- without tables there is no row
pub no_row : (m : Memory) (ts : List Table) (v : ℕ) → option_map triple_of (table_at ts (dir v)) ≡ None
    → row_read m ts v ≡ None
unfolding row_read cell_read
no_row m ts v e = go (table_at ts (dir v)) refl e
  where
    go : (o : Option Table) → table_at ts (dir v) ≡ o → option_map triple_of o ≡ None
        → row_of_word v (cell_in m Mmu v (table_at ts (dir v))) ≡ None
    go None q e = ap (λ o. row_of_word v (cell_in m Mmu v o)) q
    go (Some b) q e = cc

-- with them a word of the MMU table tells it
pub row_by_word : (m : Memory) (ts : List Table) (v : ℕ) (b : Triple)
    → option_map triple_of (table_at ts (dir v)) ≡ Some b → row_read m ts v ≡ row_of_word v (word_at m b.mmu (v % 1024))
unfolding row_read cell_read
row_by_word m ts v b e = go (table_at ts (dir v)) refl e
  where
    go : (o : Option Table) → table_at ts (dir v) ≡ o → option_map triple_of o ≡ Some b
        → row_of_word v (cell_in m Mmu v (table_at ts (dir v))) ≡ row_of_word v (word_at m b.mmu (v % 1024))
    go None q e = cc
    go (Some t) q e =
        ap (λ o. row_of_word v (cell_in m Mmu v o)) q ∙ ap (λ z. row_of_word v (word_at m (mmu_of z) (v % 1024))) e

pub no_word : (v w : ℕ) → w ≡ 0 → row_of_word v w ≡ None
no_word v w e = ap (row_of_word v) e

pub a_word : (v w : ℕ) → w ≢ 0 → row_of_word v w ≡ Some (record { at = v; frame = w / 4096; rights = w / 4 % 8 })
a_word v w ne = ap (λ b. cond b None (Some (record { at = v; frame = w / 4096; rights = w / 4 % 8 }))) (ne_eqb w 0 ne)

second : (a b : Bool) → (a && b) ≡ true → b ≡ true
second true b e = e
second false b e = cc

-- the page of a row is a frame where reading doesn't stop at its word
pub row_inside : (m : Memory) (f i : ℕ) → leaf_stop m f i ≡ None → word_at m f i ≢ 0 → word_at m f i / 4096 < length m
unfolding leaf_stop
row_inside m f i e ne = go (leaf_is_read (length m) (word_at m f i)) refl e
  where
    go : (b : Bool) → leaf_is_read (length m) (word_at m f i) ≡ b → stop_unless b f i ≡ None
        → word_at m f i / 4096 < length m
    go true q e =
        let w = word_at m f i in
        let r = sym (ap (λ b. cond b (nat_le 0 0) (is_leaf w && nat_lt (w / 4096) (length m))) (ne_eqb w 0 ne)) ∙ q in
        let k = second (is_leaf w) (nat_lt (w / 4096) (length m)) r in
        grind (arith, nat_tests, k)
    go false q e = cc

-- the first row that is sought, by the row at one vpage
pub first_is : (s : SoughtRows) (m : Memory) (ts : List Table) (from end v : ℕ) (r : FoundRow)
    → IsSoughtAt s m ts v (Some r)
    → from ≤ v → v < end → ((u : ℕ) → from ≤ u → u < v → row_sought s m ts u ≡ None)
    → IsFirstSought s m ts from end (Some r)
first_is s m ts from end v r k lo hi below =
    let at = k.0 in (
      omega (arith, at, lo),
      omega (arith, at, hi),
      k.1,
      subst (λ u. row_sought s m ts u ≡ Some (row_seen r)) (sym at) k.2,
      λ u l h. below u l (omega (arith, h, at)),
    )

-- and by the first row of a table, where there is none before it
pub first_later : (s : SoughtRows) (m : Memory) (ts : List Table) (from v end last : ℕ) (r : FoundRow)
    → IsFirstSought s m ts v end (Some r) → from ≤ v → end ≤ last
    → ((u : ℕ) → from ≤ u → u < v → row_sought s m ts u ≡ None) → IsFirstSought s m ts from last (Some r)
first_later s m ts from v end last r k lo hi below =
    let a = k.0 in let b = k.1 in (
      omega (arith, a, lo),
      omega (arith, b, hi),
      k.2,
      k.3,
      λ u l h. elim (cases_lt u v) [
        | inl before ↦ below u l before
        | inr here ↦ k.4 u (omega (arith, here)) h
      ],
    )
