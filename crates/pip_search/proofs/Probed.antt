-- Names that are looked for in cells.
use Rattle.std.proofs.Common.{◌≡◌, ◌≢◌, ℕ, ◌+◌, ◌<◌, ◌≤◌, inl, inr, List, length, Some, slice_get, ap, sym, subst}
use Rattle.std.proofs.Common.{◌∙◌, arith, get_or}
use Rattle.std.proofs.lemmas.Bool.{cases_eq, cases_lt}
use Rattle.pip_search.specs.Cells.{IsPlaced, IsOnTheWay, home, tag}
use Rattle.pip_search.specs.Naming.{AreNamed, AreUnlike, IsAbsent, hash_of}
use Rattle.pip_search.specs.declared.hash_table.HashTable.{HashTable}
use Rattle.pip_search.proofs.Places.{get-below}

module _ (names : List (List ℕ)) (x : HashTable) (name : List ℕ) (hash from own size : ℕ) (n : AreNamed names x)
    (is : hash ≡ hash_of x.seed name) (counted : size ≡ length x.cells.items) (begins : from ≡ home hash size)
    (tagged : own ≡ tag hash size) where
  abbrev cells : List ℕ
  cells = x.cells.items

  -- the cell of a name that is there
  placed_at : (j : ℕ) → slice_get names j ≡ Some name → IsPlaced cells size hash j
  placed_at j e =
      let low = get-below names j name e in
      let count = n.count in
      rw counted (subst (λ k. IsPlaced cells (length cells) k j) (n.hashed j name e ∙ sym is)
      (n.filled.have.placed j (omega arith)))

  -- what it has
  cell_at : (j : ℕ) (p : IsPlaced cells size hash j) → get_or cells p.cell 0 ≡ own + j + 1
  cell_at j p = rw (p.there, ← tagged)

  passed : (j c : ℕ) (p : IsPlaced cells size hash j) → c < size → IsOnTheWay from p.cell c → get_or cells c 0 ≢ 0
  passed j c p low way = p.full c low (rw (← begins) way)

  -- an empty cell was met at or after the home
  pub absent_late : (c : ℕ) → from ≤ c → c < size → get_or cells c 0 ≡ 0
      → AreUnlike names name own cells from c → IsAbsent names name
  absent_late c late low empty u j e =
      let p = placed_at j e in
      let there = cell_at j p in
      elim (cases_lt p.cell from) [
        | inl before ↦ passed j c p low (inr ((before, inl late))) empty
        | inr most ↦ elim (cases_lt p.cell c) [
          | inl less ↦ u.unlike p.cell (omega arith) less j there e
          | inr far ↦ elim (cases_eq p.cell c) [
            | inl same ↦ absurd (omega (arith, ap (λ k. get_or cells k 0) same))
            | inr other ↦ passed j c p low (inl ((late, omega arith))) empty
          ]
        ]
      ]

  -- or before it
  pub absent_early : (c : ℕ) → c < from → from ≤ size → get_or cells c 0 ≡ 0
      → AreUnlike names name own cells from size → AreUnlike names name own cells 0 c → IsAbsent names name
  absent_early c early low empty u v j e =
      let p = placed_at j e in
      let there = cell_at j p in
      let below = p.low in
      elim (cases_lt p.cell from) [
        | inr most ↦ u.unlike p.cell (omega arith) below j there e
        | inl before ↦ elim (cases_lt p.cell c) [
          | inl less ↦ v.unlike p.cell (omega arith) less j there e
          | inr far ↦ elim (cases_eq p.cell c) [
            | inl same ↦ absurd (omega (arith, ap (λ k. get_or cells k 0) same))
            | inr other ↦ passed j c p (omega arith) (inr ((before, inr (omega arith)))) empty
          ]
        ]
      ]

  -- or nowhere
  pub absent_everywhere : AreUnlike names name own cells from size → AreUnlike names name own cells 0 from
      → IsAbsent names name
  absent_everywhere u v j e =
      let p = placed_at j e in
      let there = cell_at j p in
      let below = p.low in
      elim (cases_lt p.cell from) [
        | inl before ↦ v.unlike p.cell (omega arith) before j there e
        | inr most ↦ u.unlike p.cell (omega arith) below j there e
      ]
