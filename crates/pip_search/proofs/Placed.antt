-- Hashes in cells, one more at a time.
use Rattle.std.proofs.Common.{◌≡◌, ◌≢◌, ℕ, zero, suc, ◌+◌, ◌*◌, ◌/◌, ◌%◌, ◌-◌, ◌^◌, ◌<◌, ◌≤◌, inl, inr, List, [], ◌∷◌}
use Rattle.std.proofs.Common.{length, refl, ap, sym, subst, ◌∙◌, arith, get_or, set, get_or-set_same}
use Rattle.std.proofs.Common.{get_or-set_other}
use Rattle.std.proofs.Math.ListN.{length-set, replicate}
use Rattle.std.proofs.Math.Nat.{mul-mod_left}
use Rattle.std.proofs.lemmas.Bool.{cases_eq, cases_lt}
use Rattle.std.proofs.lemmas.Nat.{mod-pow-add, mod_below, pow-add, pow_pos, row_fits}
use Rattle.pip_search.specs.Cells.{HaveCells, HasHashes, IsPlaced, IsSized, IsOnTheWay, cells_used, home, tag}
use Rattle.pip_search.specs.declared.hash_table.HashTable.{HashTable}

-- ---- homes and tags

-- a product with a power of two leaves as much room as that power
tag_fits : (hash j k : ℕ) → hash * 2 ^ k % 2 ^ (j + k) + 2 ^ k ≤ 2 ^ (j + k)
tag_fits hash j k =
    let high : ℕ = hash * 2 ^ k / 2 ^ k % 2 ^ j in
    let rest : hash * 2 ^ k % 2 ^ k ≡ 0 = mul-mod_left hash (2 ^ k) in
    let whole = mod-pow-add (hash * 2 ^ k) j k in
    let low = mod_below (hash * 2 ^ k / 2 ^ k) (2 ^ j) (pow_pos j) in
    omega (arith, row_fits high (2 ^ k) (2 ^ j) (2 ^ k) low (omega arith), pow-add 2 j k)

pub tag_low : (cells : List ℕ) (hash : ℕ) → IsSized cells → tag hash (length cells) + length cells ≤ 2 ^ 32
tag_low cells hash s =
    let few = s.few in
    let whole : 32 ≡ 32 - s.power + s.power = omega arith in
    rw s.count (subst (λ w. hash * 2 ^ s.power % 2 ^ w + 2 ^ s.power ≤ 2 ^ w) (sym whole)
    (tag_fits hash (32 - s.power) s.power))

-- ---- how many cells are used

pub used_set : (cells : List ℕ) (c v : ℕ) → cells_used (set cells c v) ≤ cells_used cells + 1
unfolding cells_used
used_set [] c v = omega arith
used_set (zero ∷ cells) zero zero = omega arith
used_set (zero ∷ cells) zero (suc v) = omega arith
used_set (suc k ∷ cells) zero zero = omega arith
used_set (suc k ∷ cells) zero (suc v) = omega arith
used_set (zero ∷ cells) (suc c) v = used_set cells c v
used_set (suc k ∷ cells) (suc c) v = omega (arith, used_set cells c v)

pub used_full : (cells : List ℕ) → ((c : ℕ) → c < length cells → get_or cells c 0 ≢ 0) → cells_used cells ≡ length cells
unfolding cells_used
used_full [] full = refl
used_full (zero ∷ cells) full = absurd (full 0 (omega arith) refl)
used_full (suc k ∷ cells) full = omega (arith, used_full cells (λ c low. full (suc c) (omega arith)))

pub none_used : (n : ℕ) → cells_used (replicate n 0) ≡ 0
unfolding cells_used
none_used zero = refl
none_used (suc n) = none_used n

-- ---- one more is placed

module _ (cells : List ℕ) (c v : ℕ) (low : c < length cells) (empty : get_or cells c 0 ≡ 0) (some : v ≢ 0) where
  filled : (x : ℕ) → get_or cells x 0 ≢ 0 → get_or (set cells c v) x 0 ≢ 0
  filled x full = elim (cases_eq x c) [
    | inl e ↦ λ z. some (cc (get_or-set_same cells c v 0 low))
    | inr e ↦ λ z. full (rw (← get_or-set_other cells c x v 0 e) z)
  ]

  pub place_kept : (n hash j : ℕ) → IsPlaced cells n hash j → IsPlaced (set cells c v) n hash j
  place_kept n hash j p = record {
    cell = p.cell;
    low = p.low;
    there = elim (cases_eq p.cell c) [
      | inl e ↦ absurd (omega (arith, ap (λ y. get_or cells y 0) e))
      | inr e ↦ get_or-set_other cells c p.cell v 0 e ∙ p.there
    ];
    full = λ x below passes. filled x (p.full x below passes);
  }

  pub place_new : (n hash j : ℕ) → n ≡ length cells → v ≡ tag hash n + j + 1
      → ((x : ℕ) → x < n → IsOnTheWay (home hash n) c x → get_or cells x 0 ≢ 0) → IsPlaced (set cells c v) n hash j
  place_new n hash j count is full = record {
    cell = c;
    low = omega arith;
    there = get_or-set_same cells c v 0 low ∙ is;
    full = λ x below passes. filled x (full x below passes);
  }

module _ (hashes cells : List ℕ) (at c v : ℕ) (low : c < length cells) (empty : get_or cells c 0 ≡ 0)
    (is : v ≡ tag (get_or hashes at 0) (length cells) + at + 1)
    (full : (x : ℕ) → x < length cells → IsOnTheWay (home (get_or hashes at 0) (length cells)) c x
    → get_or cells x 0 ≢ 0)
    (h : HaveCells hashes cells at) where
  pub one_more : HaveCells hashes (set cells c v) (at + 1)
  one_more =
      let count = length-set cells c v in
      let some : v ≢ 0 = λ z. omega arith in
      record {
        placed = λ j below. rw count (elim (cases_lt j at) [
          | inl less ↦ place_kept cells c v low empty some (length cells) (get_or hashes j 0) j (h.placed j less)
          | inr most ↦ let same : at ≡ j = omega arith in subst
              (λ k. IsPlaced (set cells c v) (length cells) (get_or hashes k 0) k) same
              (place_new cells c v low empty some (length cells) (get_or hashes at 0) at refl is full)
        ]);
        few = omega (arith, used_set cells c v);
      }

-- ---- no hashes, and one more that isn't placed yet

pub none_placed : (hashes cells : List ℕ) (n : ℕ) → cells ≡ replicate n 0 → HaveCells hashes cells 0
none_placed hashes cells n zeros = record {
  placed = λ j below. absurd (omega arith);
  few = omega (arith, none_used n, ap cells_used zeros);
}

pub sized_by : (cells : List ℕ) (power : ℕ) → power ≤ 32 → length cells ≡ 2 ^ power → IsSized cells
sized_by cells power few count = record { power = power; few = few; count = count }

-- all cells are full: those from one on, and those before it
pub all_full : (cells : List ℕ) (from : ℕ)
    → ((c : ℕ) → from ≤ c → c < length cells → get_or cells c 0 ≢ 0)
    → ((c : ℕ) → c < from → get_or cells c 0 ≢ 0) → cells_used cells ≡ length cells
all_full cells from late early = used_full cells (λ c low. elim (cases_lt c from) [
  | inl less ↦ early c less
  | inr most ↦ late c (omega arith) low
])

pub filled_by : (x : HashTable) (hashes cells : List ℕ) → x.hashes.items ≡ hashes → x.cells.items ≡ cells
    → IsSized cells → 4 * length hashes ≤ 3 * length cells → length cells ≤ 3 * length hashes + 16
    → HaveCells hashes cells (length hashes) → HasHashes x
filled_by x hashes cells is_hashes is_cells sized load spare have = record {
  sized = rw is_cells sized;
  load = rw (is_hashes, is_cells) load;
  spare = rw (is_hashes, is_cells) spare;
  have = rw (is_hashes, is_cells) have;
}
