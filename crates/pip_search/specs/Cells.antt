-- Hashes in the cells of a table.
use Rattle.std.specs.Prelude.{◌≡◌, ◌≢◌, ℕ, zero, suc, ◌+◌, ◌*◌, ◌/◌, ◌%◌, ◌^◌, ◌<◌, ◌≤◌, ◌⊎◌, List, [], ◌∷◌}
use Rattle.std.specs.Prelude.{length, slice_index}
use Rattle.pip_search.specs.declared.hash_table.HashTable.{HashTable}

-- where one looks for a hash first among n cells
abbrev pub home : ℕ → ℕ → ℕ
home hash n = hash * n / 2 ^ 32

-- what a cell has of a hash: home and tag together are the product
abbrev pub tag : ℕ → ℕ → ℕ
tag hash n = hash * n % 2 ^ 32

-- cell c is on the way from a cell to another one, round the end
abbrev pub IsOnTheWay : ℕ → ℕ → ℕ → Type 0
IsOnTheWay from to c = ((from ≤ c) × (c < to)) ⊎ ((to < from) × ((from ≤ c) ⊎ (c < to)))

-- hash number j is in one of n cells, and none is empty on the way there
pub record IsPlaced (cells : List ℕ) (n hash j : ℕ) : Type 0 where
  pub cell : ℕ
  pub low : cell < n
  pub there : slice_index cells cell ≡ tag hash n + j + 1
  pub full : (c : ℕ) → c < n → IsOnTheWay (home hash n) cell c → slice_index cells c ≢ 0

-- how many cells aren't empty
unfoldable pub cells_used : List ℕ → ℕ
cells_used [] = 0
cells_used (zero ∷ cells) = cells_used cells
cells_used (suc k ∷ cells) = cells_used cells + 1

-- the count is a power of two, at most 2^32, so a tag has room for the number of a cell
pub record IsSized (cells : List ℕ) : Type 0 where
  pub power : ℕ
  pub few : power ≤ 32
  pub count : length cells ≡ 2 ^ power

-- the first k hashes are in cells, and nothing else is
pub record HaveCells (hashes cells : List ℕ) (k : ℕ) : Type 0 where
  pub placed : (j : ℕ) → j < k → IsPlaced cells (length cells) (slice_index hashes j) j
  pub few : cells_used cells ≤ k

-- all hashes are in cells: at most three in four cells are used, and there are at most three cells a hash, and 16 more
pub record HasHashes (x : HashTable) : Type 0 where
  pub sized : IsSized x.cells.items
  pub load : 4 * length x.hashes.items ≤ 3 * length x.cells.items
  pub spare : length x.cells.items ≤ 3 * length x.hashes.items + 16
  pub have : HaveCells x.hashes.items x.cells.items (length x.hashes.items)
