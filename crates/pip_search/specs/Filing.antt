-- Hashes that are on chains, by the rests that they leave.
use Rattle.std.specs.Prelude.{◌≡◌, ℕ, zero, suc, ◌+◌, ◌*◌, ◌<◌, ◌≤◌, ◌%◌, ◌==◌, if◌then◌else◌, List, length}
use Rattle.std.specs.Prelude.{slice_index}
use Rattle.pip_search.specs.declared.index.Index.{Index}

-- one more than the last number below k whose hash leaves the rest r on division by n, and 0 where there is none
unfoldable pub last_below : List ℕ → ℕ → ℕ → ℕ → ℕ
last_below hashes n r zero = 0
last_below hashes n r (suc k) = if slice_index hashes k % n == r then suc k else last_below hashes n r k

-- each head is that of the first k hashes, and each of these leads to the one before it
pub record AreLinked (hashes chains heads : List ℕ) (k : ℕ) : Type 0 where
  pub heads_are : (r : ℕ) → r < length heads → slice_index heads r ≡ last_below hashes (length heads) r k
  pub chains_are : (j : ℕ) → j < k → slice_index chains j ≡ last_below hashes (length heads)
      (slice_index hashes j % length heads) j

-- all hashes are on their chains: at most two hashes a chain, and at most one chain a hash, and 16 more
pub record IsFiled (x : Index) : Type 0 where
  pub some : 0 < length x.heads.items
  pub load : length x.hashes.items ≤ 2 * length x.heads.items
  pub spare : length x.heads.items ≤ length x.hashes.items + 16
  pub count : length x.chains.items ≡ length x.hashes.items
  pub linked : AreLinked x.hashes.items x.chains.items x.heads.items (length x.hashes.items)
