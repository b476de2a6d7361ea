-- The pool: addresses at which p has pages, of which a child is built.
use Rattle.std.specs.Prelude.{◌≡◌, ℕ, ◌<◌, true, List, length, slice_index_or}
use Rattle.pip_model.specs.Answers.{Five, is_mapped, writable}
use Rattle.pip_model.specs.Tree.{Tree, free, is_place, vpage}

-- the address of page k of a pool; 0 where it has no such page
abbrev pub pool_at : List ℕ → ℕ → ℕ
pool_at pool k = slice_index_or pool k 0

-- the pool's first five pages, of which the child is made
abbrev pub first_five : List ℕ → Five
first_five pool =
    record { x0 = pool_at pool 0; x1 = pool_at pool 1; x2 = pool_at pool 2; x3 = pool_at pool 3; x4 = pool_at pool 4 }

-- what the pool is to be: different pages of p that it can give away, each free, readable and writable
pub record HasPool (t : Tree) (p : ℕ) (pool : List ℕ) : Type 0 where
  pub places : (k : ℕ) → k < length pool → is_place (pool_at pool k) ≡ true
  pub mapped : (k : ℕ) → k < length pool → is_mapped t p (vpage (pool_at pool k)) ≡ true
  pub free : (k : ℕ) → k < length pool → free t p (vpage (pool_at pool k)) ≡ true
  pub writable : (k : ℕ) → k < length pool → writable t p (vpage (pool_at pool k)) ≡ true
  pub differ : (j k : ℕ) → j < length pool → k < length pool → pool_at pool j ≡ pool_at pool k → j ≡ k
