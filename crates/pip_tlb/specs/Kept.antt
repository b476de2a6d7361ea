-- The page that a translation cache keeps for fetches.
use Rattle.std.specs.Prelude.{◌≡◌, ℕ, ◌*◌, ◌%◌, List, Option, Some, None, bit_and, slice_index_or}
use Rattle.pip_base.specs.Rights.{rights_number}
use Rattle.pip_model.specs.Cache.{of_page}
use Rattle.pip_model.specs.declared.cached.Entry.{Entry}

-- the place of v holds this page of a partition at v, which it may execute
pub record MayFetch (places : List (Option Entry)) (part v page : ℕ) : Type 0 where
  pub entry : Entry
  pub held : of_page part v (slice_index_or places (v % 64) None) ≡ Some entry
  pub leads : entry.page ≡ page
  pub right : bit_and 4 (rights_number entry.rights) ≡ 4

-- the virtual page that begins at an address is this page of a partition, which may execute it
pub record IsKeptForFetches (places : List (Option Entry)) (part base page : ℕ) : Type 0 where
  pub vpage : ℕ
  pub begins : base ≡ 4096 * vpage
  pub fetches : MayFetch places part vpage page
