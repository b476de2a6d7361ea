-- What is asked of a partition's list when a table comes or goes.
use Rattle.std.specs.Prelude.{◌≡◌, ◌≢◌, ℕ, ◌<◌, ◌≤◌, ◌+◌, List, length, Option, Some}
use Rattle.pip_base.specs.declared.types.Pair.{Pair}
use Rattle.pip_base.specs.Memory.{Memory}
use Rattle.pip_config.specs.Lists.{ListIn, list_frame, IsPlaceOfTable}
use Rattle.pip_model.specs.Tree.{Table, lists}

-- the page, if there is one, is none of the list's
abbrev pub IsOutsideList : ℕ → List Pair → Option Pair → Type 0
IsOutsideList first more list = (p : Pair) → list ≡ Some p → (k : ℕ) → k ≤ length more
    → p.frame ≢ list_frame first more k

-- the memory holds a list of n slots in as many pages as they take, and a page to add, if there is one, is further
pub record CanAddPage (m : Memory) (first n : ℕ) (list : Option Pair) : Type 0 where
  pub more : List Pair
  pub tables : List Table
  pub is_in : ListIn m first more tables
  pub count : length tables ≡ n
  pub pages : length more + 1 ≡ lists n
  pub further : IsOutsideList first more list
  pub inside : (p : Pair) → list ≡ Some p → p.frame < length m

-- the memory holds a list of n slots, and one of them is of the MMU's table in this frame
pub record CanTakeSlot (m : Memory) (first n table : ℕ) : Type 0 where
  pub more : List Pair
  pub tables : List Table
  pub is_in : ListIn m first more tables
  pub count : length tables ≡ n
  pub taken : Table
  pub place : ℕ
  pub is_place : IsPlaceOfTable tables taken place
  pub frame : taken.mmu.frame ≡ table

-- the memory holds a list of n slots in the pages that n + 1 take
pub record CanDropPage (m : Memory) (first n : ℕ) : Type 0 where
  pub more : List Pair
  pub tables : List Table
  pub is_in : ListIn m first more tables
  pub count : length tables ≡ n
  pub pages : length more + 1 ≡ lists (n + 1)
  pub few : n < 4096
