-- What is known of the wants so far: their directories, and their addresses.
use Rattle.std.specs.Prelude.{◌≡◌, ℕ, zero, suc, ◌+◌, ◌%◌, ◌<◌, ◌==◌, Bool, false, if◌then◌else◌, List, slice_index}
use Rattle.std.specs.Prelude.{slice_index_or}
use Rattle.pip_parent.specs.declared.addresses.WantsByAddress.{WantsByAddress}
use Rattle.pip_parent.specs.declared.directories.Directories.{Directories}
use Rattle.pip_parent.specs.declared.taken.Taken.{Taken}
use Rattle.pip_parent.specs.declared.wants.Want.{Want}
use Rattle.pip_model.specs.Tree.{vpage}
use Rattle.pip_parent.specs.Wants.{dir_of, earlier, opened_before, pages_used, want_at}

-- a directory index is known exactly where a want before i has it
abbrev pub KnowsDirectories : Directories → List Want → ℕ → Type 0
KnowsDirectories d ws i = (v : ℕ) → v < 1024 → slice_index_or d.known v false ≡ earlier (λ w. dir_of w == v) ws i

-- the last of the wants before i that is such, as its place plus 1; 0 where none is
abbrev pub last : (Want → Bool) → List Want → ℕ → ℕ
last f ws zero = 0
last f ws (suc i) = if f (want_at ws i) then suc i else last f ws i

-- the chain of a want's address, by its vpage and its directory index
abbrev pub chain_of_want : Want → ℕ
chain_of_want w = (vpage w.va + dir_of w) % 4096

-- each chain leads to its wants before i, the last first
pub record KnowsAddresses (a : WantsByAddress) (ws : List Want) (i : ℕ) : Type 0 where
  pub latest : (c : ℕ) → c < 4096 → slice_index a.latest c ≡ last (λ w. chain_of_want w == c) ws i
  pub before : (j : ℕ) → j < i
      → slice_index a.before j ≡ last (λ w. chain_of_want w == chain_of_want (want_at ws j)) ws j

-- what the child and the wants before i have taken
pub record CountsTaken (taken : Taken) (ws : List Want) (i : ℕ) : Type 0 where
  pub pages : taken.pages ≡ pages_used ws i
  pub tables : taken.tables ≡ opened_before ws i
  pub directories : KnowsDirectories taken.directories ws i

-- what the child and the wants before i have taken, with the table of want i
pub record CountsTakenWithTable (taken : Taken) (ws : List Want) (i : ℕ) : Type 0 where
  pub tables : taken.tables ≡ opened_before ws (i + 1)
  pub directories : KnowsDirectories taken.directories ws (i + 1)
