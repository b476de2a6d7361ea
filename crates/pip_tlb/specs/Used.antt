-- Which places of a translation cache may hold an entry.
use Rattle.std.specs.Prelude.{◌≡◌, ℕ, ◌/◌, Bool, true, false, List, Option, None, slice_index_or}
use Rattle.pip_model.specs.declared.cached.Entry.{Entry}

-- the eight places of a number that isn't used are empty
abbrev pub AreUnused : List (Option Entry) → List Bool → Type 0
AreUnused places used = (k : ℕ) → slice_index_or used (k / 8) true ≡ false → slice_index_or places k None ≡ None
