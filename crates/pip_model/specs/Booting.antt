-- The boot tree as boot makes it, a table and a row at a time.
use Rattle.std.specs.Prelude.{ℕ, zero, suc, ◌+◌, true, List, [], ◌∷◌}
use Rattle.pip_model.specs.Boot.{boot_table}
use Rattle.pip_model.specs.FullRows.{FullRow}
use Rattle.pip_model.specs.Tree.{Table}

-- a number of tables of the root, from a directory index and a frame on
abbrev pub tables_begin : ℕ → ℕ → ℕ → List Table
tables_begin zero i g = []
tables_begin (suc n) i g = boot_table i g ∷ tables_begin n (i + 1) (g + 3)

-- the row of a page of the root: every right, open to the user, given to nobody, from no parent
abbrev pub user_row : ℕ → FullRow
user_row f = record { frame = f; rights = 7; user = true; given = 0; from = 0 }
