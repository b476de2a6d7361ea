-- The tree that a machine of n frames begins with: the root alone, which holds all of them.
use Rattle.std.specs.Prelude.{ℕ, zero, suc, max, ◌+◌, ◌-◌, ◌*◌, ◌/◌, false, ◌&&◌, nat_lt, nat_le, if◌then◌else◌, List}
use Rattle.std.specs.Prelude.{[], ◌∷◌, Option, Some, None, option_map}
use Rattle.pip_base.specs.declared.types.Pair.{Pair}
use Rattle.pip_model.specs.Tree.{Table, Row, Node, Tree, row_at}

-- How many tables the root has beside that of the handlers: the least t, at least 1, whose 1024 * t
-- vpages have room for all user frames but the last (a lemma says that it is the least)
abbrev pub tables_of_root : ℕ → ℕ
tables_of_root n = max 1 ((n + 1016) / 1027)

-- Frame 0 is reserved. Frames 1 to 5 are the root's base, then come three frames for each table
abbrev pub first_user : ℕ → ℕ
first_user n = 9 + 3 * tables_of_root n

-- a page of the root has no address in a parent
abbrev pub own : ℕ → Pair
own g = record { va = 0; frame = g }

-- the table of index i in three frames from g on
abbrev pub boot_table : ℕ → ℕ → Table
boot_table i g = record { index = i; mmu = own g; shadow1 = own (g + 1); shadow2 = own (g + 2) }

-- a number of tables, from an index and a frame on, and then that of the handlers
abbrev pub tables_from : ℕ → ℕ → ℕ → List Table
tables_from zero i g = boot_table 1023 g ∷ []
tables_from (suc n) i g = boot_table i g ∷ tables_from n (i + 1) (g + 3)

-- a number of rows, from a vpage and a frame on, and then that of the handlers: all with every right
abbrev pub rows_from : ℕ → ℕ → ℕ → List Row
rows_from zero v g = record { at = 0xfffff; frame = g; rights = 7 } ∷ []
rows_from (suc n) v g = record { at = v; frame = g; rights = 7 } ∷ rows_from n (v + 1) (g + 1)

-- the root's node at boot, on a machine of n frames
abbrev pub boot_root : ℕ → Node
boot_root n = record {
  name = 1;
  up = 1;
  born = 0;
  base = record { descriptor = own 1; mmu = own 2; shadow1 = own 3; shadow2 = own 4; list = own 5 };
  tables = tables_from (tables_of_root n) 1 6;
  more = [];
  rows = rows_from (n - first_user n - 1) 1024 (first_user n);
  masked = false;
  pending = [];
}

-- the words of a page that is all zeros
abbrev pub zero_words : ℕ → ℕ
zero_words i = 0

-- a machine of n frames begins with the root alone, and with these words in the root's pages
abbrev pub boot_tree_with : (ℕ → ℕ → ℕ) → ℕ → Tree
boot_tree_with words n = record {
  frames = n;
  root = boot_root n;
  others = [];
  words = λ g. if nat_le (first_user n) g && nat_lt g n then Some (words g) else None;
}

-- or with zeros
abbrev pub boot_tree : ℕ → Tree
boot_tree n = boot_tree_with (λ g. zero_words) n

-- the frame of the root's row at a vpage
abbrev pub frame_of_root : ℕ → ℕ → Option ℕ
frame_of_root n v = option_map (λ r. r.frame) (row_at (boot_root n).rows v)
