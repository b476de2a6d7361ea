-- The root as boot makes it.
use Rattle.std.specs.Prelude.{◌≡◌, ℕ, ◌<◌, ◌≤◌, ◌⊎◌, ◌+◌, ◌-◌, ◌&&◌, nat_le, nat_lt, if◌then◌else◌, List, length}
use Rattle.std.specs.Prelude.{Option, Some, None}
use Rattle.pip_base.specs.Memory.{Memory, put_word, word_at}
use Rattle.pip_model.specs.Boot.{boot_root}
use Rattle.pip_model.specs.Booting.{user_row}
use Rattle.pip_model.specs.FullRows.{FullRow}
use Rattle.pip_model.specs.Lists.{In}
use Rattle.pip_model.specs.NodeIn.{Space}
use Rattle.pip_model.specs.Tree.{Node, Table, config}

-- a node with these tables in place of its own
abbrev pub give_tables : List Table → Node → Node
give_tables ts x = record x { tables = ts }

-- the boot root with these tables
abbrev pub root_with : ℕ → List Table → Node
root_with n ts = give_tables ts (boot_root n)

-- the memory with the words of a root without tables that aren't 0: its base, and itself as parent
abbrev pub with_root : Memory → Memory
with_root m = put_word (put_word (put_word (put_word (put_word (put_word m 1 1 1) 1 3 2) 1 5 3) 1 7 4) 1 9 5) 1 11 1

-- no page is mapped
abbrev pub no_rows : ℕ → Option FullRow
no_rows v = None

-- the rows of a number of pages, from the frame g and vpage 1024 on
abbrev pub pages_from : ℕ → ℕ → ℕ → Option FullRow
pages_from g count v = if nat_le 1024 v && nat_lt v (1024 + count) then Some (user_row (g + (v - 1024))) else None

-- the memory of n frames holds the root with these tables, whose directory indexes are below i, and these rows; its
-- configuration is in frames from 1 to g - 1, and frame 0 and the frames from g on hold zeros
pub record HoldsRoot (n i g : ℕ) (ts : List Table) (rows : ℕ → Option FullRow) (m : Memory) : Type 0 where
  pub count : length m ≡ n
  pub space : Space m (root_with n ts) rows
  pub few : length ts < i
  pub indexes : (b : Table) → In b ts → b.index < i
  pub pages : (f : ℕ) → In f (config (root_with n ts)) → (1 ≤ f) × (f < g)
  pub zeros : (f w : ℕ) → (f ≡ 0) ⊎ (g ≤ f) → word_at m f w ≡ 0
