-- The root that a machine begins with, base by base and row by row.
use Rattle.std.specs.Prelude.{◌≡◌, ℕ, List, length, Option, option_map}
use Rattle.pip_base.specs.Memory.{Memory}
use Rattle.pip_model.specs.Boot.{frame_of_root, own}
use Rattle.pip_model.specs.ReadOff.{row_read}
use Rattle.pip_model.specs.Tree.{Base, Row, Table}

-- the base that the root of the boot has: five pages that no parent maps
abbrev pub boot_base : Base
boot_base = record { descriptor = own 1; mmu = own 2; shadow1 = own 3; shadow2 = own 4; list = own 5 }

-- the row at a vpage, if there is one: all rights
abbrev pub boot_row : ℕ → ℕ → Option Row
boot_row n v = option_map (λ f. record { at = v; frame = f; rights = 7 }) (frame_of_root n v)

-- these tables have the root's row there
abbrev pub HasBootRow : Memory → List Table → ℕ → Type 0
HasBootRow m ts v = row_read m ts v ≡ boot_row (length m) v
