-- Words of second shadows.
use Rattle.std.specs.Prelude.{ℕ, ◌<◌, ◌^◌}
use Rattle.pip_base.specs.Words.{shadow2_word}
use Rattle.pip_entry.specs.declared.shadows.Sh2.{Sh2}
use Rattle.pip_entry.specs.declared.shadows.Sh2.TheVariants.{Empty, Of}

-- the word that stands for it
abbrev pub packed_sh2 : Sh2 → ℕ
packed_sh2 Empty = 0
packed_sh2 (Of page) = shadow2_word page

-- the parent's page is a vpage
abbrev pub IsSh2 : Sh2 → Type 0
IsSh2 Empty = Unit {0}
IsSh2 (Of page) = page < 2 ^ 20
