-- Words of first shadows.
use Rattle.std.specs.Prelude.{◌≢◌, ℕ, ◌<◌, ◌^◌}
use Rattle.pip_base.specs.Words.{shadow1_word, as_descriptor, as_configuration, as_lent}
use Rattle.pip_entry.specs.declared.shadows.Sh1.{Sh1}
use Rattle.pip_entry.specs.declared.shadows.Sh1.TheVariants.{Free, Descriptor, Config, Lent}

-- the word that stands for it
abbrev pub packed_sh1 : Sh1 → ℕ
packed_sh1 Free = 0
packed_sh1 (Descriptor page) = shadow1_word as_descriptor page
packed_sh1 (Config page) = shadow1_word as_configuration page
packed_sh1 (Lent page) = shadow1_word as_lent page

-- no child has its descriptor at vpage 0
abbrev pub IsSh1 : Sh1 → Type 0
IsSh1 Free = Unit {0}
IsSh1 (Descriptor page) = (page < 2 ^ 20) × (page ≢ 0)
IsSh1 (Config page) = (page < 2 ^ 20) × (page ≢ 0)
IsSh1 (Lent page) = (page < 2 ^ 20) × (page ≢ 0)
