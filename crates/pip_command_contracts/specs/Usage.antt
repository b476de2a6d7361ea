-- What is due of words of no form.
use Rattle.std.specs.Prelude.{ℕ, List, None}
use Rattle.pip_command_contracts.specs.EndsBy.{Due, plainly}
use Rattle.pip_command_contracts.specs.ImageDues.{without_reading}

-- this text, which says what forms there are
abbrev pub unknown_due : List ℕ → Due
unknown_due usage = without_reading (plainly 1 usage None) ⊥
