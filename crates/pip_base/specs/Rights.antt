-- The number of a set of rights.
use Rattle.std.specs.Prelude.{ℕ}
use Rattle.pip_base.specs.declared.rights.Rights.{Rights}

-- READ 1, WRITE 2 and EXEC 4, added up
abbrev pub rights_number : Rights → ℕ
rights_number r = r.0
