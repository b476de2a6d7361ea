-- The numbers of statuses.
use Rattle.std.specs.Prelude.{ℕ}
use Rattle.pip_base.specs.declared.outcome.Status.{Status}
use Rattle.pip_base.specs.declared.outcome.Status.TheVariants as S

-- the number that a call puts into r0
abbrev pub status_number : Status → ℕ
status_number S.Ok = 0
status_number S.UnknownCall = 1
status_number S.NotAligned = 2
status_number S.NullPage = 3
status_number S.Repeated = 4
status_number S.NotChild = 5
status_number S.NotMapped = 6
status_number S.NotFree = 7
status_number S.NoRight = 8
status_number S.NoTable = 9
status_number S.Taken = 10
status_number S.Absent = 11
status_number S.LentOn = 12
status_number S.NotEmpty = 13
status_number S.Running = 14
status_number S.BadVector = 15
status_number S.NoHandler = 16
status_number S.NoContext = 17
status_number S.BadSave = 18
