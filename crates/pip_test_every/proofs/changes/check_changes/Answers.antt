use Rattle.pip_test_every.proofs.Booted.{count_zeros}
use Rattle.pip_test_every.proofs.changes.check_changes.Goals as goal

pub check_journal-requires-clause-count : goal.check_journal-requires-clause-count
check_journal-requires-clause-count g c = count_zeros _ 16 c.in_ok-first.ensures
