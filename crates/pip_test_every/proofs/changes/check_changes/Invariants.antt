use Rattle.pip_test_every.proofs.changes.check_changes.Given as goal

abbrev pub ghosts-check_journal : goal.ghosts-check_journal
ghosts-check_journal g a = record { words = a.first.block.frames }
