use Rattle.pip_test_every.proofs.changes.a_journal_lists_the_words_that_changed.Given as goal

abbrev pub ghosts-check_changes : goal.ghosts-check_changes
ghosts-check_changes g a = record { name = a.blank.name; parts = a.blank.parts }
