use Rattle.pip_test_kernel.proofs.parent.a_child_is_built_by_as_many_events_as_told.Given as goal

abbrev pub ghosts-check_two : goal.ghosts-check_two
ghosts-check_two g a = record { name = a.blank.name; parts = a.blank.parts }
