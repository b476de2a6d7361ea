use Rattle.pip_test_every.proofs.tests.machines_meet_the_premises_on_lists_of_events.Given as goal

abbrev pub ghosts-check_lists : goal.ghosts-check_lists
ghosts-check_lists a = record { name = a.blank.name; parts = a.blank.parts }
