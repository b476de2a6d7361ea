use Rattle.pip_test_every.proofs.tests.a_machine_meets_the_premises_on_one_event.Given as goal

abbrev pub ghosts-check_one : goal.ghosts-check_one
ghosts-check_one a = record { name = a.blank.name; parts = a.blank.parts }
