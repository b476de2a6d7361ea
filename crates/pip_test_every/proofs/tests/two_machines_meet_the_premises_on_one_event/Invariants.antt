use Rattle.pip_test_every.proofs.tests.two_machines_meet_the_premises_on_one_event.Given as goal

abbrev pub ghosts-check_two : goal.ghosts-check_two
ghosts-check_two a = record { name = a.blank.name; parts = a.blank.parts }
