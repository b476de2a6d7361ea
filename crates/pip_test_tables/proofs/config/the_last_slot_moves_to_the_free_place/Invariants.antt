use Rattle.pip_test_tables.proofs.config.the_last_slot_moves_to_the_free_place.Given as goal

abbrev pub ghosts-worked : goal.ghosts-worked
ghosts-worked g a = record { name = a.blank.name; parts = a.blank.parts }
