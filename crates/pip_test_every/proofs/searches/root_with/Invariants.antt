use Rattle.pip_test_every.proofs.searches.root_with.Given as goal

abbrev pub ghosts-boot_program : goal.ghosts-boot_program
ghosts-boot_program a = record { name = a.blank.name; parts = a.blank.parts }
