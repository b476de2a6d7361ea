use Rattle.pip_test_kernel.proofs.birth.the_root_makes_two_partitions.Given as goal

abbrev pub ghosts-check : goal.ghosts-check
ghosts-check g a = record { name = a.blank.name; parts = a.blank.parts }
