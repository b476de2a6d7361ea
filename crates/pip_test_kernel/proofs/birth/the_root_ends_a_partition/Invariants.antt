use Rattle.pip_test_kernel.proofs.birth.the_root_ends_a_partition.Given as goal

abbrev pub ghosts-check_end : goal.ghosts-check_end
ghosts-check_end g a = record { name = a.blank.name; parts = a.blank.parts }
