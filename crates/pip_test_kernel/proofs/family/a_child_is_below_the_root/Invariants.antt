use Rattle.pip_test_kernel.proofs.family.a_child_is_below_the_root.Given as goal

abbrev pub ghosts-check_child_below : goal.ghosts-check_child_below
ghosts-check_child_below g a = record { name = a.blank.name; parts = a.blank.parts }
