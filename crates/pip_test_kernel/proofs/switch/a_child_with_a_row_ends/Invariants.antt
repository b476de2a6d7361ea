use Rattle.pip_test_kernel.proofs.switch.a_child_with_a_row_ends.Given as goal

abbrev pub ghosts-check : goal.ghosts-check
ghosts-check g a = record { name = a.blank.name; parts = a.blank.parts }
