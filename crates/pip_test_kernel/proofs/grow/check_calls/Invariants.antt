use Rattle.pip_test_kernel.proofs.grow.check_calls.Given as goal

abbrev pub ghosts-check : goal.ghosts-check
ghosts-check g a = record { name = a.blank.name; parts = a.blank.parts }
