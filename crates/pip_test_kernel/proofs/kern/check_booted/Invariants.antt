use Rattle.pip_test_kernel.proofs.kern.check_booted.Given as goal

abbrev pub ghosts-check : goal.ghosts-check
ghosts-check g a = record { name = a.blank.name; parts = a.blank.parts }
