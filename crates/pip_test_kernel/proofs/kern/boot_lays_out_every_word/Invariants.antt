use Rattle.pip_test_kernel.proofs.kern.boot_lays_out_every_word.Given as goal

abbrev pub ghosts-check_each : goal.ghosts-check_each
ghosts-check_each g a = record { name = a.blank.name; parts = a.blank.parts }
