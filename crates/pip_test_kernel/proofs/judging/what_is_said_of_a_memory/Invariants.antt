use Rattle.pip_test_kernel.proofs.judging.what_is_said_of_a_memory.Given as goal

abbrev pub ghosts-judge : goal.ghosts-judge
ghosts-judge g a = record { name = a.blank.name; parts = a.blank.parts }
