use Rattle.pip_test_kernel.proofs.mmu.a_page_is_held_once_it_is_reached.Given as goal

abbrev pub ghosts-check : goal.ghosts-check
ghosts-check g a = record { name = a.blank.name; parts = a.blank.parts }
