use Rattle.pip_test_kernel.proofs.mmu.a_hit_is_judged_by_its_rights.Given as goal

abbrev pub ghosts-check_rights : goal.ghosts-check_rights
ghosts-check_rights g a = record { name = a.blank.name; parts = a.blank.parts }
