use Rattle.pip_test_kernel.proofs.parent.a_child_that_is_to_have_more_than_its_parent_is_deleted.Given as goal

abbrev pub ghosts-check_lack : goal.ghosts-check_lack
ghosts-check_lack g a = record { name = a.blank.name; parts = a.blank.parts }
