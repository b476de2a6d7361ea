use Rattle.pip_test_kernel.proofs.parent.what_no_pool_can_give_is_refused_without_an_event.Given as goal

abbrev pub ghosts-check_refusals : goal.ghosts-check_refusals
ghosts-check_refusals g a = record { name = a.blank.name; parts = a.blank.parts }
