use Rattle.pip_test_kernel.proofs.kern.a_page_is_hidden_and_opened_again.Given as goal

abbrev pub ghosts-check_hiding : goal.ghosts-check_hiding
ghosts-check_hiding g a = record { name = a.blank.name; parts = a.blank.parts }
