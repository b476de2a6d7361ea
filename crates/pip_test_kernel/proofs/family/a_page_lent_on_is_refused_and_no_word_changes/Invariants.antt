use Rattle.pip_test_kernel.proofs.family.a_page_lent_on_is_refused_and_no_word_changes.Given as goal

abbrev pub ghosts-check_asked_back : goal.ghosts-check_asked_back
ghosts-check_asked_back g a = record { name = a.blank.name; parts = a.blank.parts }
