use Rattle.pip_test_kernel.proofs.parent.the_tables_take_a_second_list_page.Given as goal

abbrev pub ghosts-check_edges : goal.ghosts-check_edges
ghosts-check_edges g a = record { name = a.blank.name; parts = a.blank.parts }
