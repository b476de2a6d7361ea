use Rattle.pip_test_kernel.proofs.lend.a_child_without_tables_is_lent_nothing.Given as goal

abbrev pub ghosts-check : goal.ghosts-check
ghosts-check g a = record { name = a.blank.name; parts = a.blank.parts }
