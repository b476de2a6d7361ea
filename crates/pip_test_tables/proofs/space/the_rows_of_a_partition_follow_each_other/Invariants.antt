use Rattle.pip_test_tables.proofs.space.the_rows_of_a_partition_follow_each_other.Given as goal

abbrev pub ghosts-check : goal.ghosts-check
ghosts-check g a = record { name = a.blank.name; parts = a.blank.parts }
