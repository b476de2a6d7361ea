use Rattle.pip_test_tables.proofs.table.a_table_is_a_map.Given as goal

abbrev pub ghosts-words : goal.ghosts-words
ghosts-words g a = record { name = a.blank.name; parts = a.blank.parts }
