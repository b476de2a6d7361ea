use Rattle.pip_test_tables.proofs.frames.a_vector_keeps_and_lends_words.Given as goal

abbrev pub ghosts-keeps_and_lends : goal.ghosts-keeps_and_lends
ghosts-keeps_and_lends g a = record { name = a.blank.name; parts = a.blank.parts }
