use Rattle.pip_test_texts.proofs.core_text.what_is_written_of_a_memory_is_read_as_this_memory.Given as goal

abbrev pub ghosts-compare : goal.ghosts-compare
ghosts-compare g a = record { name = a.blank.name; parts = a.blank.parts }
