use Rattle.pip_test_texts.proofs.dump.the_boot_tree_and_a_frame_as_text.Given as goal

abbrev pub ghosts-check : goal.ghosts-check
ghosts-check g a = record { name = a.blank.name; parts = a.blank.parts }
