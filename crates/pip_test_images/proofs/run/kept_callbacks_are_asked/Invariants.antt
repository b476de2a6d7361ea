use Rattle.pip_test_images.proofs.run.kept_callbacks_are_asked.Given as goal

abbrev pub ghosts-count_asked : goal.ghosts-count_asked
ghosts-count_asked g a = record { name = a.blank.name; parts = a.blank.parts }

abbrev pub ghosts-count_asked-2 : goal.ghosts-count_asked-2
ghosts-count_asked-2 g a = record { name = a.blank.name; parts = a.blank.parts }
