use Rattle.pip_test_images.proofs.script.machine_is_handed_back.Given as goal

abbrev pub ghosts-first_word : goal.ghosts-first_word
ghosts-first_word g a = record { name = a.blank.name; parts = a.blank.parts }
