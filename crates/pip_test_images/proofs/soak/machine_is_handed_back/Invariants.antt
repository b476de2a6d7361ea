use Rattle.pip_test_images.proofs.soak.machine_is_handed_back.Given as goal

abbrev pub ghosts-word : goal.ghosts-word
ghosts-word g a = record { name = a.blank.name; parts = a.blank.parts }
