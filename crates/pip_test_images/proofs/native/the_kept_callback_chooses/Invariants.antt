use Rattle.pip_test_images.proofs.native.the_kept_callback_chooses.Given as goal

abbrev pub ghosts-decide_asked : goal.ghosts-decide_asked
ghosts-decide_asked g a = record { name = a.blank.name; parts = a.blank.parts }
