use Rattle.pip_test_texts.proofs.image.the_pages_of_an_image_are_loaded.Given as goal

abbrev pub ghosts-first_word : goal.ghosts-first_word
ghosts-first_word g a = record { name = a.blank.name; parts = a.blank.parts }
