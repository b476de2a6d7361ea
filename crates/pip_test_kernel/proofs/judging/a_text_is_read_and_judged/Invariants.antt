use Rattle.pip_test_kernel.proofs.judging.a_text_is_read_and_judged.Given as goal

abbrev pub ghosts-judge_text : goal.ghosts-judge_text
ghosts-judge_text g a = record { name = a.blank.name; parts = a.blank.parts }
