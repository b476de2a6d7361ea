use Rattle.pip_test_every.proofs.away.passes_once.Given as goal

abbrev pub ghosts-passes : goal.ghosts-passes
ghosts-passes a = record { name = a.blank.name; parts = a.blank.parts }
