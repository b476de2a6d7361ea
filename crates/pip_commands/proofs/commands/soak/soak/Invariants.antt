use Rattle.pip_commands.proofs.commands.soak.soak.Given as goal

abbrev pub ghosts-make_load : goal.ghosts-make_load
ghosts-make_load g a = record { name = a.blank.name; parts = a.blank.parts }
