use Rattle.pip_lab_commands.proofs.commands.slots.slots.Given as goal

abbrev pub ghosts-children : goal.ghosts-children
ghosts-children g a = record { name = a.blank.name; parts = a.blank.parts }
