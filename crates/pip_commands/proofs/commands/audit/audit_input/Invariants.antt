use Rattle.pip_commands.proofs.commands.audit.audit_input.Given as goal

abbrev pub ghosts-judge : goal.ghosts-judge
ghosts-judge g a = record { name = a.blank.name; parts = a.blank.parts }
