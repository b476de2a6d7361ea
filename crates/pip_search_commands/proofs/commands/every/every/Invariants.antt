use Rattle.pip_search_commands.proofs.commands.every.every.Given as goal

abbrev pub ghosts-every_counted : goal.ghosts-every_counted
ghosts-every_counted g a = record { name = a.blank.name; parts = a.blank.parts }
