use Rattle.pip_search_commands.proofs.commands.against.against.Given as goal

abbrev pub ghosts-against_counted : goal.ghosts-against_counted
ghosts-against_counted g a = record { name = a.blank.name; parts = a.blank.parts }
