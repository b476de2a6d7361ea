use Rattle.pip_search_commands.proofs.commands.apart.apart.Given as goal

abbrev pub ghosts-apart_counted : goal.ghosts-apart_counted
ghosts-apart_counted g a = record { name = a.blank.name; parts = a.blank.parts }
