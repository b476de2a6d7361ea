use Rattle.pip_search_commands.proofs.commands.apart.searching.find_planned.Given as goal

-- keys compare with the words after the steps
abbrev pub ghosts-find_from-F-First : goal.ghosts-find_from-F-First
ghosts-find_from-F-First g a = record { words = a.later.block.frames }

abbrev pub ghosts-find_from-L-Ledger : goal.ghosts-find_from-L-Ledger
ghosts-find_from-L-Ledger g a = record { name = a.blank.name; parts = a.blank.parts }

abbrev pub ghosts-words_after : goal.ghosts-words_after
ghosts-words_after g a = record { name = a.blank.name; parts = a.blank.parts }
