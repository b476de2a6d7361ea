use Rattle.pip_every.proofs.searching.search_against.Given as goal

-- keys compare with the words that were noted
abbrev pub ghosts-search_from-F-First : goal.ghosts-search_from-F-First
ghosts-search_from-F-First a = record { words = a.later.block.frames }

abbrev pub ghosts-search_from-L-Ledger : goal.ghosts-search_from-L-Ledger
ghosts-search_from-L-Ledger a = record { name = a.blank.name; parts = a.blank.parts }

abbrev pub ghosts-booted_later : goal.ghosts-booted_later
ghosts-booted_later a = record { name = a.blank.name; parts = a.blank.parts }
