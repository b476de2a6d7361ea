use Rattle.pip_test_every.proofs.replies.ask.Given as goal

-- keys compare with the words of a root without a program
abbrev pub ghosts-ask_on-F-First : goal.ghosts-ask_on-F-First
ghosts-ask_on-F-First a = record { words = a.later.block.frames }

abbrev pub ghosts-ask_on-L-Ledger : goal.ghosts-ask_on-L-Ledger
ghosts-ask_on-L-Ledger a = record { name = a.blank.name; parts = a.blank.parts }
