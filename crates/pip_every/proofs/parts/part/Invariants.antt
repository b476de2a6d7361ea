use Rattle.pip_every.proofs.parts.part.Given as goal

-- keys compare with the words of the later frames
abbrev pub ghosts-part_from-F-First : goal.ghosts-part_from-F-First
ghosts-part_from-F-First a = record { words = a.later.block.frames }

abbrev pub ghosts-part_from-L-Ledger : goal.ghosts-part_from-L-Ledger
ghosts-part_from-L-Ledger a = record { name = a.blank.name; parts = a.blank.parts }
