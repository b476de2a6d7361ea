use Rattle.pip_every.proofs.journals.journal.Journal.new.Given as goal

-- the copy opens the ledger of its blank
abbrev pub ghosts-copied_uncounted : goal.ghosts-copied_uncounted
ghosts-copied_uncounted g a = record { name = a.blank.name; parts = a.blank.parts }
