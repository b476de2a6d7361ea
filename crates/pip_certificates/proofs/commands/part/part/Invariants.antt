use Rattle.pip_certificates.proofs.commands.part.part.Given as goal

abbrev pub ghosts-part_counted : goal.ghosts-part_counted
ghosts-part_counted g a = record { name = a.blank.name; parts = a.blank.parts }
