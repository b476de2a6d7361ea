use Rattle.pip_io.proofs.Taken.{on_err, part_sent}
use Rattle.pip_io.proofs.driver.write_text.Goals as goal

pub returns-in_err-write_pieces-clause-part : goal.returns-in_err-write_pieces-clause-part
returns-in_err-write_pieces-clause-part g c = on_err _ _ (part_sent _ _ _ c.in_err-write_pieces.ensures.prefix)
