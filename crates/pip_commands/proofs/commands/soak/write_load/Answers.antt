use Rattle.pip_io.proofs.Taken.{on_err, part_sent, flushed_part, flushed_whole}
use Rattle.pip_commands.proofs.commands.soak.write_load.Goals as goal

pub returns-in_err-load_text-clause-part : goal.returns-in_err-load_text-clause-part
returns-in_err-load_text-clause-part g c = on_err _ _ (part_sent _ _ _ c.in_err-load_text.ensures.text)

pub returns-clause-whole : goal.returns-clause-whole
returns-clause-whole g c = flushed_whole _ _ _ _ _ c.in_ok-load_text.ensures.text c.flush.ensures.kept

pub returns-clause-part : goal.returns-clause-part
returns-clause-part g c =
    flushed_part _ _ _ _ _ c.in_ok-load_text.ensures.text c.flush.ensures.kept c.flush.ensures.some
