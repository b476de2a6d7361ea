use Rattle.std.proofs.Common.{subst}
use Rattle.pip_io.specs.Taken.{Wrote}
use Rattle.pip_dump.proofs.Groups.{laid_words}
use Rattle.pip_dump.proofs.frames.frame_text.Goals as goal

pub returns-clause-text : goal.returns-clause-text
returns-clause-text g c t held =
    subst (Wrote c.words_text.result (g.K.Sink.history c.args.sink.now).written
    (g.K.Sink.history c.words_text.new.sink).written)
    (laid_words t (g.M.Frames.memory c.args.mem.now) c.args.f c.frame.result.now held.1 c.requires
    c.frame.ensures.words) c.words_text.ensures.text
