use Rattle.std.proofs.Common.{rules}
use Rattle.pip_certificates.specs.PartDues.{lines_text}
use Rattle.pip_certificates.specs.PartShown.{told_part}
use Rattle.pip_certificates.proofs.Pieces.{given_cut, given_settled}
use Rattle.pip_certificates.proofs.writing.show.Goals as goal

pub returns-in_err-give-clause-wrote : goal.returns-in_err-give-clause-wrote
returns-in_err-give-clause-wrote g c =
    given_cut c.from_residual.result (g.K.Sink.history c.args.sink.now).written
    (g.K.Sink.history c.give.new.sink).written
    (lines_text (told_part c.args.checked.now)) (search rules) c.in_err-give.ensures.wrote

pub returns-clause-wrote : goal.returns-clause-wrote
returns-clause-wrote g c =
    given_settled c.flush.result (g.K.Sink.history c.args.sink.now).written (g.K.Sink.history c.give.new.sink).written
    (g.K.Sink.history c.flush.new.self).written (lines_text (told_part c.args.checked.now)) c.in_ok-give.ensures.wrote
    c.flush.ensures.kept c.flush.ensures.some
