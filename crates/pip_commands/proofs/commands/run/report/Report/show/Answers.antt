use Rattle.std.proofs.Common.{rules}
use Rattle.pip_commands.proofs.Reports.{shows_cut, shows_settled}
use Rattle.pip_commands.proofs.commands.run.report.Report.show.Goals as goal

pub returns-in_err-give-clause-shows : goal.returns-in_err-give-clause-shows
returns-in_err-give-clause-shows g c = λ i b.
    shows_cut c.give.result _ c.args.self i c.args.count c.args.seed (g.K.Sink.history c.args.sink.now).written
    (g.K.Sink.history c.give.new.sink).written c.give.new.loaded.machine (search rules) (search rules)
    (c.give.ensures.shows i b)

pub returns-clause-shows : goal.returns-clause-shows
returns-clause-shows g c = λ i b.
    shows_settled c.give.result _ c.args.self i c.args.count c.args.seed (g.K.Sink.history c.args.sink.now).written
    (g.K.Sink.history c.give.new.sink).written (g.K.Sink.history c.flush.new.self).written c.give.new.loaded.machine
    (search rules) (c.give.ensures.shows i b)
    c.flush.ensures.kept c.flush.ensures.some
