use Rattle.std.proofs.Common.{rules}
use Rattle.pip_children.proofs.Monitoring.{children_settled, children_unsettled}
use Rattle.pip_children.proofs.showing.show.Goals as goal

pub returns-in_err-give-clause-shows : goal.returns-in_err-give-clause-shows
returns-in_err-give-clause-shows g c = λ i b.
    children_unsettled c.give.result _ (g.R.Scheduling.schedule c.args.scheduling) i c.args.n
    (g.K.Sink.history c.args.sink.now).written
    (g.K.Sink.history c.give.new.sink).written c.give.new.loaded.machine (search rules) (search rules)
    (c.give.ensures.shows i b)

pub returns-clause-shows : goal.returns-clause-shows
returns-clause-shows g c = λ i b.
    children_settled c.give.result _ (g.R.Scheduling.schedule c.args.scheduling) i c.args.n
    (g.K.Sink.history c.args.sink.now).written
    (g.K.Sink.history c.give.new.sink).written (g.K.Sink.history c.flush.new.self).written c.give.new.loaded.machine
    (search rules) (c.give.ensures.shows i b)
    c.flush.ensures.kept c.flush.ensures.some
