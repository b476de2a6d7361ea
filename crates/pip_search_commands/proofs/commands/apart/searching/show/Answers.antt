use Rattle.std.proofs.Common.{rules}
use Rattle.pip_search_commands.specs.ApartSearches.{knowledge_text}
use Rattle.pip_search_commands.proofs.Searched.{show_cut, show_settled}
use Rattle.pip_search_commands.proofs.commands.apart.searching.show.Goals as goal

pub returns-in_err-give-clause-wrote : goal.returns-in_err-give-clause-wrote
returns-in_err-give-clause-wrote g c =
    show_cut c.from_residual.result (g.K.Sink.history c.args.sink.now).written
    (g.K.Sink.history c.give.new.sink).written
    (knowledge_text c.args.head.now c.args.known.now) (search rules) c.in_err-give.ensures.wrote

pub returns-clause-wrote : goal.returns-clause-wrote
returns-clause-wrote g c =
    show_settled c.flush.result (g.K.Sink.history c.args.sink.now).written (g.K.Sink.history c.give.new.sink).written
    (g.K.Sink.history c.flush.new.self).written (knowledge_text c.args.head.now c.args.known.now)
    c.in_ok-give.ensures.wrote
    c.flush.ensures.kept c.flush.ensures.some
