use Rattle.pip_slots.proofs.Making.{opened}
use Rattle.pip_slots.proofs.edges.open_slot.Goals as goal

pub returns-clause-acts : goal.returns-clause-acts
returns-clause-acts g c = λ w h. opened (g.P.Port.stands c.call-outcome.new.self)
    (g.K.Sink.history c.args.sink.now).written
    (g.K.Sink.history c.write_call.new.sink).written w c.write_call.result c.args.child c.args.t c.call-outcome.result
    (c.call-outcome.ensures.event w h) c.write_call.ensures.wrote
