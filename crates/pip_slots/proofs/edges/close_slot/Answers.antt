use Rattle.pip_slots.proofs.Making.{closed_taken}
use Rattle.pip_slots.proofs.Working.{closed_takes}
use Rattle.pip_slots.proofs.edges.close_slot.Goals as goal

pub returns-clause-acts : goal.returns-clause-acts
returns-clause-acts g c = λ w h. closed_taken w c.args.t c.args.here (c.requires.here w h)
    (g.P.Port.stands c.poll-outcome.new.self) (g.K.Sink.history c.args.sink.now).written
    (g.K.Sink.history c.write_moved.new.sink).written c.write_moved.result c.poll-outcome.result c.if-here.false
    (c.poll-outcome.ensures.event _ (c.raise.ensures.event w h).1) c.write_moved.ensures.wrote

pub returns-clause-work : goal.returns-clause-work
returns-clause-work g c = closed_takes _ _ c.args.t c.args.here _ _ _ c.requires.here c.if-here.false
    c.raise.ensures.event c.raise.ensures.work c.poll-outcome.ensures.work
