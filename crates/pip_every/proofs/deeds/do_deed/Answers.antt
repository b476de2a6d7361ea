use Rattle.pip_every.proofs.Doing.{deed_done}
use Rattle.pip_every.proofs.deeds.do_deed.Goals as goal

pub returns-clause-acts : goal.returns-clause-acts
returns-clause-acts g c = λ w h.
    deed_done _ _ _ _ w _ _ _ (c.make_event-outcome.ensures.event w h) c.write_deed.ensures.wrote
