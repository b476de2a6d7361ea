use Rattle.pip_io.proofs.Taken.{on_err, over_some}
use Rattle.pip_io.proofs.gather.GathererSink.flush.Goals as goal

pub returns-in_err-hand_on-clause-some : goal.returns-in_err-hand_on-clause-some
returns-in_err-hand_on-clause-some g c = on_err _ _ (over_some _ _ c.in_err-hand_on.ensures.some)
