use Rattle.pip_cpu.proofs.Makings.{cut_line}
use Rattle.pip_cpu.proofs.carry.show.Goals as goal

pub returns-in-Err-clause-acts : goal.returns-in-Err-clause-acts
returns-in-Err-clause-acts g c = λ w h. cut_line _ _ _ w _ _ h c.in-Err.ensures.wrote
