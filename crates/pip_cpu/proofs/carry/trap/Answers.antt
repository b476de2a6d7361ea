use Rattle.pip_cpu.proofs.Carrying.{trapped}
use Rattle.pip_cpu.proofs.Working.{trap_takes}
use Rattle.pip_cpu.proofs.carry.trap.Goals as goal
use Rattle.pip_model.specs.Worlds.{ctx_on}

pub returns-clause-acts : goal.returns-clause-acts
returns-clause-acts g c = λ w h.
    trapped _ _ _ w _ _ (ctx_on w c.args.at.cpu) _ _ _ _ _ (c.trap-outcome.ensures.event w h)
    c.write_moved.ensures.wrote

pub returns-clause-work : goal.returns-clause-work
returns-clause-work g c = trap_takes _ c.args.at.t c.args.at.cpu _ _ c.args.vector c.args.a c.args.b
    c.trap-outcome.ensures.work
