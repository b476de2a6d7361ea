use Rattle.pip_cpu.proofs.Carrying.{interrupted}
use Rattle.pip_cpu.proofs.Working.{interrupt_takes}
use Rattle.pip_cpu.proofs.carry.interrupt.Goals as goal

pub returns-clause-acts : goal.returns-clause-acts
returns-clause-acts g c = λ w h. interrupted _ _ _ w _ _ _ _ _ _ (c.requires.next w h) (c.set_pc.ensures.event w h) _ _
    c.trap-outcome.ensures.event c.write_moved.ensures.wrote

pub returns-clause-work : goal.returns-clause-work
returns-clause-work g c = interrupt_takes _ c.args.at.t c.args.at.cpu _ _ _ c.args.at.next c.set_pc.ensures.event
    c.requires.next
    c.args.vector c.trap-outcome.ensures.work
