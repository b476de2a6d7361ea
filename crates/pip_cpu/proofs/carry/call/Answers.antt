use Rattle.pip_cpu.proofs.Carrying.{called}
use Rattle.pip_cpu.proofs.Working.{call_takes}
use Rattle.pip_cpu.proofs.carry.call.Goals as goal

pub returns-clause-acts : goal.returns-clause-acts
returns-clause-acts g c = λ w h. called _ _ _ w _ _ _ _ _ _ (c.requires.next w h) (c.set_pc.ensures.event w h) _ _ _
    (c.arguments_of-args.ensures w h) c.call-outcome.ensures.event c.write_call.ensures.wrote

pub returns-clause-work : goal.returns-clause-work
returns-clause-work g c = call_takes _ c.args.at.t c.args.at.cpu _ _ _ c.args.at.next c.set_pc.ensures.event
    c.requires.next
    c.args.number _ c.arguments_of-args.ensures c.call-outcome.ensures.work
