use Rattle.pip_asm.proofs.Keeping.{all_joined, finished}
use Rattle.pip_asm.proofs.assembler.assemble.Goals as goal

pub returns-in-Ok : goal.returns-in-Ok
returns-in-Ok c = finished (λ v. v.items) c.args.text.now c.in-Ok.passed c.finish.result
    (all_joined c.args.text.now c.in-Ok.passed c.in-Ok.ensures.same c.in-Ok.ensures.bytes) c.finish.ensures
