use Rattle.pip_asm.proofs.Keeping.{head_long}
use Rattle.pip_asm.proofs.reading.Passed.finish.Goals as goal

pub finish-requires-clause-head : goal.finish-requires-clause-head
finish-requires-clause-head c = head_long c.end_page.new.self.written c.args.self.frames c.args.self.cpus
    c.args.self.plans.items c.in-Ok.ensures.front
