use Rattle.std.proofs.Common.{rules}
use Rattle.pip_asm.proofs.Marking.{near}
use Rattle.pip_asm.proofs.reading.Passed.begin.Goals as goal

pub is_marked-requires-clause-near : goal.is_marked-requires-clause-near
is_marked-requires-clause-near c = near c.args.self.now.frames c.args.page c.requires.proper.frames.1 (search rules)

pub open-requires-clause-near : goal.open-requires-clause-near
open-requires-clause-near c = near c.args.self.now.frames c.args.page c.requires.proper.frames.1 (search rules)
