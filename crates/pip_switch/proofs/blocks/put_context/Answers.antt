use Rattle.std.proofs.Common.{arith}
use Rattle.pip_switch.proofs.Copied.{context_put}
use Rattle.pip_switch.proofs.blocks.put_context.Goals as goal

pub returns-clause-words : goal.returns-clause-words
returns-clause-words c = context_put c.args.words.now c.copy_from_slice.new.self c.args.ctx.now.regs c.args.index
    c.args.ctx.now.pc (omega (arith, c.requires)) c.copy_from_slice.ensures.after
