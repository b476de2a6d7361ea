use Rattle.std.proofs.Common.{◌∙◌, arith}
use Rattle.pip_switch.proofs.Copied.{block_put}
use Rattle.pip_switch.proofs.blocks.write_context.Goals as goal

pub returns-clause-words : goal.returns-clause-words
returns-clause-words g c =
    g.met.M.Frames.puts c.args.mem.now c.args.block.frame c.put_context.new.words
    ∙ block_put (g.M.Frames.memory c.args.mem.now) c.args.block.frame c.args.block.index c.args.ctx.now.pc
    c.frame_mut-words.result.now
    c.put_context.new.words c.args.ctx.now.regs c.requires.inside c.put_context.ensures.registers
    c.frame_mut-words.ensures.words
    (omega (arith, c.requires.room, c.put_context.ensures.frame)) c.put_context.ensures.words
