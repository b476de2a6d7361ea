use Rattle.std.proofs.Common.{◌∙◌}
use Rattle.pip_switch.proofs.Copied.{context_there}
use Rattle.pip_switch.proofs.blocks.read_context.Goals as goal

pub returns-clause-context : goal.returns-clause-context
returns-clause-context g c = c.context_of.ensures ∙ context_there (g.M.Frames.memory c.args.mem.now) c.frame.result.now
    c.args.block.frame
    c.args.block.index c.frame.ensures.words
