use Rattle.std.proofs.Common.{arith}
use Rattle.pip_switch.proofs.Copied.{context_taken}
use Rattle.pip_switch.proofs.blocks.context_of.Goals as goal

pub returns : goal.returns
returns c = context_taken c.args.words.now c.copy_from_slice.new.self c.args.index
    (omega (arith, c.requires)) c.copy_from_slice.ensures.after
