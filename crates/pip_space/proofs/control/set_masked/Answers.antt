use Rattle.pip_model.proofs.Frames.Descriptors.{part_frame}
use Rattle.pip_space.proofs.HeldControl.{masked_held}
use Rattle.pip_space.proofs.control.set_masked.Goals as goal

pub set_word-requires-clause-frame : goal.set_word-requires-clause-frame
set_word-requires-clause-frame g c = part_frame _ c.args.part c.requires

pub returns-clause-tree : goal.returns-clause-tree
returns-clause-tree g c t x s laid found = masked_held _ c.args.part t x s laid found c.args.masked c.flags_word.result
    _ c.set_word.ensures.words c.flags_word.ensures
