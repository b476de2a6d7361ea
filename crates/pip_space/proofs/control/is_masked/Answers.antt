use Rattle.pip_model.proofs.Frames.Descriptors.{part_frame}
use Rattle.pip_space.proofs.HeldControl.{masked_told}
use Rattle.pip_space.proofs.control.is_masked.Goals as goal

pub word-requires-clause-frame : goal.word-requires-clause-frame
word-requires-clause-frame g c = part_frame _ c.args.part c.requires

pub returns-clause-masked : goal.returns-clause-masked
returns-clause-masked g c t x s laid found =
    masked_told _ c.args.part t x s laid found c.word.result c.word.ensures.word
