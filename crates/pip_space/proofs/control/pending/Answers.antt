use Rattle.std.proofs.Common.{ap, ◌∙◌, sym, subst, length, ◌<◌}
use Rattle.pip_base.specs.Memory.{word_at}
use Rattle.pip_model.proofs.Frames.Descriptors.{part_frame}
use Rattle.pip_space.proofs.HeldControl.{pending_told}
use Rattle.pip_space.proofs.control.pending.Goals as goal

pub word-requires-clause-frame : goal.word-requires-clause-frame
word-requires-clause-frame g c =
    rw c.new.ensures (part_frame _ 1 c.requires)

pub returns-clause-lines : goal.returns-clause-lines
returns-clause-lines g c t s laid = pending_told _ t s laid c.word.result
    (rw (c.word.ensures.word, c.new.ensures))
