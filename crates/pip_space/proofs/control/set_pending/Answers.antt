use Rattle.std.proofs.Common.{ap, ◌∙◌, sym, subst, length, ◌<◌}
use Rattle.pip_base.specs.Memory.{put_word}
use Rattle.pip_model.proofs.Frames.Descriptors.{part_frame}
use Rattle.pip_space.proofs.HeldControl.{pending_held}
use Rattle.pip_space.proofs.control.set_pending.Goals as goal

pub set_word-requires-clause-frame : goal.set_word-requires-clause-frame
set_word-requires-clause-frame g c =
    rw c.new.ensures (part_frame _ 1 c.requires)

pub returns-clause-tree : goal.returns-clause-tree
returns-clause-tree g c t js s laid rise value =
    pending_held _ t s laid js rise c.args.lines _ (rw (c.set_word.ensures.words, c.new.ensures)) value
