use Rattle.std.proofs.Common.{◌∙◌}
use Rattle.pip_model.proofs.Frames.Descriptors.{born_word, part_frame}
use Rattle.pip_kern.proofs.nodes.born_of.Goals as goal

pub word-requires-clause-frame : goal.word-requires-clause-frame
word-requires-clause-frame g c = part_frame _ c.args.part c.requires

pub returns-clause-born : goal.returns-clause-born
returns-clause-born g c t x s laid found = c.word.ensures.word ∙ born_word t s _ laid c.args.part x found
