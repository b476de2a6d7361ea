use Rattle.std.proofs.Common.{◌∙◌}
use Rattle.pip_space.proofs.RootWords.{part_inside, read_tables}
use Rattle.pip_space.proofs.reads.table_count.Goals as goal

pub word-requires-clause-frame : goal.word-requires-clause-frame
word-requires-clause-frame g c = let n = c.requires in part_inside _ n.node n.cells n.is_in c.args.part n.name

pub returns-clause-tables : goal.returns-clause-tables
returns-clause-tables g c x cells node name = c.word.ensures.word ∙ read_tables _ x cells node c.args.part name
