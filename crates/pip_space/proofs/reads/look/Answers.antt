use Rattle.pip_space.proofs.Tables.{packed_row}
use Rattle.pip_space.proofs.reads.look.Goals as goal

pub returns-clause-row : goal.returns-clause-row
returns-clause-row g c x rows space name =
    c.row_from.ensures (rows c.args.v) (packed_row _ x rows space c.args.v)
    (c.leaf_word-word.ensures.word x rows space name)
    (c.level_word-given.ensures.word x rows space name)
    (c.level_word-from.ensures.word x rows space name)
