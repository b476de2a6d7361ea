use Rattle.std.proofs.Common.{◌∙◌}
use Rattle.pip_kern.proofs.Climb.{part_frame}
use Rattle.pip_dump.proofs.Heads.{head_is}
use Rattle.pip_dump.proofs.part.head_line.Goals as goal

pub word-born-requires-clause-frame : goal.word-born-requires-clause-frame
word-born-requires-clause-frame g c = part_frame (g.M.Frames.memory c.args.mem.now) c.args.place.now.part c.requires

pub word-tables-requires-clause-frame : goal.word-tables-requires-clause-frame
word-tables-requires-clause-frame g c = part_frame (g.M.Frames.memory c.args.mem.now) c.args.place.now.part c.requires

pub returns : goal.returns
returns g c t x s lays found deep =
    c.part_line.ensures
    ∙ head_is t s (g.M.Frames.memory c.args.mem.now) lays c.args.place.now.part x found _ c.args.place.now.depth _ _ _ _
    c.number.ensures.same deep (c.number-2.ensures.same ∙ c.parent_of-up.ensures.parent t x s lays found)
    c.word-born.ensures.word c.word-tables.ensures.word (c.count_rows-rows.ensures t x s lays found)
