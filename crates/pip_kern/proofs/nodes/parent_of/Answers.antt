use Rattle.std.proofs.Common.{sym, subst, ◌∙◌, ◌<◌, ◌^◌}
use Rattle.pip_model.specs.Partitions.{HasPartition}
use Rattle.pip_kern.proofs.Climb.{parent_stands, part_frame, part_small, up_word}
use Rattle.pip_kern.proofs.nodes.parent_of.Goals as goal

pub word-requires-clause-frame : goal.word-requires-clause-frame
word-requires-clause-frame g c = part_frame (g.M.Frames.memory c.args.mem.now) c.args.part c.requires

pub new-requires : goal.new-requires
new-requires g c =
    let m = g.M.Frames.memory c.args.mem.now in
    rw c.word.ensures.word (part_small m _ (parent_stands m c.args.part c.requires))

pub returns-clause-parent : goal.returns-clause-parent
returns-clause-parent g c t x s lays is =
    c.new.ensures ∙ (c.word.ensures.word ∙ up_word t s (g.M.Frames.memory c.args.mem.now) lays c.args.part x is)

pub returns-clause-stands : goal.returns-clause-stands
returns-clause-stands g c =
    let m = g.M.Frames.memory c.args.mem.now in
    rw (c.new.ensures, c.word.ensures.word) (parent_stands m c.args.part c.requires)
