use Rattle.std.proofs.Common.{ap, ◌∙◌, ◌/◌}
use Rattle.pip_kern.proofs.Climb.{part_frame}
use Rattle.pip_dump.proofs.Heads.{born_word}
use Rattle.pip_dump.proofs.place.birthplace.Goals as goal

pub word-requires-clause-frame : goal.word-requires-clause-frame
word-requires-clause-frame g c = part_frame (g.M.Frames.memory c.args.mem.now) c.args.part c.requires

pub returns : goal.returns
returns g c t x s lays found = c.of_address.ensures ∙ ap (λ w. w / 4096) (c.word.ensures.word
    ∙ born_word t s (g.M.Frames.memory c.args.mem.now) lays c.args.part x found)
