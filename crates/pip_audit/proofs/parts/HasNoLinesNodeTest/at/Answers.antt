use Rattle.std.proofs.Common.{◌%◌, ◌==◌, ap, ◌∙◌}
use Rattle.std.specs.Prelude.{slice_index}
use Rattle.pip_base.specs.Memory.{word_at}
use Rattle.pip_audit.proofs.EachNode.{lines_told}
use Rattle.pip_audit.proofs.parts.HasNoLinesNodeTest.at.Goals as goal

pub returns-clause-says : goal.returns-clause-says
returns-clause-says g c =
    let m = g.M.Frames.memory c.args.mem.now in
    ap (λ w. w % 65536 == 0) (c.word.ensures.word ∙ ap (λ f. word_at m f 15) c.name.ensures.name)
    ∙ lines_told m (slice_index c.args.a.now.names.items c.args.x)
