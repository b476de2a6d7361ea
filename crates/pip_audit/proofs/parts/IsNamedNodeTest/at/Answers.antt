use Rattle.std.proofs.Common.{◌==◌, ap, ap₂, ◌∙◌}
use Rattle.std.specs.Prelude.{slice_index}
use Rattle.pip_base.specs.Memory.{word_at}
use Rattle.pip_audit.proofs.Lends.{name_told}
use Rattle.pip_audit.proofs.parts.IsNamedNodeTest.at.Goals as goal

pub returns-clause-says : goal.returns-clause-says
returns-clause-says g c =
    let m = g.M.Frames.memory c.args.mem.now in
    let name = c.name-part.ensures.name in
    ap₂ (λ w n. w == n) (c.word.ensures.word ∙ ap (λ f. word_at m f 1) name) (c.number.ensures.same ∙ name)
    ∙ name_told m (slice_index c.args.a.now.names.items c.args.x)
