use Rattle.std.proofs.Common.{◌++◌, subst, ◌∙◌, get_or}
use Rattle.std.specs.Prelude.{codes, decimal}
use Rattle.pip_io.proofs.Taken.{Appends-nil}
use Rattle.pip_io.specs.Taken.{Appends, AppendsPart, Wrote}
use Rattle.pip_model.specs.Text.{line_text}
use Rattle.pip_dump.proofs.Groups.{frame_none, frame_some, tells_none, tells_one}
use Rattle.pip_io.proofs.Piecewise.{part_longer, wrote_of}
use Rattle.pip_dump.proofs.Pieces.{wrote_err}
use Rattle.pip_dump.proofs.frames.words_text.Goals as goal

pub returns-in_default-clause-text : goal.returns-in_default-clause-text
returns-in_default-clause-text g c =
    subst (Appends (g.K.Sink.history c.args.sink.now).written (g.K.Sink.history c.args.sink.now).written)
    (frame_none c.args.f
    (λ i. get_or c.args.words.now i 0) (tells_none c.args.words.now c.in_default.ensures)) (Appends-nil _)

pub returns-in_err-write_all-clause-text : goal.returns-in_err-write_all-clause-text
returns-in_err-write_all-clause-text g c =
    let piece = c.as_bytes.ensures.value ∙ (c.deref.ensures.0 ∙ c.frame_line.ensures) in
    let whole =
    frame_some c.args.f (λ i. get_or c.args.words.now i 0) (let (above, inside, zeros, some) = c.in-Some.ensures in
    tells_one c.args.words.now c.in-Some.first inside some) in
    wrote_err _ _ _ c.from_residual.result c.from_residual.ensures.0
    (subst (AppendsPart (g.K.Sink.history c.args.sink.now).written
    (g.K.Sink.history c.write_all.new.sink).written) whole
    (part_longer _
    _ (line_text (codes "frame " ++ decimal c.args.f)) _ (subst (AppendsPart (g.K.Sink.history c.args.sink.now).written
    (g.K.Sink.history c.write_all.new.sink).written) piece c.in_err-write_all.ensures.prefix)))

pub returns-clause-text : goal.returns-clause-text
returns-clause-text g c =
    let piece = c.as_bytes.ensures.value ∙ (c.deref.ensures.0 ∙ c.frame_line.ensures) in
    let whole =
    frame_some c.args.f (λ i. get_or c.args.words.now i 0) (let (above, inside, zeros, some) = c.in-Some.ensures in
    tells_one c.args.words.now c.in-Some.first inside some) in
    subst (λ text. Wrote c.groups_text.result (g.K.Sink.history c.args.sink.now).written
    (g.K.Sink.history c.groups_text.new.sink).written text) whole
    (wrote_of _ _ _ _ _ c.groups_text.result (subst (Appends (g.K.Sink.history c.args.sink.now).written
    (g.K.Sink.history c.write_all.new.sink).written) piece c.in_ok-write_all.ensures.whole) c.groups_text.ensures.text)
