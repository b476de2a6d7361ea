use Rattle.std.proofs.Common.{◌≡◌, subst, ◌∙◌}
use Rattle.std.specs.Prelude.{flat_map}
use Rattle.pip_io.specs.Taken.{Appends, AppendsPart}
use Rattle.pip_model.specs.Dump.{head_text, row_text}
use Rattle.pip_io.proofs.Piecewise.{part_longer, wrote_of}
use Rattle.pip_dump.proofs.Pieces.{wrote_err}
use Rattle.pip_dump.proofs.part.part_text.Goals as goal

pub returns-in_err-write_all-clause-text : goal.returns-in_err-write_all-clause-text
returns-in_err-write_all-clause-text g c t x s lays found deep =
    let piece : c.as_bytes.result.now ≡ head_text t x =
    c.as_bytes.ensures.value ∙ (c.deref.ensures.0 ∙ c.head_line.ensures t x s lays found deep) in
    let part = part_longer _ _ (head_text t x) (flat_map (row_text t x) x.rows)
    (subst (λ text. AppendsPart (g.K.Sink.history c.args.sink.now).written
    (g.K.Sink.history c.write_all.new.sink).written
    text)
    piece c.in_err-write_all.ensures.prefix) in
    wrote_err _ _ _ c.from_residual.result c.from_residual.ensures.0 part

pub returns-clause-text : goal.returns-clause-text
returns-clause-text g c t x s lays found deep =
    let piece : c.as_bytes.result.now ≡ head_text t x =
    c.as_bytes.ensures.value ∙ (c.deref.ensures.0 ∙ c.head_line.ensures t x s lays found deep) in
    wrote_of _ _ _ (head_text t x) (flat_map (row_text t x) x.rows) c.rows_text.result
    (subst (λ text. Appends (g.K.Sink.history c.args.sink.now).written
    (g.K.Sink.history c.write_all.new.sink).written text)
    piece
    c.in_ok-write_all.ensures.whole)
    (c.rows_text.ensures.text t x s lays found)
