use Rattle.std.proofs.Common.{length, subst}
use Rattle.std.proofs.lemmas.Result.{MatchResult-from_err}
use Rattle.pip_cpu.proofs.Makings.{before_line, after_line, cut_before, cut_after_line, cut_line}
use Rattle.pip_io.specs.Taken.{Appends, AppendsPart}
use Rattle.pip_model.specs.Run.{trace_image_line}
use Rattle.pip_lines.proofs.tracing.trace.Goals as goal

pub returns-in_err-write_image-clause-acts : goal.returns-in_err-write_image-clause-acts
returns-in_err-write_image-clause-acts g c = λ w h.
    MatchResult-from_err c.from_residual.result _ _ c.from_residual.ensures.0 (λ _.
    let first = subst (λ n. AppendsPart (g.K.Sink.history c.args.sink.now).written
    (g.K.Sink.history c.write_image.new.sink).written
    (trace_image_line c.args.image.frames n (length c.args.lines.now) c.args.image.pages)) c.cpus.ensures
    c.in_err-write_image.ensures.wrote in
    cut_line _ _ _ w _ _ h first)

pub returns-clause-acts : goal.returns-clause-acts
returns-clause-acts g c = λ w h.
    let first = subst (λ n. Appends (g.K.Sink.history c.args.sink.now).written
    (g.K.Sink.history c.write_image.new.sink).written
    (trace_image_line c.args.image.frames n (length c.args.lines.now) c.args.image.pages)) c.cpus.ensures
    c.in_ok-write_image.ensures.wrote in
    after_line _ _ _ _ w c.write_end.result _ _ first
    (before_line _ _ _ _ w c.write_end.result _ _ (c.in_ok-run_lines.ensures.acts w h) c.write_end.ensures.wrote)

pub returns-in_err-run_lines-clause-acts : goal.returns-in_err-run_lines-clause-acts
returns-in_err-run_lines-clause-acts g c = λ w h.
    MatchResult-from_err c.from_residual-in_err-run_lines.result _ _ c.from_residual-in_err-run_lines.ensures.0 (λ _.
    let first = subst (λ n. Appends (g.K.Sink.history c.args.sink.now).written
    (g.K.Sink.history c.write_image.new.sink).written
    (trace_image_line c.args.image.frames n (length c.args.lines.now) c.args.image.pages)) c.cpus.ensures
    c.in_ok-write_image.ensures.wrote in
    cut_after_line _ _ _ _ w _ _ first (cut_before _ _ _ w _ _ (c.in_err-run_lines.ensures.acts w h)))
