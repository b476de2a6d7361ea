use Rattle.std.proofs.Common.{rules}
use Rattle.std.proofs.lemmas.Result.{MatchResult-from_err}
use Rattle.pip_certificates.specs.Seen.{merging_of}
use Rattle.pip_io.proofs.Piecewise.{part_longer, wrote_of}
use Rattle.pip_certificates.specs.MergeDues.{about_line}
use Rattle.pip_certificates.proofs.commands.merge.answers.write_front.Goals as goal

pub returns-in_err-write_about : goal.returns-in_err-write_about
returns-in_err-write_about g c =
    let m = merging_of c.args.merger.now in
    let a = (g.K.Sink.history c.args.sink.now).written in
    let b = (g.K.Sink.history c.write_about.new.sink).written in
    record {
      wrote = MatchResult-from_err c.from_residual.result _ _ c.from_residual.ensures.0 (λ _.
          part_longer _ _ (about_line m.parts.about) _ (rw (← c.about.ensures) c.in_err-write_about.ensures.wrote));
      cause = search rules;
    }

pub returns : goal.returns
returns g c =
    let m = merging_of c.args.merger.now in
    let a = (g.K.Sink.history c.args.sink.now).written in
    let b = (g.K.Sink.history c.write_about.new.sink).written in
    let d = (g.K.Sink.history c.write_labels.new.sink).written in
    record {
      wrote = wrote_of _ _ _ (about_line m.parts.about) _ c.write_labels.result
          (rw c.about.ensures at c.in_ok-write_about.ensures.wrote)
          (rw (← c.labels.ensures) c.write_labels.ensures.wrote);
      cause = search rules;
    }
