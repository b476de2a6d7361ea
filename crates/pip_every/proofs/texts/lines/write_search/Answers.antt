use Rattle.std.proofs.Common.{rules, ◌≡◌, arith, length, subst}
use Rattle.std.proofs.lemmas.Result.{MatchResult-from_err}
use Rattle.pip_io.specs.Taken.{Wrote}
use Rattle.pip_every.specs.Texts.{verdict_line}
use Rattle.pip_io.proofs.Piecewise.{part_longer, wrote_of}
use Rattle.pip_every.proofs.texts.lines.write_search.Goals as goal

pub returns : goal.returns
returns g c = record {
  wrote = let count : c.len.result ≡ length c.args.search.now.visits.items = omega (arith, c.len.ensures) in
      wrote_of _ _ _ _ _ c.write_verdict.result c.in_ok-write_labels.ensures.wrote
      (subst (λ n. Wrote c.write_verdict.result (g.K.Sink.history c.write_labels.new.sink).written
      (g.K.Sink.history c.write_verdict.new.sink).written (verdict_line n c.args.verdict)) count
      c.write_verdict.ensures.wrote);
  cause = search rules;
}

pub returns-in_err-write_labels : goal.returns-in_err-write_labels
returns-in_err-write_labels g c = record {
  wrote = MatchResult-from_err c.from_residual.result _ _ c.from_residual.ensures.0 (λ _.
      part_longer _ _ _ _ c.in_err-write_labels.ensures.wrote);
  cause = search rules;
}
