use Rattle.std.proofs.Common.{rules, ◌∙◌}
use Rattle.std.proofs.lemmas.Option.{slice_get-get_or}
use Rattle.std.proofs.lemmas.Result.{MatchResult-from_err}
use Rattle.pip_io.proofs.Piecewise.{cut_here, one_more}
use Rattle.pip_every.specs.Texts.{spaced_run}
use Rattle.pip_every.proofs.texts.words.write_way.Goals as goal

pub returns-in_err-write_run : goal.returns-in_err-write_run
returns-in_err-write_run g c = record {
  wrote = MatchResult-from_err c.from_residual.result _ _ c.from_residual.ensures.0 (λ _.
      cut_here (spaced_run c.args.cpus c.args.lines.now) _ _ _ c.args.way.now c.loop-k.k _
      (slice_get-get_or c.args.way.now c.loop-k.k _ c.loop-k-test.true) c.loop-k.invariant.wrote
      c.in_err-write_run.ensures.wrote);
  cause = search rules;
}

pub loop-k-preserved : goal.loop-k-preserved
loop-k-preserved g c = record {
  wrote = one_more (spaced_run c.args.cpus c.args.lines.now) _ _ _ c.args.way.now c.loop-k.k _
      (slice_get-get_or c.args.way.now c.loop-k.k _ c.loop-k-test.true) c.loop-k.invariant.wrote
      c.in_ok-write_run.ensures.wrote;
  no_faults = c.in_ok-write_run.ensures.cause.no_faults ∙ c.loop-k.invariant.no_faults;
}
