use Rattle.std.proofs.Common.{rules, ◌∙◌}
use Rattle.std.proofs.lemmas.Option.{slice_get-get_or}
use Rattle.std.proofs.lemmas.Result.{MatchResult-from_err}
use Rattle.pip_io.proofs.Piecewise.{cut_here, one_more}
use Rattle.pip_apart.specs.Texts.{spaced}
use Rattle.pip_apart.proofs.text.write_processors.Goals as goal

pub returns-in_err-write_processor : goal.returns-in_err-write_processor
returns-in_err-write_processor g c = record {
  wrote = MatchResult-from_err c.from_residual.result _ _ c.from_residual.ensures.0 (λ _.
      cut_here spaced _ _ _ c.args.cpus.now c.loop-k.k _
      (slice_get-get_or c.args.cpus.now c.loop-k.k _ c.loop-k-test.true) c.loop-k.invariant.wrote
      c.in_err-write_processor.ensures.wrote);
  cause = search rules;
}

pub loop-k-preserved : goal.loop-k-preserved
loop-k-preserved g c = record {
  wrote = one_more spaced _ _ _ c.args.cpus.now c.loop-k.k _
      (slice_get-get_or c.args.cpus.now c.loop-k.k _ c.loop-k-test.true) c.loop-k.invariant.wrote
      c.in_ok-write_processor.ensures.wrote;
  no_faults = c.in_ok-write_processor.ensures.cause.no_faults ∙ c.loop-k.invariant.no_faults;
}
