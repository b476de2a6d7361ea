use Rattle.std.proofs.Common.{rules, ◌∙◌}
use Rattle.std.proofs.lemmas.Option.{slice_get-get_or}
use Rattle.std.proofs.lemmas.Result.{MatchResult-from_err}
use Rattle.pip_search_commands.proofs.SaidLines.{counts_cut, counts_next}
use Rattle.pip_search_commands.proofs.commands.against.comes.write_counts.Goals as goal

pub returns-in_err-write_windows : goal.returns-in_err-write_windows
returns-in_err-write_windows g c = record {
  wrote = MatchResult-from_err c.from_residual.result _ _ c.from_residual.ensures.0 (λ _.
      counts_cut c.args.cpus c.args.lines.now _ _ _ c.args.counts.now c.loop-class.class _
      (slice_get-get_or c.args.counts.now c.loop-class.class _ c.loop-class-test.true) c.loop-class.invariant.wrote
      c.in_err-write_windows.ensures.wrote);
  cause = search rules;
}

pub loop-class-preserved : goal.loop-class-preserved
loop-class-preserved g c = record {
  wrote = counts_next c.args.cpus c.args.lines.now _ _ _ c.args.counts.now c.loop-class.class _
      (slice_get-get_or c.args.counts.now c.loop-class.class _ c.loop-class-test.true) c.loop-class.invariant.wrote
      c.in_ok-write_windows.ensures.wrote;
  no_faults = c.in_ok-write_windows.ensures.cause.no_faults ∙ c.loop-class.invariant.no_faults;
}
