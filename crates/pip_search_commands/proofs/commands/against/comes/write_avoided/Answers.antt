use Rattle.std.proofs.Common.{rules, ◌++◌}
use Rattle.std.specs.Prelude.{codes, flat_map}
use Rattle.std.proofs.lemmas.Result.{MatchResult-from_err}
use Rattle.pip_every.specs.Texts.{spaced_run}
use Rattle.pip_io.proofs.Piecewise.{part_after, part_longer, wrote_after, wrote_of}
use Rattle.pip_search_commands.proofs.commands.against.comes.write_avoided.Goals as goal

pub returns-in_err-write_runs : goal.returns-in_err-write_runs
returns-in_err-write_runs g c = record {
  wrote = MatchResult-from_err c.from_residual.result _ _ c.from_residual.ensures.0 (λ _.
      part_longer _ _ (codes ": no" ++ flat_map (spaced_run c.args.cpus c.args.lines.now) c.args.way.now) _
      c.in_err-write_runs.ensures.wrote);
  cause = search rules;
}

pub returns-in_err-write_runs-2 : goal.returns-in_err-write_runs-2
returns-in_err-write_runs-2 g c = record {
  wrote = MatchResult-from_err c.from_residual-in_err-write_runs-2.result _ _
      c.from_residual-in_err-write_runs-2.ensures.0 (λ _.
      part_after _ _ _ (codes ": no" ++ flat_map (spaced_run c.args.cpus c.args.lines.now) c.args.way.now) _
      c.in_ok-write_runs.ensures.wrote
      (part_longer _ _ (codes " :" ++ flat_map (spaced_run c.args.cpus c.args.lines.now) c.args.round.now) _
      c.in_err-write_runs-2.ensures.wrote));
  cause = search rules;
}

pub returns : goal.returns
returns g c = record {
  wrote = wrote_of _ _ _ (codes ": no" ++ flat_map (spaced_run c.args.cpus c.args.lines.now) c.args.way.now) _
      c.write_all.result c.in_ok-write_runs.ensures.wrote
      (wrote_after _ _ _ (codes " :" ++ flat_map (spaced_run c.args.cpus c.args.lines.now) c.args.round.now)
      (codes "\n") c.write_all.result c.in_ok-write_runs-2.ensures.wrote c.write_all.ensures.whole
      c.write_all.ensures.prefix);
  cause = search rules;
}
