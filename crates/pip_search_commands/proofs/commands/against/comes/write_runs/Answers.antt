use Rattle.std.proofs.Common.{rules}
use Rattle.std.proofs.lemmas.Result.{MatchResult-from_err}
use Rattle.pip_io.proofs.Piecewise.{part_longer, wrote_of}
use Rattle.pip_search_commands.proofs.commands.against.comes.write_runs.Goals as goal

pub returns-in_err-write_all : goal.returns-in_err-write_all
returns-in_err-write_all g c = record {
  wrote = MatchResult-from_err c.from_residual.result _ _ c.from_residual.ensures.0 (λ _.
      part_longer _ _ c.args.head.now _ c.in_err-write_all.ensures.prefix);
  cause = search rules;
}

pub returns : goal.returns
returns g c = record {
  wrote = wrote_of _ _ _ c.args.head.now _ c.write_way.result c.in_ok-write_all.ensures.whole c.write_way.ensures.wrote;
  cause = search rules;
}
