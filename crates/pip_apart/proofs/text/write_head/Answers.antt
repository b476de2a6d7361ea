use Rattle.std.proofs.Common.{rules}
use Rattle.std.proofs.lemmas.Result.{MatchResult-from_err}
use Rattle.pip_io.proofs.Taken.{Appends-trans}
use Rattle.pip_io.proofs.Piecewise.{part_after, part_longer, wrote_after}
use Rattle.pip_apart.proofs.text.write_head.Goals as goal

pub returns-in_err-write_top : goal.returns-in_err-write_top
returns-in_err-write_top g c = record {
  wrote = MatchResult-from_err c.from_residual.result _ _ c.from_residual.ensures.0 (λ _.
      part_longer _ _ _ _ (part_longer _ _ _ _ c.in_err-write_top.ensures.wrote));
  cause = search rules;
}

pub returns : goal.returns
returns g c = record {
  wrote = wrote_after _ _ _ _ _ c.write_all.result
      (Appends-trans _ _ _ _ _ c.in_ok-write_top.ensures.wrote c.in_ok-write_processors.ensures.wrote)
      c.write_all.ensures.whole c.write_all.ensures.prefix;
  cause = search rules;
}

pub returns-in_err-write_processors : goal.returns-in_err-write_processors
returns-in_err-write_processors g c = record {
  wrote = MatchResult-from_err c.from_residual-in_err-write_processors.result _ _
      c.from_residual-in_err-write_processors.ensures.0 (λ _.
      part_longer _ _ _ _
      (part_after _ _ _ _ _ c.in_ok-write_top.ensures.wrote c.in_err-write_processors.ensures.wrote));
  cause = search rules;
}
