use Rattle.std.proofs.Common.{rules}
use Rattle.std.proofs.lemmas.Result.{MatchResult-from_err}
use Rattle.pip_io.proofs.Taken.{Appends-trans}
use Rattle.pip_io.proofs.Piecewise.{part_after, part_longer, wrote_after}
use Rattle.pip_every.proofs.texts.lines.write_label.Goals as goal

pub returns-in_err-write_shown : goal.returns-in_err-write_shown
returns-in_err-write_shown g c = record {
  wrote = MatchResult-from_err c.from_residual.result _ _ c.from_residual.ensures.0 (λ _.
      part_longer _ _ _ _
      (part_longer _ _ _ _ c.in_err-write_shown.ensures.wrote));
  cause = search rules;
}

pub returns : goal.returns
returns g c = record {
  wrote = wrote_after _ _ _ _ _ c.write_all.result
      (Appends-trans _ _ _ _ _ c.in_ok-write_shown.ensures.wrote c.in_ok-write_way.ensures.wrote)
      c.write_all.ensures.whole c.write_all.ensures.prefix;
  cause = search rules;
}

pub returns-in_err-write_way : goal.returns-in_err-write_way
returns-in_err-write_way g c = record {
  wrote = MatchResult-from_err c.from_residual-in_err-write_way.result _ _
      c.from_residual-in_err-write_way.ensures.0 (λ _.
      part_longer _ _ _ _ (part_after _ _ _ _ _ c.in_ok-write_shown.ensures.wrote c.in_err-write_way.ensures.wrote));
  cause = search rules;
}
