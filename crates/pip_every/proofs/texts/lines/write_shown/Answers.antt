use Rattle.std.proofs.Common.{rules, subst}
use Rattle.std.proofs.lemmas.Result.{MatchResult-from_err}
use Rattle.pip_io.specs.Taken.{Appends, AppendsPart}
use Rattle.pip_io.proofs.Taken.{Appends-trans}
use Rattle.pip_io.proofs.Piecewise.{part_after, part_longer, wrote_after}
use Rattle.pip_every.proofs.texts.lines.write_shown.Goals as goal

pub returns-in_err-write_number : goal.returns-in_err-write_number
returns-in_err-write_number g c = record {
  wrote = MatchResult-from_err c.from_residual.result _ _ c.from_residual.ensures.0 (λ _.
      part_longer _ _ _ _
      (part_longer _ _ _ _ c.in_err-write_number.ensures.wrote));
  cause = search rules;
}

pub returns : goal.returns
returns g c = record {
  wrote = wrote_after _ _ _ _ _ c.write_all-2.result
      (Appends-trans _ _ _ _ _ c.in_ok-write_number.ensures.wrote
      (subst (Appends (g.K.Sink.history c.write_number.new.sink).written
      (g.K.Sink.history c.write_all.new.sink).written)
      c.inner.ensures c.in_ok-write_all.ensures.whole))
      c.write_all-2.ensures.whole c.write_all-2.ensures.prefix;
  cause = search rules;
}

pub returns-in_err-write_all : goal.returns-in_err-write_all
returns-in_err-write_all g c = record {
  wrote = MatchResult-from_err c.from_residual-in_err-write_all.result _ _
      c.from_residual-in_err-write_all.ensures.0 (λ _.
      part_longer _ _ _ _ (part_after _ _ _ _ _ c.in_ok-write_number.ensures.wrote
      (subst (AppendsPart (g.K.Sink.history c.write_number.new.sink).written
      (g.K.Sink.history c.write_all.new.sink).written)
      c.inner.ensures c.in_err-write_all.ensures.prefix)));
  cause = search rules;
}
