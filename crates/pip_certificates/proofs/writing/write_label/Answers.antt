use Rattle.std.proofs.Common.{rules}
use Rattle.std.specs.Prelude.{codes}
use Rattle.std.proofs.lemmas.Result.{MatchResult-from_err}
use Rattle.pip_io.proofs.Taken.{Appends-trans}
use Rattle.pip_io.proofs.Piecewise.{part_after, part_longer, wrote_after}
use Rattle.pip_certificates.proofs.writing.write_label.Goals as goal

pub returns-in_err-write_all : goal.returns-in_err-write_all
returns-in_err-write_all g c = record {
  wrote = MatchResult-from_err c.from_residual.result _ _ c.from_residual.ensures.0 (λ _.
      part_longer _ _ (codes "line") _ c.in_err-write_all.ensures.prefix);
  cause = search rules;
}

pub returns-in_err-write_all-2 : goal.returns-in_err-write_all-2
returns-in_err-write_all-2 g c = record {
  wrote = MatchResult-from_err c.from_residual-in_err-write_all-2.result _ _
      c.from_residual-in_err-write_all-2.ensures.0 (λ _.
      part_after _ _ _ (codes "line") _ c.in_ok-write_all.ensures.whole
      (part_longer _ _ _ _ (rw c.inner.ensures at c.in_err-write_all-2.ensures.prefix)));
  cause = search rules;
}

pub returns : goal.returns
returns g c = record {
  wrote = wrote_after _ _ _ _ _ c.write_all-3.result
      (Appends-trans _ _ _ (codes "line") _ c.in_ok-write_all.ensures.whole
      (rw (← c.inner.ensures) c.in_ok-write_all-2.ensures.whole))
      c.write_all-3.ensures.whole c.write_all-3.ensures.prefix;
  cause = search rules;
}
