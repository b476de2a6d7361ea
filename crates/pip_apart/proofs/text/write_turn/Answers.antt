use Rattle.std.proofs.Common.{rules}
use Rattle.std.proofs.lemmas.Result.{MatchResult-from_err}
use Rattle.pip_io.proofs.Piecewise.{part_longer, wrote_of}
use Rattle.pip_apart.proofs.text.write_turn.Goals as goal

pub returns : goal.returns
returns g c = record {
  wrote = wrote_of _ _ _ _ _ c.write_plain.result c.in_ok-write_leaving.ensures.wrote
      (rw (← c.unmarked.ensures) c.write_plain.ensures.wrote);
  cause = search rules;
}

pub returns-in_err-write_leaving : goal.returns-in_err-write_leaving
returns-in_err-write_leaving g c = record {
  wrote = MatchResult-from_err c.from_residual.result _ _ c.from_residual.ensures.0 (λ _.
      part_longer _ _ _ _ c.in_err-write_leaving.ensures.wrote);
  cause = search rules;
}
