use Rattle.std.proofs.Common.{rules, ◌∙◌}
use Rattle.std.proofs.lemmas.Result.{MatchResult-from_err}
use Rattle.pip_certificates.specs.Entries.{byte_digits}
use Rattle.pip_certificates.proofs.Pieces.{piece_cut, piece_more}
use Rattle.pip_certificates.proofs.writing.write_digits.Goals as goal

pub returns-in_err-write_piece : goal.returns-in_err-write_piece
returns-in_err-write_piece g c = record {
  wrote = MatchResult-from_err c.from_residual.result _ _ c.from_residual.ensures.0 (λ _.
      piece_cut byte_digits _ _ _ c.loop-rest.rest.now c.args.bytes.now c.split_at.result.0.now
      c.split_at.result.1.now (search rules) c.loop-rest.invariant.wrote c.in_err-write_piece.ensures.wrote);
  cause = search rules;
}

pub loop-rest-preserved : goal.loop-rest-preserved
loop-rest-preserved g c = record {
  wrote = piece_more byte_digits _ _ _ c.loop-rest.rest.now c.args.bytes.now c.split_at.result.0.now
      c.split_at.result.1.now (search rules) c.loop-rest.invariant.wrote c.in_ok-write_piece.ensures.wrote;
  no_faults = c.in_ok-write_piece.ensures.cause.no_faults ∙ c.loop-rest.invariant.no_faults;
}
