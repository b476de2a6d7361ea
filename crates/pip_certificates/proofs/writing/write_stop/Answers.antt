use Rattle.std.proofs.Common.{rules, ◌++◌, ◌∷◌, [], subst}
use Rattle.std.specs.Prelude.{flat_map}
use Rattle.std.proofs.lemmas.Result.{MatchResult-from_err}
use Rattle.pip_audit.specs.CoreTexts.{core_words}
use Rattle.pip_io.specs.Taken.{Appends, AppendsPart}
use Rattle.pip_certificates.specs.Entries.{byte_digits}
use Rattle.pip_io.proofs.Piecewise.{part_after, part_longer, wrote_of}
use Rattle.pip_certificates.proofs.Lines.{stop_bytes}
use Rattle.pip_certificates.proofs.writing.write_stop.Goals as goal

pub returns-in_err-write_digits : goal.returns-in_err-write_digits
returns-in_err-write_digits g c =
    rw (← stop_bytes c.args.kind.now c.args.key.now)
    (record {
      wrote = MatchResult-from_err c.from_residual.result _ _ c.from_residual.ensures.0
          (λ _. part_longer _ _ (flat_map byte_digits c.args.key.now.key.items) _
          (subst (λ b. AppendsPart (g.K.Sink.history c.args.sink.now).written
          (g.K.Sink.history c.write_digits.new.sink).written (flat_map byte_digits b)) c.deref.ensures.value
          c.in_err-write_digits.ensures.wrote));
      cause = search rules;
    })

pub returns-in_err-write_all : goal.returns-in_err-write_all
returns-in_err-write_all g c =
    rw (← stop_bytes c.args.kind.now c.args.key.now)
    (record {
      wrote = MatchResult-from_err c.from_residual-in_err-write_all.result _ _
          c.from_residual-in_err-write_all.ensures.0 (λ _. part_after _ _ _
          (flat_map byte_digits c.args.key.now.key.items) _
          (subst (λ b. Appends (g.K.Sink.history c.args.sink.now).written
          (g.K.Sink.history c.write_digits.new.sink).written (flat_map byte_digits b)) c.deref.ensures.value
          c.in_ok-write_digits.ensures.wrote) (part_longer _ _ c.args.kind.now _ c.in_err-write_all.ensures.prefix));
      cause = search rules;
    })

pub returns : goal.returns
returns g c =
    rw (← stop_bytes c.args.kind.now c.args.key.now)
    (record {
      wrote = wrote_of _ _ _ (flat_map byte_digits c.args.key.now.key.items) _ c.write_depth.result
          (subst (λ b. Appends (g.K.Sink.history c.args.sink.now).written
          (g.K.Sink.history c.write_digits.new.sink).written (flat_map byte_digits b)) c.deref.ensures.value
          c.in_ok-write_digits.ensures.wrote) (wrote_of _ _ _ c.args.kind.now
          (core_words (c.args.key.now.depth ∷ []) ++ 10 ∷ []) c.write_depth.result c.in_ok-write_all.ensures.whole
          c.write_depth.ensures.wrote);
      cause = search rules;
    })
