use Rattle.std.proofs.Common.{rules, ◌++◌, subst}
use Rattle.std.specs.Prelude.{codes, flat_map}
use Rattle.std.proofs.lemmas.Result.{MatchResult-from_err}
use Rattle.pip_io.specs.Taken.{Appends, AppendsPart}
use Rattle.pip_every.specs.Texts.{spaced_run}
use Rattle.pip_io.proofs.Piecewise.{part_after, part_longer, wrote_after, wrote_of}
use Rattle.pip_search_commands.proofs.commands.against.again.write_words.Goals as goal

pub returns-in_err-write_all-in-Lost : goal.returns-in_err-write_all-in-Lost
returns-in_err-write_all-in-Lost g c = record {
  wrote = rw c.in-Lost.is (MatchResult-from_err c.from_residual.result _ _ c.from_residual.ensures.0
      (λ _. part_longer _ _ (codes ": no") _ c.in_err-write_all-in-Lost.ensures.prefix));
  cause = search rules;
}

pub returns-in_err-write_way-in-Lost : goal.returns-in_err-write_way-in-Lost
returns-in_err-write_way-in-Lost g c = record {
  wrote = rw c.in-Lost.is (MatchResult-from_err c.from_residual-in_err-write_way-in-Lost.result _ _
      c.from_residual-in_err-write_way-in-Lost.ensures.0
      (λ _. part_after _ _ _ (codes ": no") _ c.in_ok-write_all-in-Lost.ensures.whole
      (part_longer _ _ (flat_map (spaced_run c.args.cpus c.args.lines.now) c.in-Lost.way.items) (codes "\n")
      (subst (λ rs. AppendsPart (g.K.Sink.history c.write_all-in-Lost.new.sink).written
      (g.K.Sink.history c.write_way.new.sink).written (flat_map (spaced_run c.args.cpus c.args.lines.now) rs))
      c.as_slice.ensures.value c.in_err-write_way-in-Lost.ensures.wrote))));
  cause = search rules;
}

pub returns-in_ok-write_way-in-Lost : goal.returns-in_ok-write_way-in-Lost
returns-in_ok-write_way-in-Lost g c = record {
  wrote = rw c.in-Lost.is (wrote_of _ _ _ (codes ": no")
      (flat_map (spaced_run c.args.cpus c.args.lines.now) c.in-Lost.way.items ++ codes "\n")
      c.write_all-in-Lost-2.result c.in_ok-write_all-in-Lost.ensures.whole
      (wrote_after _ _ _ (flat_map (spaced_run c.args.cpus c.args.lines.now) c.in-Lost.way.items) (codes "\n")
      c.write_all-in-Lost-2.result (subst (λ rs. Appends (g.K.Sink.history c.write_all-in-Lost.new.sink).written
      (g.K.Sink.history c.write_way.new.sink).written (flat_map (spaced_run c.args.cpus c.args.lines.now) rs))
      c.as_slice.ensures.value c.in_ok-write_way-in-Lost.ensures.wrote) c.write_all-in-Lost-2.ensures.whole
      c.write_all-in-Lost-2.ensures.prefix));
  cause = search rules;
}
