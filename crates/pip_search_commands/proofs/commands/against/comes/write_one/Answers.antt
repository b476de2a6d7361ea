use Rattle.std.proofs.Common.{rules}
use Rattle.std.specs.Prelude.{codes}
use Rattle.std.proofs.lemmas.Result.{MatchResult-from_err}
use Rattle.pip_io.proofs.Piecewise.{part_after, part_longer, wrote_of}
use Rattle.pip_search_commands.specs.EveryText.{coming_words}
use Rattle.pip_search_commands.proofs.commands.against.comes.write_one.Goals as goal

pub returns-in_err-write_all : goal.returns-in_err-write_all
returns-in_err-write_all g c = record {
  wrote = MatchResult-from_err c.from_residual.result _ _ c.from_residual.ensures.0 (λ _.
      part_longer _ _ (codes "comes ") _ c.in_err-write_all.ensures.prefix);
  cause = search rules;
}

pub returns-in_err-write_all-2 : goal.returns-in_err-write_all-2
returns-in_err-write_all-2 g c = record {
  wrote = MatchResult-from_err c.from_residual-in_err-write_all-2.result _ _
      c.from_residual-in_err-write_all-2.ensures.0 (λ _.
      part_after _ _ _ (codes "comes ") _ c.in_ok-write_all.ensures.whole
      (part_longer _ _ c.args.label.now _ c.in_err-write_all-2.ensures.prefix));
  cause = search rules;
}

pub returns : goal.returns
returns g c = record {
  wrote = wrote_of _ _ _ (codes "comes ") _ c.write_words.result c.in_ok-write_all.ensures.whole
      (wrote_of _ _ _ c.args.label.now (coming_words c.args.cpus c.args.lines.now c.args.said.now) c.write_words.result
      c.in_ok-write_all-2.ensures.whole c.write_words.ensures.wrote);
  cause = search rules;
}
