use Rattle.std.proofs.Common.{rules, ◌++◌, ◌∷◌, []}
use Rattle.std.specs.Prelude.{codes}
use Rattle.std.proofs.lemmas.Result.{MatchResult-from_err}
use Rattle.pip_audit.specs.CoreTexts.{core_words}
use Rattle.pip_certificates.specs.Entries.{number_list}
use Rattle.pip_io.proofs.Piecewise.{part_after, part_longer, wrote_of}
use Rattle.pip_certificates.proofs.Lines.{told_line}
use Rattle.pip_certificates.proofs.writing.write_last.Goals as goal

pub returns-in_err-write_all : goal.returns-in_err-write_all
returns-in_err-write_all g c = told_line _ _ _ _ c.args.about.now c.args.numbers.now (record {
  wrote = MatchResult-from_err c.from_residual.result _ _ c.from_residual.ensures.0 (λ _.
      part_longer _ _ (codes "part ") _ c.in_err-write_all.ensures.prefix);
  cause = search rules;
})

pub returns-in_err-write_all-2 : goal.returns-in_err-write_all-2
returns-in_err-write_all-2 g c = told_line _ _ _ _ c.args.about.now c.args.numbers.now (record {
  wrote = MatchResult-from_err c.from_residual-in_err-write_all-2.result _ _
      c.from_residual-in_err-write_all-2.ensures.0 (λ _.
      part_after _ _ _ (codes "part ") _ c.in_ok-write_all.ensures.whole
      (part_longer _ _ c.args.about.now _ c.in_err-write_all-2.ensures.prefix));
  cause = search rules;
})

pub returns : goal.returns
returns g c = told_line _ _ _ _ c.args.about.now c.args.numbers.now (record {
  wrote = wrote_of _ _ _ (codes "part ") _ c.write_numbers.result c.in_ok-write_all.ensures.whole
      (wrote_of _ _ _ c.args.about.now (core_words (number_list c.args.numbers.now) ++ 10 ∷ [])
      c.write_numbers.result c.in_ok-write_all-2.ensures.whole c.write_numbers.ensures.wrote);
  cause = search rules;
})
