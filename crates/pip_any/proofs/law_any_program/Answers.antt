use Rattle.pip_any.proofs.Searched.{any_program_from_start, any_program_is_named}
use Rattle.pip_any.proofs.Searched.{away_texts_name_programs, passed_names_any_program}
use Rattle.pip_any.proofs.law_any_program.Goals as goal

pub returns : goal.returns
returns c = record {
  named = any_program_is_named;
  from_start = any_program_from_start;
  text = away_texts_name_programs;
  passed = passed_names_any_program;
}
