use Rattle.std.proofs.Common.{length, ◌≡◌, ◌≤◌, ◌<◌, ◌+◌, ℕ, List, [], Option}
use Rattle.pip_model.specs.declared.assembly.Stage.TheVariants.{Start}
use Rattle.pip_model.specs.Grammar.{lines_of}
use Rattle.pip_model.specs.Assembly.{first_pass, first_state, second_pass}
use Rattle.pip_asm.specs.Emitted.{prefix}
use Rattle.pip_asm.specs.Reading.{IsProperState, bytes_said, state_of}
use Rattle.pip_asm.proofs.reading.read_lines.Given as goal

abbrev pub invariant-loop-rest : goal.invariant-loop-rest
invariant-loop-rest l = record {
  same : first_pass (state_of l.passed) l.number (lines_of l.rest) ≡ first_pass first_state 1 (lines_of l.text);
  bytes : (names : List ℕ → Option ℕ) → bytes_said names l.passed l.number (lines_of l.rest)
      ≡ prefix [] (second_pass names Start 0 0 1 (lines_of l.text));
  proper : IsProperState l.passed;
  pages : length l.passed.pages.items < l.number;
  few : l.number + length l.rest ≤ length l.text + 1;
}

abbrev pub decreases-loop-rest : goal.decreases-loop-rest
decreases-loop-rest l = length l.rest
